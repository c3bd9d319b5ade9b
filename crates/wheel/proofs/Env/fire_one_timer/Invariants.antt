-- `wheel::Env::fire_one_timer` meets its contract. Assumes nothing.
use mathlib.Core.List.{[], ◌∷◌}
use Rattle.model.specs.Lists.{keep}
use Rattle.model.specs.Wheel.{by_timer}
use Rattle.activate.specs.Carried.{Over}
use Rattle.eval.specs.Answers.{env_in}
use Rattle.wheel.specs.Tick.{on_timer}
use Rattle.wheel.proofs.Loops.{Starting}
use Rattle.wheel.proofs.Env.fire_one_timer.Given as goal

abbrev pub invariant-loop-i : goal.invariant-loop-i
invariant-loop-i l =
    Over (λ x ow ew. Starting 1 (env_in l.self.snapshot.now l.self.image.now) by_timer (λ i. keep (on_timer l.self.image.now l.timer) (i ∷ [])) l.self.order.now x ow ew l.i-index) l.initial.lent l.lent
