-- `wheel::Env::fire_due_timers` meets its contract. Assumes nothing.
use Rattle.model.specs.Wheel.{by_timer}
use Rattle.activate.specs.Carried.{Over}
use Rattle.eval.specs.Answers.{env_in}
use Rattle.wheel.specs.Tick.{rules_of_timer}
use Rattle.wheel.proofs.Loops.{Starting}
use Rattle.wheel.proofs.Env.fire_due_timers.Given as goal

abbrev pub invariant-loop-t : goal.invariant-loop-t
invariant-loop-t l =
    Over (λ x ow ew. Starting 64 (env_in l.self.snapshot.now l.self.image.now) by_timer (rules_of_timer l.self.image.now) l.due x ow ew l.t-index) l.initial.lent l.lent
