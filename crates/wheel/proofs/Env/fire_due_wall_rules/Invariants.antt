-- `wheel::Env::fire_due_wall_rules` meets its contract. Assumes nothing.
use Rattle.activate.specs.Carried.{Over}
use Rattle.eval.specs.Answers.{env_in}
use Rattle.wheel.proofs.Loops.{Turning}
use Rattle.wheel.proofs.Env.fire_due_wall_rules.Given as goal

abbrev pub invariant-loop-i : goal.invariant-loop-i
invariant-loop-i l =
    Over (λ x ow ew. Turning (env_in l.self.snapshot.now l.self.image.now) l.window.base l.window.window l.self.order.now x ow ew l.solar_unsynced l.i-index) l.initial.lent l.lent
