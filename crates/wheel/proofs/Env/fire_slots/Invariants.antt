-- `wheel::Env::fire_slots` meets its contract. Assumes nothing.
use Rattle.model.specs.Wheel.{by_every}
use Rattle.activate.specs.Carried.{Over}
use Rattle.eval.specs.Answers.{env_in}
use Rattle.wheel.specs.Tick.{rules_of_slot}
use Rattle.wheel.proofs.Loops.{Starting}
use Rattle.wheel.proofs.Env.fire_slots.Given as goal

abbrev pub invariant-loop-slot : goal.invariant-loop-slot
invariant-loop-slot l =
    Over (λ x ow ew. Starting 1 (env_in l.self.snapshot.now l.self.image.now) by_every (rules_of_slot l.self.image.now) l.due x ow ew l.slot-index) l.initial.lent l.lent
