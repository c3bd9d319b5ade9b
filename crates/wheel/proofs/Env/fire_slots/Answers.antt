-- `wheel::Env::fire_slots` meets its contract. Assumes nothing.
use native.Mathlib.Omega.{arith}
use mathlib.Core.Path.{refl, ◌∙◌}
use Rattle.wheel.proofs.Loops.{starting-starts, starting-goes, starting-ends}
use Rattle.wheel.proofs.Env.fire_slots.Goals as goal

pub loop-slot-init : goal.loop-slot-init
loop-slot-init c =
    record {
      does = starting-starts _ _ _ _ _ _ _ _;
      same = (refl, refl, refl);
    }

pub loop-slot-preserved : goal.loop-slot-preserved
loop-slot-preserved c =
    let a = c.loop-slot.invariant.same in
    let b = c.fire_slot.ensures.same in
    record {
      does = starting-goes _ _ _ _ _ c.loop-slot.invariant.does _ _ c.loop-slot-test.true refl c.fire_slot.ensures.does;
      same = (b.0 ∙ a.0, b.1 ∙ a.1, b.2 ∙ a.2);
    }

pub returns : goal.returns
returns c =
    record {
      does = starting-ends _ _ _ _ _ c.loop-slot.invariant.does 64 c.loop-slot-test.false (omega (arith, c.loop-slot.auto, c.requires.few));
      same = c.loop-slot.invariant.same;
    }
