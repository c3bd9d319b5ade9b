-- `wheel::Env::fire_due_timers` meets its contract. Assumes nothing.
use native.Mathlib.Omega.{arith}
use mathlib.Core.Path.{refl, ◌∙◌}
use Rattle.wheel.proofs.Loops.{starting-starts, starting-goes, starting-ends}
use Rattle.wheel.proofs.Env.fire_due_timers.Goals as goal

pub loop-t-init : goal.loop-t-init
loop-t-init c =
    record {
      does = starting-starts _ _ _ _ _ _ _ _;
      same = (refl, refl, refl);
    }

pub loop-t-preserved : goal.loop-t-preserved
loop-t-preserved c =
    let a = c.loop-t.invariant.same in
    let b = c.fire_one_timer.ensures.same in
    record {
      does = starting-goes _ _ _ _ _ c.loop-t.invariant.does _ _ c.loop-t-test.true refl c.fire_one_timer.ensures.does;
      same = (b.0 ∙ a.0, b.1 ∙ a.1, b.2 ∙ a.2);
    }

pub returns : goal.returns
returns c =
    record {
      does = starting-ends _ _ _ _ _ c.loop-t.invariant.does 1024 c.loop-t-test.false (omega (arith, c.loop-t.auto, c.requires.few));
      same = c.loop-t.invariant.same;
    }
