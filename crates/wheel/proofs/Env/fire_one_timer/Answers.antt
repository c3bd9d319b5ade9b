-- `wheel::Env::fire_one_timer` meets its contract. Assumes nothing.
use native.Mathlib.Omega.{arith}
use mathlib.Core.Path.{refl, ◌∙◌}
use Rattle.eval.specs.Answers.{env_in}
use Rattle.wheel.proofs.Each.{timer-rules}
use Rattle.wheel.proofs.Going.{room-here}
use Rattle.wheel.proofs.Loops.{starting-starts, starting-goes, starting-ends}
use Rattle.wheel.proofs.Names.{order-at, order-few}
use Rattle.wheel.proofs.Env.fire_one_timer.Goals as goal

pub loop-i-init : goal.loop-i-init
loop-i-init c =
    record {
      does = starting-starts _ _ _ _ _ _ _ _;
      same = (refl, refl, refl);
    }

pub invariant_of-rule : goal.invariant_of-rule
invariant_of-rule c = record { inside = order-at _ _ c.args.self.now.ordered _ c.loop-i-test.true }

pub fire_on_timer-requires : goal.fire_on_timer-requires
fire_on_timer-requires c =
    let f = order-few _ _ c.args.self.now.ordered c.args.self.now.holds.accepted in
    room-here _ _ _ _ _ _ _ _ _ _ c.loop-i.invariant.does 64 (omega (arith, c.loop-i-test.true, f)) c.requires

pub loop-i-preserved : goal.loop-i-preserved
loop-i-preserved c =
    let a = c.loop-i.invariant.same in
    let b = c.fire_on_timer.ensures.same in
    record {
      does = starting-goes _ _ _ _ _ c.loop-i.invariant.does 0 _ c.loop-i-test.true refl c.fire_on_timer.ensures.does;
      same = (b.0 ∙ a.0, b.1 ∙ a.1, b.2 ∙ a.2);
    }

pub returns : goal.returns
returns c =
    let f = order-few _ _ c.args.self.now.ordered c.args.self.now.holds.accepted in
    record {
      does = timer-rules (env_in c.args.self.now.snapshot.now c.args.self.now.image.now) _ _ c.args.timer c.args.self.now.ordered (starting-ends _ _ _ _ _ c.loop-i.invariant.does 64 c.loop-i-test.false (omega (arith, c.loop-i.auto, f)));
      same = c.loop-i.invariant.same;
    }
