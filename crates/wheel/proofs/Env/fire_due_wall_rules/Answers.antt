-- `wheel::Env::fire_due_wall_rules` meets its contract. Assumes nothing.
use native.Mathlib.Omega.{arith}
use mathlib.Core.Path.{refl, ◌∙◌}
use Rattle.wheel.proofs.Going.{room-here}
use Rattle.wheel.proofs.Loops.{turning-starts, turning-goes, turning-ends}
use Rattle.wheel.proofs.Names.{order-at, order-few}
use Rattle.wheel.proofs.Env.fire_due_wall_rules.Goals as goal

pub loop-i-init : goal.loop-i-init
loop-i-init c =
    record {
      does = turning-starts _ _ _ _ _ _ _;
      same = (refl, refl, refl);
    }

pub invariant_of-rule : goal.invariant_of-rule
invariant_of-rule c = record { inside = order-at _ _ c.args.self.now.ordered _ c.loop-i-test.true }

pub wall_turn-requires : goal.wall_turn-requires
wall_turn-requires c =
    let f = order-few _ _ c.args.self.now.ordered c.args.self.now.holds.accepted in
    room-here _ _ _ _ _ _ _ _ _ _ c.loop-i.invariant.does 64 (omega (arith, c.loop-i-test.true, f)) c.requires

pub loop-i-preserved : goal.loop-i-preserved
loop-i-preserved c =
    let a = c.loop-i.invariant.same in
    let b = c.wall_turn.ensures.same in
    record {
      does = turning-goes _ _ _ _ _ c.loop-i.invariant.does 0 _ _ c.loop-i-test.true refl c.wall_turn.ensures.does;
      same = (b.0 ∙ a.0, b.1 ∙ a.1, b.2 ∙ a.2);
    }

pub returns : goal.returns
returns c =
    let f = order-few _ _ c.args.self.now.ordered c.args.self.now.holds.accepted in
    record {
      does = rw c.args.self.now.ordered at (turning-ends _ _ _ _ _ c.loop-i.invariant.does 64 c.loop-i-test.false (omega (arith, c.loop-i.auto, f)) c.count_missed.ensures);
      same = c.loop-i.invariant.same;
    }
