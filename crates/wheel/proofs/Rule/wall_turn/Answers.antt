-- `wheel::Rule::wall_turn` meets its contract. Assumes nothing.
use mathlib.Core.Path.{refl}
use Rattle.activate.specs.Carried.{carried_by}
use Rattle.wheel.proofs.WallParts.{passes-by, takes-turn}
use Rattle.wheel.proofs.Rule.wall_turn.Goals as goal

pub returns-else-is_enabled : goal.returns-else-is_enabled
returns-else-is_enabled c =
    record {
      does = passes-by c.args.self.now.env.now.snapshot.now c.args.self.now.env.now.image.now _ _ _ _ (carried_by c.args.lent.now) c.is_enabled.ensures _ _ c.if-is_enabled.false;
      same = (refl, refl, refl);
    }

pub returns-then-is_enabled : goal.returns-then-is_enabled
returns-then-is_enabled c =
    record {
      does = takes-turn c.args.self.now.env.now.snapshot.now c.args.self.now.env.now.image.now _ _ _ _ (carried_by c.args.lent.now) c.is_enabled.ensures _ _ c.if-is_enabled.true c.due_wall_kind-due.ensures c.start_wall.ensures.does;
      same = c.start_wall.ensures.same;
    }
