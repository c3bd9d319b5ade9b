-- `wheel::Env::fire_wall_schedules` meets its contract. Assumes nothing.
use mathlib.Core.Path.{refl, sym, ◌∙◌}
use Rattle.std.specs.Prelude.{Some}
use Rattle.model.specs.Wheel.{fire_wall_at, fire_wall_schedules}
use Rattle.world.proofs.Laws.{wall-in-range}
use Rattle.activate.specs.Carried.{carried_by}
use Rattle.eval.specs.Answers.{env_in}
use Rattle.wheel.proofs.Fires.{same-part}
use Rattle.wheel.proofs.WallParts.{with-clock, without-clock}
use Rattle.wheel.proofs.Env.fire_wall_schedules.Goals as goal

pub fire_wall_at-requires : goal.fire_wall_at-requires
fire_wall_at-requires c =
    (c.requires, wall-in-range _ c.args.self.now.accepted (sym c.wall.ensures ∙ c.in-Some.is))

pub returns-in-Some : goal.returns-in-Some
returns-in-Some c =
    let e = env_in c.args.self.now.snapshot.now c.args.self.now.image.now in
    record {
      does = same-part 64 (fire_wall_at (Some _) e) (fire_wall_schedules e) (with-clock c.args.self.now.snapshot.now c.args.self.now.image.now c.wall.ensures _ _ c.in-Some.is) c.fire_wall_at.ensures.does;
      same = c.fire_wall_at.ensures.same;
    }

pub returns-in-None : goal.returns-in-None
returns-in-None c =
    record {
      does = without-clock c.args.self.now.snapshot.now c.args.self.now.image.now c.wall.ensures (carried_by c.args.lent.now) _ _ c.in-None.is c.without_clock.ensures;
      same = (refl, refl, refl);
    }
