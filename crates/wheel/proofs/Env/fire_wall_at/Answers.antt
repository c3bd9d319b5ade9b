-- `wheel::Env::fire_wall_at` meets its contract. Assumes nothing.
use mathlib.Core.Path.{refl}
use Rattle.activate.specs.Carried.{carried_by}
use Rattle.wheel.proofs.WallParts.{remember-room, first-minute, set_back, catches-up}
use Rattle.wheel.proofs.Env.fire_wall_at.Goals as goal

pub returns-in_default : goal.returns-in_default
returns-in_default c =
    record {
      does = first-minute c.args.self.now.snapshot.now c.args.self.now.image.now c.args.w (carried_by c.args.lent.now) _ c.week_minute-minute.ensures.0 c.set_prev_week_min.ensures c.prev_week_min-prev.result c.prev_week_min-prev.ensures _ _ c.in_default.is;
      same = (refl, refl, refl);
    }

pub returns-then-is_set_back : goal.returns-then-is_set_back
returns-then-is_set_back c =
    record {
      does = set_back c.args.self.now.snapshot.now c.args.self.now.image.now c.args.w (carried_by c.args.lent.now) _ c.week_minute-minute.ensures.0 c.set_prev_week_min.ensures c.prev_week_min-prev.result c.prev_week_min-prev.ensures _ c.in-Some.is _ _ _ c.is_set_back.ensures c.if-is_set_back.true;
      same = (refl, refl, refl);
    }

pub fire_window-requires : goal.fire_window-requires
fire_window-requires c =
    (remember-room (carried_by c.args.lent.now) _ 64 c.set_prev_week_min.ensures c.requires.0, c.week_minute-minute.ensures.1, c.window_of-window.ensures.1)

pub returns : goal.returns
returns c =
    record {
      does = catches-up c.args.self.now.snapshot.now c.args.self.now.image.now c.args.w (carried_by c.args.lent.now) _ c.week_minute-minute.ensures.0 c.set_prev_week_min.ensures c.prev_week_min-prev.result c.prev_week_min-prev.ensures _ c.in-Some.is _ _ c.is_set_back.ensures c.if-is_set_back.false c.window_of-window.ensures.0 c.fire_window.ensures.does;
      same = c.fire_window.ensures.same;
    }
