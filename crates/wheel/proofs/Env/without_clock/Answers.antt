-- `wheel::Env::without_clock` meets its contract. Assumes nothing.
use Rattle.wheel.proofs.WallParts.{forgets}
use Rattle.wheel.proofs.Env.without_clock.Goals as goal

pub returns : goal.returns
returns c =
    forgets c.args.self.now.image.now c.args.v.now _ _ c.has_wall_triggers-missed.ensures c.count_missed.ensures c.set_prev_week_min.ensures
