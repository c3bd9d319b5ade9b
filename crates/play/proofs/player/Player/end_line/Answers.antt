-- `play::player::Player::end_line` meets its contract. Assumes nothing.
use Rattle.std.proofs.Common.{rules}
use Rattle.play.proofs.Standing.{line-ended}
use Rattle.play.proofs.player.Player.end_line.Goals as goal

pub returns : goal.returns
returns c = λ p h. line-ended c.args.self.now c.obey.new.self _ _ p h (search rules) c.clear.ensures c.obey.ensures
