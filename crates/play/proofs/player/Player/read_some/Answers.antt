-- `play::player::Player::read_some` meets its contract. Assumes nothing.
use Rattle.play.proofs.Standing.{reads_bytes}
use Rattle.play.proofs.player.Player.read_some.Goals as goal

pub returns : goal.returns
returns c = reads_bytes _ _ _ c.flush-2.ensures _ c.feed.ensures
