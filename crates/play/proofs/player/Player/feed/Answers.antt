-- `play::player::Player::feed` meets its contract. Assumes nothing.
use Rattle.play.proofs.Standing.{follows_more}
use Rattle.play.proofs.player.Player.feed.Goals as goal

pub loop-b-preserved : goal.loop-b-preserved
loop-b-preserved c = follows_more _ _ _ _ _ c.loop-b-test.true c.loop-b.invariant c.feed_byte.ensures
