-- `play::player::Player::feed` meets its contract. Assumes nothing.
use Rattle.std.proofs.Common.{take}
use Rattle.play.specs.Playing.{bytes_come}
use Rattle.play.specs.Example.{room}
use Rattle.play.specs.Played.{Follows}
use Rattle.play.proofs.player.Player.feed.Given as goal

abbrev pub invariant-loop-b : goal.invariant-loop-b
invariant-loop-b l = Follows (bytes_come room (take l.b-index l.input)) l.initial.self l.self
