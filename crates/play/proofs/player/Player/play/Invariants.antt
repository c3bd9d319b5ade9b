-- `play::player::Player::play` meets its contract. Assumes nothing.
use Rattle.play.specs.Played.{Reads}
use Rattle.play.proofs.player.Player.play.Given as goal

abbrev pub invariant-loop : goal.invariant-loop
invariant-loop l = Reads l.initial.self l.self
