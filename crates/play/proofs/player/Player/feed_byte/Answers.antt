-- `play::player::Player::feed_byte` meets its contract. Assumes nothing.
use mathlib.Core.Path.{subst}
use Rattle.play.specs.Example.{room}
use Rattle.play.specs.Played.{Stands}
use Rattle.play.proofs.Standing.{pushed, line_feed, byte-added}
use Rattle.play.proofs.player.Player.feed_byte.Goals as goal

pub returns-then-b-eq10 : goal.returns-then-b-eq10
returns-then-b-eq10 c = λ p h. subst (Stands c.end_line.new.self) (line_feed room c.args.b p c.if-b-eq10.true) (c.end_line.ensures p h)

pub returns : goal.returns
returns c = byte-added c.args.self.now c.args.b _ c.if-b-eq10.false (λ p h. pushed c.try_push-fits.result 262145 c.args.b p.text _ _ h.text c.try_push-fits.ensures.variant c.try_push-fits.ensures.ok c.try_push-fits.ensures.err c.try_push-fits.ensures.full)
