-- `play::answers::rewrite` meets its contract. Assumes nothing.
use Rattle.std.proofs.Common.{append_assoc}
use Rattle.play.proofs.Gathering.{gathers_three}
use Rattle.play.proofs.answers.rewrite.Goals as goal

pub returns : goal.returns
returns c = gathers_three c.text.ensures c.words.ensures c.last.ensures (simp append_assoc)
