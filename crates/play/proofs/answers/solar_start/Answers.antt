-- `play::answers::solar_start` meets its contract. Assumes nothing.
use Rattle.std.proofs.Common.{ℕ, ap, ◌++◌, append_assoc}
use Rattle.model.specs.Text.{bytes_of}
use Rattle.script.specs.Print.{signed}
use Rattle.play.proofs.Gathering.{gathers_by, gathers_three}
use Rattle.play.proofs.answers.solar_start.Goals as goal

pub returns : goal.returns
returns c =
    let remainder = gathers_by c.signed_last.ensures (ap (λ (w : ℕ). signed w ++ bytes_of "\n") c.word.ensures) in
    gathers_three c.text.ensures c.words.ensures remainder (simp append_assoc)
