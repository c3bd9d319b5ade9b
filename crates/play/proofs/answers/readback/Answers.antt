-- `play::answers::readback` meets its contract. Assumes nothing.
use Rattle.std.proofs.Common.{append_assoc}
use Rattle.play.specs.Printed.{words_at}
use Rattle.play.proofs.Gathering.{gathers_lines}
use Rattle.play.proofs.answers.readback.Goals as goal

pub returns : goal.returns
unfolding words_at
returns c = gathers_lines c.writeln.ensures c.solar_starts.ensures (simp append_assoc)
