-- `play::output::Output::short_line` meets its contract. Assumes nothing.
use Rattle.std.proofs.Common.{◌+◌, ◌++◌}
use Rattle.script.specs.Print.{numbers}
use Rattle.script.specs.Put.{Puts}
use Rattle.play.specs.Printed.{words_at}
use Rattle.play.proofs.output.Output.short_line.Given as goal

abbrev pub invariant-loop-i : goal.invariant-loop-i
invariant-loop-i l = Puts l.fn.piece 0 (1 + l.i) (l.name ++ numbers (words_at l.words l.at l.i)) l.piece l.n
