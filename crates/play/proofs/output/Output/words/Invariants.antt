-- `play::output::Output::words` meets its contract. Assumes nothing.
use Rattle.script.specs.Print.{numbers}
use Rattle.play.specs.Printed.{words_at}
use Rattle.play.specs.Gathered.{Gathers}
use Rattle.play.proofs.output.Output.words.Given as goal

abbrev pub invariant-loop-i : goal.invariant-loop-i
invariant-loop-i l = Gathers l.initial.self (numbers (words_at l.words l.at l.i)) l.self
