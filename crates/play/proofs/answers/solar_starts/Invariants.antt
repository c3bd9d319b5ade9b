-- `play::answers::solar_starts` meets its contract. Assumes nothing.
use Rattle.play.specs.Gathered.{Gathers}
use Rattle.play.specs.Printed.{solar_lines}
use Rattle.play.proofs.answers.solar_starts.Given as goal

abbrev pub invariant-loop-i : goal.invariant-loop-i
invariant-loop-i l = Gathers l.initial.out (solar_lines l.starts l.i) l.out
