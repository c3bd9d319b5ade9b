-- `play::answers::rows` meets its contract. Assumes nothing.
use Rattle.play.specs.Gathered.{Gathers}
use Rattle.play.specs.Printed.{row_lines}
use Rattle.play.proofs.answers.rows.Given as goal

abbrev pub invariant-loop-i : goal.invariant-loop-i
invariant-loop-i l = Gathers l.initial.out (row_lines l.name l.x l.ws l.first l.i) l.out
