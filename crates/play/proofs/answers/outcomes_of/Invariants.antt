-- `play::answers::outcomes_of` meets its contract. Assumes nothing.
use Rattle.play.specs.Gathered.{Gathers}
use Rattle.play.specs.Printed.{outcome_lines}
use Rattle.play.proofs.answers.outcomes_of.Given as goal

abbrev pub invariant-loop-i : goal.invariant-loop-i
invariant-loop-i l = Gathers l.initial.out (outcome_lines l.outcomes l.effects l.i) l.out
