-- `telegrams::put_kept` meets its contract: what is left to be written gives the whole. Assumes nothing.
use Rattle.telegrams.proofs.CodeLaws.{Putting}
use Rattle.telegrams.proofs.put_kept.Given as goal

abbrev pub invariant-loop-k : goal.invariant-loop-k
invariant-loop-k l = Putting l.records l.initial.list l.list l.k l.n
