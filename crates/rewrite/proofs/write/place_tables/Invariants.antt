-- `rewrite::write::place_tables` meets its contract. Assumes nothing.
use Rattle.rewrite.proofs.CodeLaws.{Placing}
use Rattle.rewrite.proofs.write.place_tables.Given as goal

abbrev pub invariant-loop-t : goal.invariant-loop-t
invariant-loop-t l = Placing l.counts l.firsts l.at l.t
