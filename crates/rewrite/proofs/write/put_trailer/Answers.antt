-- `rewrite::write::put_trailer` meets its contract. Assumes nothing.
use native.Mathlib.Omega.{arith}
use Rattle.rewrite.proofs.CodeLaws.{trailer-begins, trailer-turn}
use Rattle.rewrite.proofs.write.put_trailer.Goals as goal

pub loop-k-init : goal.loop-k-init
loop-k-init c = (omega arith, trailer-begins _ _ _ _)

pub loop-k-preserved : goal.loop-k-preserved
loop-k-preserved c =
    (omega (arith, c.loop-k-test.true), trailer-turn _ _ _ _ _ _ _ _ c.loop-k.invariant.1 c.trailer_of-w.ensures c.put.ensures)
