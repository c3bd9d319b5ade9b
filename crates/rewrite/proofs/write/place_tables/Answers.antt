-- `rewrite::write::place_tables` meets its contract. Assumes nothing.
use native.Mathlib.Omega.{arith}
use Rattle.rewrite.proofs.CodeLaws.{placing-begins, placing-fits, placing-turn}
use Rattle.rewrite.proofs.write.place_tables.Goals as goal

pub loop-t-init : goal.loop-t-init
loop-t-init c = placing-begins _ _ c.requires.1

pub overflow_mul-at : goal.overflow_mul-at
overflow_mul-at c = omega (arith, placing-fits _ _ _ _ _ c.loop-t.invariant c.loop-t-test.true c.width_of.ensures.0 c.requires.2)

pub overflow_add-at : goal.overflow_add-at
overflow_add-at c = omega (arith, placing-fits _ _ _ _ _ c.loop-t.invariant c.loop-t-test.true c.width_of.ensures.0 c.requires.2)

pub loop-t-preserved : goal.loop-t-preserved
loop-t-preserved c = placing-turn _ _ _ _ _ c.loop-t.invariant c.loop-t-test.true c.width_of.ensures.0
