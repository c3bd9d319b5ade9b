-- `store::parts_fit` meets its contract. Assumes nothing.
use Rattle.std.proofs.Common.{arith, rules}
use Rattle.std.proofs.lemmas.Grind.{common_steps}
use Rattle.store.proofs.Tables.{sizes-next, stops, goes, none-left}
use Rattle.store.proofs.parts_fit.Goals as goal

pub returns-then-not-fits : goal.returns-then-not-fits
returns-then-not-fits c = stops c.args.parts.now _ _ c.loop-part-test.true _ _ c.loop-part.invariant.1 _ c.fits.ensures (search rules)

pub overflow_add-k : goal.overflow_add-k
overflow_add-k c = grind (arith, common_steps, sizes-next)

pub loop-part-preserved : goal.loop-part-preserved
loop-part-preserved c = (grind (arith, common_steps, sizes-next), goes c.args.parts.now _ _ c.loop-part-test.true _ _ c.loop-part.invariant.1 _ c.fits.ensures (search rules) _ c.size-k.ensures)

pub returns : goal.returns
returns c = grind (arith, common_steps, none-left)
