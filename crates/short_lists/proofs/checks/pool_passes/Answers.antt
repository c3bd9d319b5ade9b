-- `short_lists::checks::pool_passes` meets its contract. Assumes nothing.
use borrow.Author.Rules.{rules}
use Rattle.std.proofs.lemmas.Iterator.{YieldsList-from_slice}
use Rattle.fields.proofs.Chains.{computes-all}
use Rattle.short_lists.specs.Checks.{is_byte}
use Rattle.short_lists.proofs.checks.pool_passes.Goals as goal

pub returns : goal.returns
returns c = computes-all _ _ is_byte _ c.all.ensures.ran (YieldsList-from_slice c.args.pool.now c.iter.ensures.rest) (λ x b q k. search rules)
