-- `store::checks::Rows::numbers_given` meets its contract. Assumes nothing.
use Rattle.std.proofs.Common.{rules}
use Rattle.std.proofs.lemmas.Iterator.Consumers.{YieldsList-from_first}
use Rattle.fields.proofs.Chains.{computes-all}
use Rattle.image.proofs.Ranges.{le-is}
use Rattle.model.specs.Store.{is_given}
use Rattle.store.proofs.checks.Rows.numbers_given.Goals as goal

pub returns : goal.returns
returns c = computes-all _ _ (is_given c.args.last) _ c.all.ensures.ran (YieldsList-from_first (λ x. x) (λ rest. rest) _ c.pending.ensures) (λ x b q k. search (rules, le-is))
