-- `store::pending::records_fit` meets its contract. Assumes nothing.
use Rattle.std.proofs.Common.{rules}
use Rattle.std.proofs.lemmas.Iterator.Consumers.{YieldsList-from_first}
use Rattle.fields.proofs.Chains.{computes-all}
use Rattle.std.specs.Prelude.{Some}
use Rattle.model.specs.Store.{pending_fits}
use Rattle.store.proofs.pending.records_fit.Goals as goal

pub returns : goal.returns
returns c = λ set kept. computes-all _ _ (pending_fits (Some set)) _ c.all.ensures.ran (YieldsList-from_first (λ x. x) (λ rest. rest) _ c.pending.ensures) (λ x b q k. search rules)
