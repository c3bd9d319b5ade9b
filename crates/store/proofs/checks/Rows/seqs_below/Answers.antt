-- `store::checks::Rows::seqs_below` meets its contract. Assumes nothing.
use Rattle.std.proofs.Common.{rules, ltb}
use Rattle.std.proofs.lemmas.Iterator.Consumers.{YieldsList-from_first}
use Rattle.fields.proofs.Chains.{computes-all}
use Rattle.model.specs.declared.Pending.{Pending}
use Rattle.store.proofs.checks.Rows.seqs_below.Goals as goal

pub returns : goal.returns
returns c = computes-all _ _ (λ (p : Pending). ltb p.seq c.args.next) _ c.all.ensures.ran (YieldsList-from_first (λ x. x) (λ rest. rest) _ c.pending.ensures) (λ x b q k. search rules)
