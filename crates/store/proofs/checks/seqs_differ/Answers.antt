-- `store::checks::seqs_differ` meets its contract. Assumes nothing.
use mathlib.Core.Path.{◌∙◌}
use Rattle.store.proofs.Rules.{seqs-differ}
use native.Mathlib.Omega.{arith}
use Rattle.store.proofs.checks.seqs_differ.Goals as goal

pub returns : goal.returns
returns c = c.distinct.ensures ∙ seqs-differ _ _ _ (λ i. omega (arith, c.shared_slice_known-1.given i))
