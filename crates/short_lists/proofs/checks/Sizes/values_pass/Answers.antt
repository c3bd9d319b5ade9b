-- `short_lists::checks::Sizes::values_pass` meets its contract. Assumes nothing.
use mathlib.Core.Path.{◌∙◌}
use borrow.Author.Rules.{rules}
use Rattle.fields.proofs.Chains.{computes-all}
use Rattle.short_lists.specs.Checks.{record_passes, values_pass}
use Rattle.short_lists.proofs.Chunks.{yields, all-records}
use Rattle.short_lists.proofs.checks.Sizes.values_pass.Goals as goal

pub returns : goal.returns
unfolding values_pass
returns c =
    let s = c.args.self in
    let p = record_passes s.values s.pool 5 in
    computes-all _ _ p _ c.all.ensures.ran (yields _ c.chunks_exact.ensures.rest c.chunks_exact.ensures.size) (λ x b q k. search rules) ∙ all-records p _
