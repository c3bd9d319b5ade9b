-- `telegrams::are_effects` meets its contract. Assumes nothing.
use Rattle.std.proofs.Common.{rules}
use mathlib.Core.Path.{sym, ◌∙◌}
use borrow.Author.Tests.{eqb-true, eqb-false}
use lib.Dec.{leb}
use Rattle.std.proofs.lemmas.Iterator.{YieldsList-from_slice}
use Rattle.model.specs.Telegrams.{effect_at}
use Rattle.fields.proofs.Chains.{computes-all}
use Rattle.telegrams.proofs.CodeLaws.{not-whole, whole}
use Rattle.telegrams.proofs.are_effects.Goals as goal

pub returns-then-is_empty : goal.returns-then-is_empty
returns-then-is_empty c =
    whole _ _ c.as_chunks.ensures.back_len (eqb-true _ _ (sym c.is_empty.ensures ∙ c.if-is_empty.true)) _ c.as_chunks.ensures.front _
    (computes-all _ _ (λ r. leb (effect_at r 0).kind 12) _ c.all.ensures.ran (YieldsList-from_slice _ c.iter.ensures.rest) (λ x b q k. search rules))

pub returns-else-is_empty : goal.returns-else-is_empty
returns-else-is_empty c = c.if-is_empty.false ∙ not-whole _ _ c.as_chunks.ensures.back_len (eqb-false _ _ (sym c.is_empty.ensures ∙ c.if-is_empty.false))
