-- `telegrams::telegrams` meets its contract. Assumes nothing.
use native.Mathlib.Omega.{arith}
use Rattle.telegrams.proofs.CodeLaws.{refuse-60, refuse-61, keep_all}
use Rattle.telegrams.proofs.telegrams.Goals as goal

pub returns-then-not-are_effects : goal.returns-then-not-are_effects
returns-then-not-are_effects c = refuse-60 _ _ _ c.are_effects.ensures c.if-not-are_effects.true _ c.clear.ensures

pub returns-then-list-n : goal.returns-then-list-n
returns-then-list-n c =
    refuse-61 _ _ _ c.are_effects.ensures c.if-not-are_effects.false _ c.as_chunks.ensures.front _ _ _ c.clear.ensures c.put_kept-n.ensures (omega arith) _ c.clear-then-list-n.ensures

pub returns : goal.returns
returns c =
    keep_all _ _ _ c.are_effects.ensures c.if-not-are_effects.false _ c.as_chunks.ensures.front _ _ _ c.clear.ensures c.put_kept-n.ensures (omega arith)
