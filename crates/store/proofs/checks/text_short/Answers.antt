-- `store::checks::text_short` meets its contract. Assumes nothing.
use borrow.Author.Tests.{ne_eqb}
use Rattle.store.proofs.Rules.{no_text, text-is-short}
use Rattle.store.proofs.checks.text_short.Goals as goal

pub returns-then-at-ne1 : goal.returns-then-at-ne1
returns-then-at-ne1 c = rw (ne_eqb _ _ c.if-at-ne1.true) (no_text _ _ _ c.at.ensures c.if-at-ne1.true)

pub returns-else-at-ne1 : goal.returns-else-at-ne1
returns-else-at-ne1 c = text-is-short _ _ _ _ c.at.ensures c.at-else-at-ne1.ensures c.if-at-ne1.false
