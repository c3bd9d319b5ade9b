-- `rewrite::walk::walk_tables` meets its contract. Assumes nothing.
use native.Mathlib.Omega.{arith}
use Rattle.rewrite.proofs.CodeLaws.{first-over, both-walked}
use Rattle.rewrite.proofs.walk.walk_tables.Goals as goal

pub returns-then-size-gt-MOST_WORDS : goal.returns-then-size-gt-MOST_WORDS
returns-then-size-gt-MOST_WORDS c = first-over _ _ _ _ _ _ _ c.walk_table-size.ensures c.if-size-gt-MOST_WORDS.true

pub returns : goal.returns
returns c = both-walked _ _ _ _ _ _ _ _ _ _ c.walk_table-size.ensures (omega (arith, c.if-size-gt-MOST_WORDS.false)) c.walk_table.ensures
