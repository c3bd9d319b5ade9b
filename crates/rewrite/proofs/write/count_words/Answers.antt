-- `rewrite::write::count_words` meets its contract. Assumes nothing.
use mathlib.Core.Path.{ap}
use lib.ListN.{length}
use Rattle.rewrite.proofs.CodeLaws.{empty-size}
use Rattle.rewrite.proofs.Whole.{counts-counted}
use Rattle.rewrite.proofs.write.count_words.Goals as goal

pub walk_tables-requires-clause-counts : goal.walk_tables-requires-clause-counts
walk_tables-requires-clause-counts c = (ap length c.requires.counts, empty-size _ c.requires.counts)

pub returns : goal.returns
returns c = counts-counted _ _ _ _ c.requires.counts _ _ _ _ c.walk_tables.ensures
