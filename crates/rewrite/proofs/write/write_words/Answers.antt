-- `rewrite::write::write_words` meets its contract. Assumes nothing.
use mathlib.Core.Path.{refl}
use native.Mathlib.Omega.{arith}
use Rattle.rewrite.proofs.CodeLaws.{empty-size, end-few}
use Rattle.rewrite.proofs.Whole.{counts-size, second-pass}
use Rattle.rewrite.proofs.write.write_words.Goals as goal

pub place_tables-end-requires : goal.place_tables-end-requires
place_tables-end-requires c = (c.requires.counts.0, refl, omega (arith, counts-size c.args.image.now c.args.counts.now c.requires.counts.1, c.requires.room.0))

pub walk_tables-requires-clause-counts : goal.walk_tables-requires-clause-counts
walk_tables-requires-clause-counts c = (refl, empty-size _ refl)

pub put_trailer-requires : goal.put_trailer-requires
put_trailer-requires c =
    end-few _ _ _ c.place_tables-end.ensures (omega (arith, counts-size c.args.image.now c.args.counts.now c.requires.counts.1, c.requires.room.0))

pub returns : goal.returns
returns c =
    second-pass _ _ _ _ _ c.requires.room.1 c.requires.counts.1 c.place_tables-end.ensures c.requires.room.0 _ _ refl c.requires.room.2
    _ _ _ _ _ c.walk_tables.ensures c.put_trailer.ensures
