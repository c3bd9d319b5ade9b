-- `world::rows::find` meets its contract. Assumes nothing.
use mathlib.Core.Path.{◌≡◌, ap, ◌∙◌}
use mathlib.Core.Bool.{true, false}
use Prim.Native.Nat.{ℕ}
use lib.Dec.{eqb}
use lib.ListN.{get_or}
use borrow.Author.Rules.{rules}
use Rattle.std.specs.Option.{option_map}
use Rattle.std.proofs.lemmas.Iterator.{first_from_Range}
use Rattle.model.specs.Field.{cell_of}
use Rattle.model.specs.Lists.{every}
use Rattle.world.specs.Tables.{number}
use Rattle.world.proofs.First.{found, mapped}
use Rattle.world.proofs.Lookups.{in-table}
use Rattle.world.proofs.rows.find.Goals as goal

pub returns : goal.returns
returns g c =
    let t = number g.R.SnapshotRow.TABLE in
    let rows = c.rows-rows.result in
    let cell = cell_of rows.words.now rows.start rows.width in
    let p = λ (i : ℕ). every c.key-key.result (λ j. eqb (cell i j) (get_or c.args.address.now j 0)) in
    let read = λ (i : ℕ). g.R.SnapshotRow.of_words (cell i) in
    let e = rw c.TABLE.ensures at c.rows-rows.ensures in
    let k = rw c.TABLE-2.ensures at c.key-key.ensures in
    let n = rw c.TABLE-3.ensures at c.count.ensures in
    mapped read c.find.result c.map.result c.map.ensures.cases (λ x y k. search rules)
    ∙ ap (option_map read) (found p c.count.result c.find.result (first_from_Range _ _ _ _ (λ i. p i ≡ true) (λ i. p i ≡ false) c.find.ensures.ran (λ x q k. search rules) (λ x q k. search rules)))
    ∙ in-table g.R.SnapshotRow.of_words c.args.s.now t c.args.address.now e.words e.start e.width k.0 n
