-- Where the tables of an image end whose places fit. Assumes nothing.
use mathlib.Core.Path.{◌≡◌}
use mathlib.Core.Bool.{true}
use mathlib.Core.List.{List}
use Prim.Native.Nat.{ℕ, ◌+◌, ◌≤◌}
use native.Mathlib.Omega.{arith}
use lib.ListN.{length}
use lib.Dec.{eqb}
use borrow.Author.Tests.{eqb-true}
use Rattle.std.proofs.lemmas.Bool.{and_parts}
use Rattle.model.specs.Lists.{every}
use Rattle.model.specs.Image.{first_of, place_fits, places_fit}
use Rattle.model.proofs.ImageLaws.{table-follows, starts-inside}
use Rattle.image.specs.declared.layout.Table.{Table}
use Rattle.image.specs.Tables.{number_of}
use Rattle.image.proofs.Padding.{numbered}

module _ (img : List ℕ) (placed : places_fit img ≡ true) where
  pub tables-begin : first_of img 0 ≡ 0
  unfolding places_fit
  tables-begin = eqb-true _ _ (and_parts (eqb (first_of img 0) 0) (every 8 (place_fits img)) placed).0

  pub table-order : (t : Table) → first_of img (number_of t) ≤ first_of img (number_of t + 1)
  table-order t = table-follows img placed (number_of t) (numbered t)

  pub table-end : (t : Table) → first_of img (number_of t + 1) ≤ length img
  table-end t = starts-inside img placed (number_of t + 1) (omega (arith, numbered t))
