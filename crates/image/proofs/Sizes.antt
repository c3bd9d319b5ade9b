-- The records of each table, by the numbers of the tables. Assumes nothing.
use mathlib.Core.Path.{◌≡◌, refl, sym, ◌∙◌}
use mathlib.Core.Bool.{Bool, true, false}
use mathlib.Core.List.{List, map}
use Prim.Native.Nat.{ℕ, ◌+◌, ◌≤◌}
use native.Mathlib.Nat.{sub-eq-zero_of_le, zero-div, zero-add, le_refl}
use native.Mathlib.Omega.{arith}
use borrow.Author.Tests.{le-ltb, ltb-true, ltb-false}
use lib.Dec.{ltb}
use lib.ListN.{get_or, get_or-eq_default}
use Rattle.model.specs.Lists.{up_from}
use Rattle.model.specs.Image.{first_of, size_of}
use Rattle.model.proofs.ListLaws.{map-up_from-at}

-- a number of no table has none
past-tables : (img : List ℕ) (t : ℕ) → 8 ≤ t → size_of img t ≡ 0
unfolding size_of first_of
past-tables img t h = rw (le-ltb t 8 h, le-ltb (t + 1) 8 (omega arith), sub-eq-zero_of_le (le_refl _), zero-div)

pub size-at : (img sizes : List ℕ) (t : ℕ) → sizes ≡ map (size_of img) (up_from 0 8) → get_or sizes t 0 ≡ size_of img t
size-at img sizes t e = rw e (go (ltb t 8) refl)
  where
    go : (b : Bool) → ltb t 8 ≡ b → get_or (map (size_of img) (up_from 0 8)) t 0 ≡ size_of img t
    go true q = map-up_from-at (size_of img) 0 0 8 t (ltb-true t 8 q) ∙ rw zero-add
    go false q =
        let h : 8 ≤ t = ltb-false t 8 q in
        get_or-eq_default (map (size_of img) (up_from 0 8)) 0 h ∙ sym (past-tables img t h)
