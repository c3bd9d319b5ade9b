-- Patterns as lists of elements. Assumes nothing.
use mathlib.Core.Path.{◌≡◌, refl, ◌∙◌}
use mathlib.Core.Bool.{Bool, true, false, cond, ◌&&◌, and-false}
use mathlib.Core.List.{List, [], ◌∷◌}
use Rattle.std.specs.Prelude.{Option, None, Some}
use Rattle.std.specs.Option.{is_some}
use Rattle.std.specs.List.{slice_split, position_or_len}
use Prim.Native.Nat.{ℕ, ◌+◌, ◌-◌, ◌≤◌, ◌<◌}
use native.Mathlib.Omega.{arith}
use borrow.Author.Tests.{lt-ltb, le-ltb, lt-leb, leb-false, leb-true}
use lib.Dec.{leb, ltb}
use lib.ListN.{length, take, drop, length-drop}
use lib.Seq.{take_all}
use Rattle.model.specs.Lists.{all, any}
use Rattle.model.specs.Crontab.{is_comma, is_hyphen, until, number_of, range_of, element_of, elements_of, holds, is_asterisk, is_pattern, covers}
use Rattle.model.proofs.SortLaws.{all_map, any-map}
use Rattle.crontab.specs.Scanned.{word_sized}
use Rattle.crontab.proofs.Scans.{place-some, place-none}

-- what 32 bits do not hold is in no field
pub range-sized : (lo hi : ℕ) (a b : Option ℕ) → hi < 4294967296 → range_of lo hi (word_sized a) (word_sized b) ≡ range_of lo hi a b
unfolding range_of
range-sized lo hi None b h = refl
range-sized lo hi (Some n) None h = go (leb n 4294967295)
  where
    go : (t : Bool) → range_of lo hi (cond t (Some n) None) None ≡ None
    go true = refl
    go false = refl
range-sized lo hi (Some n) (Some m) h = go (leb n 4294967295) (leb m 4294967295) refl refl
  where
    go : (t u : Bool) → leb n 4294967295 ≡ t → leb m 4294967295 ≡ u → range_of lo hi (cond t (Some n) None) (cond u (Some m) None) ≡ cond (leb lo n && (leb n m && leb m hi)) (Some (n, m)) None
    go true true e d = refl
    go true false e d =
        let k : hi < m = omega (arith, leb-false m 4294967295 d) in
        rw (lt-leb m hi k, and-false, and-false)
    go false true e d =
        let k : m < n = omega (arith, leb-false n 4294967295 e, leb-true m 4294967295 d) in
        rw (lt-leb n m k, and-false)
    go false false e d =
        let k : hi < m = omega (arith, leb-false m 4294967295 d) in
        rw (lt-leb m hi k, and-false, and-false)

module _ (lo hi : ℕ) (s : List ℕ) (h : hi < 4294967296) {r : Option ℕ} (f : r ≡ cond (ltb (position_or_len is_hyphen s) (length s)) (Some (position_or_len is_hyphen s)) None) {e : Option (ℕ × ℕ)} where
  pub element-two : (i : ℕ) → r ≡ Some i → {a b : Option ℕ} → a ≡ word_sized (number_of (take i s)) → b ≡ word_sized (number_of (take (length s - (i + 1)) (drop (i + 1) s)))
      → e ≡ range_of lo hi a b → e ≡ element_of lo hi s
  unfolding element_of
  element-two i g p q d =
      let k = place-some is_hyphen s f i g in
      let n : length (drop (i + 1) s) ≤ length s - (i + 1) = rw length-drop (omega arith) in
      d ∙ rw (← k.1, lt-ltb i (length s) (rw k.1 k.0), p, q, take_all (length s - (i + 1)) (drop (i + 1) s) n) (range-sized lo hi (number_of (take i s)) (number_of (drop (i + 1) s)) h)

  pub element-one : r ≡ None → {n : Option ℕ} → n ≡ word_sized (number_of s) → e ≡ range_of lo hi n n → e ≡ element_of lo hi s
  unfolding element_of
  element-one g p d = d ∙ rw (p, le-ltb (until is_hyphen s) (length s) (place-none is_hyphen s f g)) (range-sized lo hi (number_of s) (number_of s) h)

-- an element of a pattern, and one that holds a number
abbrev pub fits : ℕ → ℕ → List ℕ → Bool
fits lo hi e = is_some (element_of lo hi e)

abbrev pub covered : ℕ → ℕ → ℕ → List ℕ → Bool
covered lo hi v e = holds v (element_of lo hi e)

module _ (lo hi : ℕ) (s : List ℕ) where
  module _ {r : Bool} (e : r ≡ is_asterisk s) (t : r ≡ true) where
    pub starred : r ≡ is_pattern lo hi s
    unfolding is_pattern
    starred = rw (← e, t)

    pub starred-covers : (v : ℕ) → r ≡ covers lo hi s v
    unfolding covers
    starred-covers v = rw (← e, t)

  module _ (star : is_asterisk s ≡ false) {r : Bool} where
    pub fits-by-elements : r ≡ all (fits lo hi) (slice_split is_comma s) → r ≡ is_pattern lo hi s
    unfolding is_pattern elements_of
    fits-by-elements q = rw (star, all_map (element_of lo hi) is_some (slice_split is_comma s)) q

    pub covers-by-elements : (v : ℕ) → r ≡ any (covered lo hi v) (slice_split is_comma s) → r ≡ covers lo hi s v
    unfolding covers elements_of
    covers-by-elements v q = rw (star, any-map (element_of lo hi) (holds v) (slice_split is_comma s)) q
