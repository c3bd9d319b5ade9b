-- The rows of a part that has so many: one is read, and one is written. Assumes nothing.
use mathlib.Core.Path.{◌≡◌, refl, sym, ap, subst, ◌∙◌}
use mathlib.Core.Bool.{true}
use mathlib.Core.List.{List, [], ◌++◌, append-nil}
use Prim.Native.Nat.{ℕ, ◌+◌, ◌*◌, ◌<◌}
use native.Mathlib.Nat.{add-zero, zero-mul}
use native.Mathlib.Omega.{arith}
use lib.ListN.{length, get_or, drop, set, length-set, drop_of_length-le, take-append-drop, get_or-map}
use lib.Seq.{drop-drop}
use Rattle.std.proofs.lemmas.Bool.{and_from}
use Rattle.model.specs.Layout.{Part, fixed, size_of, part_fits, rows_fit}
use Rattle.model.specs.Codec.{Row, rows_at, words_of, all_good}
use Rattle.model.proofs.RowLaws.{RowLaws, rows_long, rows-count, rows-reads, rows-writes}
use Rattle.rows.specs.Places.{laid, row_at}
use Rattle.state.specs.Meaning.{state_parts, place_of, words_in, part, Sound}
use Rattle.state.proofs.Cutting.{laid-behind, row-end}
use Rattle.state.proofs.Typed.{good-set, row_read, row_laid}
use Rattle.state.proofs.Frame.{Shaped, shaped, Changed, changed-laid, changed-words, part-is, part-long}

-- the words of part t, with x as their row i
unfoldable pub rows_set : {A : Type 0} → Row A → ℕ → ℕ → List ℕ → ℕ → A → List ℕ
rows_set r t n w i x = words_of r (set (rows_at r n (part t w)) i x)

module _ {A : Type 0} (r : Row A) (laws : RowLaws r) (t n : ℕ) (h : t < 15) (is : get_or state_parts t (fixed 0 []) ≡ fixed n r.cells) where
  abbrev f : ℕ
  f = length r.cells

  abbrev pub rows_of : List ℕ → List A
  rows_of w = rows_at r n (part t w)

  fixed-words : words_in t ≡ n * f
  fixed-words = get_or-map size_of state_parts t (fixed 0 []) ∙ ap size_of is

  module _ (w : List ℕ) (s : Sound w) where
    fits : rows_fit n r.cells (part t w) ≡ true
    fits = subst (λ (x : Part). part_fits x (part t w) ≡ true) is (s.parts.fit t h)

    pub rows_words : part t w ≡ words_of r (rows_of w)
    rows_words =
        let long : length (part t w) ≡ n * f = part-long t h w s.long ∙ fixed-words in
        let z : drop (n * f) (part t w) ≡ [] = drop_of_length-le (part t w) {i = n * f} (omega arith) in
        sym (rows-writes r laws n (part t w) fits).0 ∙ ap (λ (x : List ℕ). words_of r (rows_of w) ++ x) z ∙ append-nil (words_of r (rows_of w))

    rows-good : all_good r (rows_of w) ≡ true
    rows-good = (rows-writes r laws n (part t w) fits).1

    rows-many : length (rows_of w) ≡ n
    rows-many = rows-count r n (part t w)

    -- row i
    pub fixed-at : (i : ℕ) (d : A) → i < n → row_at r w (place_of t + i * f) ≡ get_or (rows_of w) i d
    unfolding row_at
    fixed-at i d l =
        let m = rows-many in
        let whole : drop (place_of t) w ≡ words_of r (rows_of w) ++ drop (words_in t) (drop (place_of t) w) =
        sym (take-append-drop (words_in t) (drop (place_of t) w)) ∙ ap (λ (x : List ℕ). x ++ drop (words_in t) (drop (place_of t) w)) (sym (part-is t h w) ∙ rows_words) in
        ap r.get (sym (drop-drop (i * f) (place_of t) w) ∙ ap (drop (i * f)) whole)
        ∙ row_read r laws (rows_of w) (drop (words_in t) (drop (place_of t) w)) i d rows-good (omega arith)

    module _ (i : ℕ) (x : A) (l : i < n) (g : r.good x ≡ true) where
      set_is : laid (part t w) (i * f) (r.put x) ≡ rows_set r t n w i x
      unfolding rows_set
      set_is =
          let m = rows-many in
          ap (λ (p : List ℕ). laid p (i * f) (r.put x)) (rows_words ∙ sym (append-nil (words_of r (rows_of w))))
          ∙ row_laid r laws [] (rows_of w) [] i (i * f) x (omega arith) (omega arith)
          ∙ append-nil (words_of r (set (rows_of w) i x))

      set_reads : (rows_at r n (rows_set r t n w i x) ≡ set (rows_of w) i x) × (rows_fit n r.cells (rows_set r t n w i x) ≡ true)
      unfolding rows_set
      set_reads =
          let m : length (set (rows_of w) i x) ≡ n = length-set (rows_of w) i x ∙ rows-many in
          let q = rows-reads r laws (set (rows_of w) i x) [] (good-set r laws (rows_of w) i x rows-good g) in
          let z = append-nil (words_of r (set (rows_of w) i x)) in
          (rw (m, z) at q.0, rw (m, z) at q.1)

      pub set_long : length (rows_set r t n w i x) ≡ n * f
      unfolding rows_set
      set_long = rows_long r laws (set (rows_of w) i x) ∙ ap (λ (m : ℕ). m * f) (length-set (rows_of w) i x ∙ rows-many)

      pub set-rows : rows_at r n (rows_set r t n w i x) ≡ set (rows_of w) i x
      set-rows = set_reads.0

      -- it is written
      pub fixed-set : (w' : List ℕ) → w' ≡ laid w (place_of t + i * f) (r.put x) → Changed w w' t (rows_set r t n w i x)
      fixed-set w' e =
          let end = row-end i n f l in
          let k = laws.long x in
          let fit : part_fits (get_or state_parts t (fixed 0 [])) (laid (part t w) (i * f) (r.put x)) ≡ true = rw (is, set_is) set_reads.1 in
          let c = changed-words t h w (r.put x) (i * f) (shaped w s) (omega (arith, end, k, fixed-words)) fit in
          subst (λ (p : List ℕ). Changed w w' t p) set_is (rw e c)

      -- and the words behind it stand
      pub set-behind : (m : ℕ) → i < m → drop (m * f) (rows_set r t n w i x) ≡ drop (m * f) (part t w)
      set-behind m b =
          let k = laws.long x in
          let end = row-end i m f b in
          let here = row-end i n f l in
          let long = part-long t h w s.long ∙ fixed-words in
          ap (drop (m * f)) (sym set_is) ∙ laid-behind (part t w) (i * f) (r.put x) (m * f) (omega (arith, k, end)) (omega (arith, here, long))

-- A PART OF ONE ROW
one-fits : {A : Type 0} (r : Row A) → RowLaws r → (x : A) → r.good x ≡ true → (r.get (r.put x) ≡ x) × (rows_fit 1 r.cells (r.put x) ≡ true)
unfolding rows_fit
one-fits r laws x g =
    let q = laws.reads x [] g in
    let z = append-nil (r.put x) in
    (rw z at q.0, and_from _ _ (rw z at q.1) refl)

module _ {A : Type 0} (r : Row A) (laws : RowLaws r) (t : ℕ) (h : t < 15) (is : get_or state_parts t (fixed 0 []) ≡ fixed 1 r.cells) where
  pub one_at : (w : List ℕ) → Sound w → row_at r w (place_of t) ≡ r.get (part t w)
  unfolding rows_at
  one_at w s =
      let z : place_of t + 0 * length r.cells ≡ place_of t = rw (zero-mul (length r.cells)) (add-zero (place_of t)) in
      ap (row_at r w) (sym z) ∙ fixed-at r laws t 1 h is w s 0 (r.get (part t w)) (omega arith)

  pub one-read : (x : A) → r.good x ≡ true → r.get (r.put x) ≡ x
  one-read x g = (one-fits r laws x g).0

  pub one_set : (w w' : List ℕ) (x : A) → Shaped w → r.good x ≡ true → w' ≡ laid w (place_of t) (r.put x) → Changed w w' t (r.put x)
  one_set w w' x s g e =
      let size : words_in t ≡ 1 * length r.cells = get_or-map size_of state_parts t (fixed 0 []) ∙ ap size_of is in
      rw e (changed-laid t h w (r.put x) s (omega (arith, laws.long x, size)) (rw is (one-fits r laws x g).1))
