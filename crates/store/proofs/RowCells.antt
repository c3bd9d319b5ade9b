-- Words against cells, rows and parts: what chains over words, cells and rows answer. Assumes nothing.
use mathlib.Core.Path.{◌≡◌, refl, sym, ap, ◌∙◌}
use mathlib.Core.Bool.{Bool, true, false, ◌&&◌, not, cond, and-true, and-false}
use mathlib.Core.List.{List, [], ◌∷◌}
use Prim.Native.Nat.{ℕ, zero, suc, ◌+◌, ◌*◌, ◌≤◌, ◌<◌}
use native.Mathlib.Nat.{add-mul, one-mul, suc-mul, zero-mul, le_of_suc-le-suc, not-suc-le-zero}
use native.Mathlib.Numerals.{add-one}
use native.Mathlib.Omega.{arith}
use lib.Dec.{leb, eqb}
use lib.ListN.{length, get_or, take, drop, drop_of_length-le, length-drop}
use lib.Seq.{drop-cons, drop-drop, get_or-drop}
use borrow.Author.Tests.{le-leb, lt-leb, ne_eqb, eqb-true}
use Rattle.std.specs.Prelude.{count_by}
use Rattle.std.specs.List.{list_all, range_with_len, enumerate_from}
use Rattle.std.proofs.lemmas.List.Folds.{sum_by-zero}
use Rattle.std.proofs.lemmas.Bool.{and_parts}
use Rattle.model.proofs.Bools.{or-true}
use Rattle.model.proofs.RowLaws.{zeros-append}
use Rattle.model.specs.Layout as layout
use Rattle.model.specs.Layout.{zeros, row_fits, rows_fit}
use Rattle.store.specs.Cells.{cell_first, is_used, is_free, is_void}
use Rattle.model.specs.declared.Cell.{Cell}

-- THE WORD AT A PLACE ---------------------------------------------------------------------------------------------------------------
module _ (w : List ℕ) (k : ℕ) where
  -- the words from k on: the one at k, and those behind it
  pub here : k < length w → drop k w ≡ get_or w k 0 ∷ drop (k + 1) w
  here h = drop-cons w k 0 h ∙ rw add-one

  pub past : length w ≤ k → drop k w ≡ []
  past h = drop_of_length-le w {i = k} h

  pub cell-here : (c : Cell) → k < length w → cell_first c (drop k w) ≡ layout.cell_fits c (get_or w k 0) (drop (k + 1) w)
  unfolding cell_first
  cell-here c h = rw (here h)

  pub cell-past : (c : Cell) → length w ≤ k → cell_first c (drop k w) ≡ false
  unfolding cell_first
  cell-past c h = rw (past h)

-- n ZEROS -----------------------------------------------------------------------------------------------------------------------------
-- words that are missing
zeros-lack : (m : ℕ) (v : List ℕ) → length v < m → zeros m v ≡ false
unfolding zeros
zeros-lack zero v h = absurd (not-suc-le-zero h)
zeros-lack (suc m) [] h = refl
zeros-lack (suc m) (x ∷ v) h = rw (zeros-lack m v (le_of_suc-le-suc h)) (and-false (eqb x 0))

pub zeros-short : (n k : ℕ) (w : List ℕ) → length w < k + n → eqb n 0 ≡ zeros n (drop k w)
unfolding zeros
zeros-short zero k w h = refl
zeros-short (suc m) k w h = rw (ne_eqb (suc m) 0 (omega arith)) (sym (zeros-lack (suc m) (drop k w) (simp length-drop (omega arith))))

-- none of n words is counted
not-used : (b : Bool) → eqb (cond (not b) 1 0) 0 ≡ b
not-used true = refl
not-used false = refl

unused_zeros : (n : ℕ) (v : List ℕ) → n ≤ length v → list_all (λ x. eqb (cond (is_used x) 1 0) 0) (take n v) ≡ zeros n v
unfolding zeros
unused_zeros zero v h = refl
unused_zeros (suc n) [] h = absurd (not-suc-le-zero h)
unused_zeros (suc n) (x ∷ v) h = rw (not-used (eqb x 0), unused_zeros n v (le_of_suc-le-suc h))

pub none-used : (n k : ℕ) (w : List ℕ) → k + n ≤ length w → eqb (count_by is_used (take n (drop k w))) 0 ≡ zeros n (drop k w)
none-used n k w h = sum_by-zero (λ x. cond (is_used x) 1 0) (take n (drop k w)) ∙ unused_zeros n (drop k w) (simp length-drop (omega arith))

-- THE CELLS OF A ROW --------------------------------------------------------------------------------------------------------------------
row_first : (c : Cell) (cs : List Cell) (w : List ℕ) → row_fits (c ∷ cs) w ≡ cell_first c w && row_fits cs (drop 1 w)
unfolding row_fits cell_first
row_first c cs [] = refl
row_first c cs (x ∷ w) = refl

-- a chain over the cells and their numbers
pub cells_chain : (w : List ℕ) (cs : List Cell) (j k : ℕ) → list_all (λ p. cell_first p.1 (drop (k + p.0) w)) (enumerate_from j cs) ≡ row_fits cs (drop (k + j) w)
unfolding row_fits
cells_chain w [] j k = refl
cells_chain w (c ∷ cs) j k =
    let e : k + j + 1 ≡ k + (j + 1) = omega arith in
    rw (cells_chain w cs (j + 1) k, row_first c cs (drop (k + j) w), drop-drop 1 (k + j) w, e)

-- rows of any words
abbrev Small : List ℕ → Type 0
Small w = (i : ℕ) → get_or w i 0 ≤ 4294967295

free-row : (cs : List Cell) (w : List ℕ) → list_all is_free cs ≡ true → length cs ≤ length w → Small w → row_fits cs w ≡ true
unfolding row_fits zeros
free-row [] w free l small = refl
free-row (c ∷ cs) [] free l small = absurd (not-suc-le-zero l)
free-row (c ∷ cs) (x ∷ w) free l small =
    let (f, fs) = and_parts _ _ free in
    let (m, v) = and_parts _ _ f in
    let em : c.most ≡ 4294967295 = eqb-true c.most 4294967295 m in
    let ev : c.void ≡ 0 = eqb-true c.void 0 v in
    rw (em, ev, le-leb x 4294967295 (small 0), or-true (not (eqb x 0))) (free-row cs w fs (le_of_suc-le-suc l) (λ i. small (suc i)))

pub free-rows : (cs : List Cell) → list_all is_free cs ≡ true → (n k : ℕ) (w : List ℕ) → Small w → k + n * length cs ≤ length w → rows_fit n cs (drop k w) ≡ true
unfolding rows_fit
free-rows cs free zero k w small l = refl
free-rows cs free (suc n) k w small l =
    let e : suc n * length cs ≡ n * length cs + length cs = suc-mul n (length cs) in
    let first : row_fits cs (drop k w) ≡ true = free-row cs (drop k w) free (simp length-drop (omega arith)) (λ i. rw (get_or-drop k w i 0) (small (k + i))) in
    rw (first, drop-drop (length cs) k w) (free-rows cs free n (k + length cs) w small (omega arith))

-- rows of words that must be 0
most-zero : (x : ℕ) → leb x 0 ≡ eqb x 0
most-zero zero = refl
most-zero (suc x) = rw (lt-leb (suc x) 0 (omega arith), ne_eqb (suc x) 0 (omega arith))

void-row : (cs : List Cell) (w : List ℕ) → list_all is_void cs ≡ true → row_fits cs w ≡ zeros (length cs) w
unfolding row_fits zeros
void-row [] w void = refl
void-row (c ∷ cs) [] void = refl
void-row (c ∷ cs) (x ∷ w) void =
    let (f, fs) = and_parts _ _ void in
    let (m, v) = and_parts _ _ f in
    let em : c.most ≡ 0 = eqb-true c.most 0 m in
    let ev : c.void ≡ 0 = eqb-true c.void 0 v in
    rw (em, ev, most-zero x, or-true (not (eqb x 0)), and-true (eqb x 0), void-row cs w fs)

pub void-rows : (cs : List Cell) → list_all is_void cs ≡ true → (n : ℕ) (w : List ℕ) → rows_fit n cs w ≡ zeros (n * length cs) w
unfolding rows_fit zeros
void-rows cs void zero w = rw zero-mul
void-rows cs void (suc n) w =
    let m : suc n * length cs ≡ length cs + n * length cs = omega (arith, suc-mul n (length cs)) in
    rw (m, zeros-append (length cs) (n * length cs) w, void-row cs w void) (ap (λ (r : Bool). zeros (length cs) w && r) (void-rows cs void n (drop (length cs) w)))

-- a chain over the numbers of rows
pub rows_chain : (cs : List Cell) (w : List ℕ) (width : ℕ) → length cs ≡ width → (n j k : ℕ) → list_all (λ i. row_fits cs (drop (k + i * width) w)) (range_with_len j n) ≡ rows_fit n cs (drop (k + j * width) w)
unfolding rows_fit
rows_chain cs w width e zero j k = refl
rows_chain cs w width e (suc n) j k =
    let q : k + j * width + length cs ≡ k + (j + 1) * width = rw (e, add-mul j 1 width, one-mul width) (omega arith) in
    rw (rows_chain cs w width e n (j + 1) k, drop-drop (length cs) (k + j * width) w, q)
