-- What is read of words that hold a table, and words written over the first of a row. Assumes nothing.
use mathlib.Core.Path.{◌≡◌, refl, sym, ap, subst, ◌∙◌}
use mathlib.Core.List.{List, ◌++◌, append_assoc}
use Prim.Native.Nat.{ℕ, zero, suc, ◌+◌, ◌*◌, ◌≤◌, ◌<◌}
use native.Mathlib.Nat.{add-zero, zero-mul, suc-mul}
use native.Mathlib.Omega.{arith}
use lib.Dec.{leb}
use lib.ListN.{length, get_or, take, drop, length-append, take-append-drop}
use lib.Seq.{drop-drop, get_or-drop, set-get_or, length-take-le}
use Rattle.std.proofs.lemmas.Bool.{and_parts}
use Rattle.model.specs.Codec.{Row, most, rows_at, all_good}
use Rattle.model.proofs.RowLaws.{RowLaws}
use Rattle.model.proofs.CodecLaws.{most-laws}
use Rattle.rows.specs.Places.{laid, row_at, table_at}
use Rattle.state.specs.Meaning.{Holds}
use Rattle.state.proofs.Cutting.{laid-mid}
use Rattle.state.proofs.Typed.{good-at, holds-get, holds-count, holds-set}

module _ {A : Type 0} (r : Row A) (laws : RowLaws r) (n : ℕ) where
  abbrev f : ℕ
  f = length r.cells

  -- so many rows as the count says, read behind it
  pub table-read : (w : List ℕ) (a k : ℕ) (l : List A) → Holds n r (take k (drop a w)) l → table_at r (get_or w a 0) w (a + 1) ≡ l
  unfolding table_at
  table-read w a k l h =
      let rest : List ℕ = drop k (drop a w) in
      let whole : (most n r).put l ++ rest ≡ drop a w = ap (λ (x : List ℕ). x ++ rest) (sym h.words) ∙ take-append-drop k (drop a w) in
      let e : (most n r).get (drop a w) ≡ l = subst (λ (x : List ℕ). (most n r).get x ≡ l) whole ((most-laws n laws).reads l rest h.good).0 in
      let c : get_or (drop a w) 0 0 ≡ get_or w a 0 = get_or-drop a w 0 0 ∙ ap (λ (i : ℕ). get_or w i 0) (add-zero a) in
      ap (λ (i : ℕ). rows_at r i (drop (a + 1) w)) (sym c) ∙ ap (rows_at r (get_or (drop a w) 0 0)) (sym (drop-drop 1 a w)) ∙ e

  row_of : (m i : ℕ) (v : List ℕ) (d : A) → i < m → r.get (drop (i * f) v) ≡ get_or (rows_at r m v) i d
  unfolding rows_at
  row_of zero i v d h = absurd (omega arith)
  row_of (suc m) zero v d h = rw zero-mul
  row_of (suc m) (suc i) v d h =
      let s = suc-mul i f in
      let e : suc i * f ≡ f + i * f = omega arith in
      rw (e, ← drop-drop (i * f) f v) (row_of m i (drop f v) d (omega arith))

  module _ (p : List ℕ) (l : List A) (i : ℕ) (d : A) (h : Holds n r p l) (k : i < length l) where
    pub row_read : row_at r p (1 + i * f) ≡ get_or l i d
    unfolding row_at
    row_read =
        let c = holds-count r laws n p l h in
        ap r.get (sym (drop-drop (i * f) 1 p)) ∙ row_of (get_or p 0 0) i (drop 1 p) d (omega arith) ∙ ap (λ (x : List A). get_or x i d) (holds-get r laws n p l h)

    -- a row written over itself
    pub row_stays : laid p (1 + i * f) (r.put (get_or l i d)) ≡ p
    row_stays =
        let good = good-at r laws l i d (and_parts (leb (length l) n) (all_good r l) h.good).1 k in
        (holds-set r laws n p (laid p (1 + i * f) (r.put (get_or l i d))) l (get_or l i d) i h k good refl).words ∙ ap (most n r).put (set-get_or l i d) ∙ sym h.words

-- other words over the first of some that were written
pub laid-first : (w us vs ts : List ℕ) (k : ℕ) → k ≤ length w → length ts ≡ length us → laid (laid w k (us ++ vs)) k ts ≡ laid w k (ts ++ vs)
unfolding laid
laid-first w us vs ts k h e =
    let rest : List ℕ = drop (k + length (us ++ vs)) w in
    let same : length (us ++ vs) ≡ length (ts ++ vs) = length-append us vs ∙ ap (λ (i : ℕ). i + length vs) (sym e) ∙ sym (length-append ts vs) in
    ap (λ (x : List ℕ). laid x k ts) (append_assoc (take k w) (us ++ vs) rest ∙ ap (λ (x : List ℕ). take k w ++ x) (append_assoc us vs rest))
    ∙ laid-mid (take k w) us (vs ++ rest) ts k (length-take-le k w h) e
    ∙ sym (append_assoc (take k w) (ts ++ vs) rest ∙ ap (λ (x : List ℕ). take k w ++ x) (append_assoc ts vs rest))
    ∙ ap (λ (i : ℕ). take k w ++ (ts ++ vs) ++ drop (k + i) w) same
