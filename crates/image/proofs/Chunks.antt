-- The records of a table, as the chunks of its words. Assumes nothing.
use mathlib.Core.Path.{◌≡◌, refl, sym, ap, subst, ◌∙◌}
use mathlib.Core.Bool.{Bool, true, false, ◌&&◌}
use mathlib.Core.List.{List, [], ◌∷◌}
use mathlib.Core.Logic.{⊎_elim}
use Prim.Native.Nat.{ℕ, zero, suc, ◌+◌, ◌*◌, ◌≤◌, ◌<◌, ◌/◌}
use native.Mathlib.Nat.{suc-mul, mul_comm, mul-le-mul_right, le_of_suc-le-suc, eq-or-lt_of_le}
use native.Mathlib.Omega.{arith}
use lib.ListN.{length, get_or, drop}
use Rattle.std.specs.List.{list_all, enumerate_from}
use Rattle.std.specs.Simd.{first_chunks}
use Rattle.std.proofs.lemmas.List.{length-take-le, length-drop, get_or-take, get_or-drop}
use Rattle.std.proofs.lemmas.List.FromFn.{length-enumerate_from, get_or-enumerate_from}
use Rattle.std.proofs.Math.Nat.{mul-div_cancel}
use Rattle.model.specs.Lists.{every}
use Rattle.model.specs.Image.{width_of, size_of, table_of, word_at, places_fit}
use Rattle.fields.proofs.Every.{every_holds, fails}
use Rattle.image.specs.Passing.{IsRecord, record_both, table_both}
use Rattle.image.proofs.Accepted.{width-least}
use Rattle.image.proofs.OnePass.{table-long, table-word}

module _ (w : ℕ) where
  pub length-chunks : (n : ℕ) (l : List ℕ) → length (first_chunks w n l) ≡ n
  length-chunks zero l = refl
  length-chunks (suc n) l = ap suc (length-chunks n (drop w l))

  -- the words of piece k
  pub piece-long : (n k : ℕ) (l d : List ℕ) → k < n → length l ≡ n * w → length (get_or (first_chunks w n l) k d) ≡ w
  piece-long zero k l d h e = absurd (omega arith)
  piece-long (suc n) zero l d h e = length-take-le w l (omega (arith, suc-mul n w))
  piece-long (suc n) (suc k) l d h e = piece-long n k (drop w l) d (le_of_suc-le-suc h) (omega (arith, length-drop w l, suc-mul n w))

  pub piece-word : (n k j : ℕ) (l d : List ℕ) → k < n → length l ≡ n * w → j < w → get_or (get_or (first_chunks w n l) k d) j 0 ≡ get_or l (w * k + j) 0
  piece-word zero k j l d h e b = absurd (omega arith)
  piece-word (suc n) zero j l d h e b =
      let z : w * 0 + j ≡ j = omega (arith, mul_comm w 0) in
      rw z (get_or-take w l j 0 b)
  piece-word (suc n) (suc k) j l d h e b =
      let z : w + (w * k + j) ≡ w * suc k + j = omega (arith, mul_comm w (suc k), mul_comm w k, suc-mul k w) in
      piece-word n k j (drop w l) d (le_of_suc-le-suc h) (omega (arith, length-drop w l, suc-mul n w)) b ∙ (get_or-drop w l (w * k + j) 0 ∙ ap (λ m. get_or l m 0) z)

-- piece i of the words of a table is record i
module _ (img : List ℕ) (places : places_fit img ≡ true) (t : ℕ) (eighth : t < 8) where
  abbrev pub records : List (List ℕ)
  records = first_chunks (width_of t) (size_of img t) (table_of img t)

  abbrev piece : ℕ → List ℕ → List ℕ
  piece i d = get_or records i d

  record-long : (i : ℕ) (d : List ℕ) → i < size_of img t → length (piece i d) ≡ width_of t
  record-long i d h = piece-long (width_of t) (size_of img t) i (table_of img t) d h (table-long img places t eighth)

  is-record : (i : ℕ) (d : List ℕ) → i < size_of img t → IsRecord img t i (piece i d)
  unfolding word_at
  is-record i d h j l =
      let b : j < width_of t = rw (record-long i d h) at l in
      let e = table-long img places t eighth in
      let m : i * width_of t + width_of t ≤ size_of img t * width_of t = omega (arith, suc-mul i (width_of t), mul-le-mul_right (width_of t) h) in
      piece-word (width_of t) (size_of img t) i j (table_of img t) d h e b
      ∙ (table-word img places t eighth (width_of t * i + j) (omega (arith, e, m, mul_comm (width_of t) i))
      ∙ ap (λ k. get_or img k 0) (omega arith))

  -- the same by the number that it comes with
  pub numbered-record : (x : ℕ × List ℕ) (i : ℕ) → i < length (enumerate_from 0 records) → x ≡ get_or (enumerate_from 0 records) i x → (length x.1 ≡ width_of t) × IsRecord img t x.0 x.1
  numbered-record x i l e =
      let n : length records ≡ size_of img t = length-chunks (width_of t) (size_of img t) (table_of img t) in
      let h : i < size_of img t = omega (arith, l, length-enumerate_from 0 records, n) in
      let z : 0 + i ≡ i = omega arith in
      let g : x ≡ (i, piece i x.1) = rw z at (e ∙ get_or-enumerate_from 0 records i x (omega (arith, n, h))) in
      subst (λ (p : ℕ × List ℕ). (length p.1 ≡ width_of t) × IsRecord img t p.0 p.1) (sym g) (record-long i x.1 h, is-record i x.1 h)

-- a test of each record by its number
numbered-from : (f : ℕ → Bool) (ys : List (List ℕ)) (k : ℕ) → ((j : ℕ) → j < k → f j ≡ true) → list_all (λ q. f q.0) (enumerate_from k ys) ≡ every (k + length ys) f
numbered-from f [] k h = let e : k + 0 ≡ k = omega arith in rw e (sym (every_holds f k h))
numbered-from f (y ∷ ys) k h = go (f k) refl (numbered-from f ys (k + 1))
  where
    before : f k ≡ true → (j : ℕ) → j < k + 1 → f j ≡ true
    before e j l = ⊎_elim (λ s. rw s e) (λ s. h j s) (eq-or-lt_of_le (omega arith))

    go : (b : Bool) → f k ≡ b → (((j : ℕ) → j < k + 1 → f j ≡ true) → list_all (λ q. f q.0) (enumerate_from (k + 1) ys) ≡ every (k + 1 + length ys) f)
        → b && list_all (λ q. f q.0) (enumerate_from (k + 1) ys) ≡ every (k + suc (length ys)) f
    go true e rest =
        let n : k + 1 + length ys ≡ k + suc (length ys) = omega arith in
        rw n at (rest (before e))
    go false e rest = sym (fails f (k + suc (length ys)) k (omega arith) e)

pub numbered_all : (f : ℕ → Bool) (ys : List (List ℕ)) (n : ℕ) → length ys ≡ n → list_all (λ q. f q.0) (enumerate_from 0 ys) ≡ every n f
numbered_all f ys n e =
    let z : 0 + length ys ≡ n = omega arith in
    rw z at (numbered-from f ys 0 (λ j l. absurd (omega arith)))

-- the same where the width is a number, and the words are lent
module _ (img : List ℕ) (places : places_fit img ≡ true) (t : ℕ) (eighth : t < 8) (w : ℕ) (wide : w ≡ width_of t) (l : List ℕ) (words : l ≡ table_of img t) where
  chunks-counted : length l / w ≡ size_of img t
  chunks-counted = rw (wide, words, table-long img places t eighth) (mul-div_cancel (size_of img t) (omega (arith, width-least t)))

  abbrev pub chunks : List (List ℕ)
  chunks = first_chunks w (length l / w) l

  pub chunk-record : (x : ℕ × List ℕ) (i : ℕ) → i < length (enumerate_from 0 chunks) → x ≡ get_or (enumerate_from 0 chunks) i x → IsRecord img t x.0 x.1
  chunk-record x i h e =
      let c : chunks ≡ records img places t eighth = rw (chunks-counted, wide, words) refl in
      (numbered-record img places t eighth x i (rw c at h) (rw c at e)).1

  pub chunks-tested : list_all (λ q. record_both img t q.0) (enumerate_from 0 chunks) ≡ table_both img t
  unfolding table_both
  chunks-tested = numbered_all (record_both img t) chunks (size_of img t) (length-chunks w (length l / w) l ∙ chunks-counted)
