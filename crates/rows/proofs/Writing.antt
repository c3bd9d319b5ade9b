-- Rows and tables written at places of the words. Assumes nothing.
use mathlib.Core.Path.{◌≡◌, refl, sym, ap, ◌∙◌}
use mathlib.Core.List.{List, [], ◌∷◌, ◌++◌, append_assoc, append-nil}
use Prim.Native.Nat.{ℕ, suc, ◌+◌, ◌*◌, ◌≤◌, ◌<◌}
use native.Mathlib.Nat.{add-zero}
use native.Mathlib.Numerals.{add-one}
use native.Mathlib.Omega.{arith}
use lib.ListN.{length, get_or, take, drop, set, length-append, length-drop, take-append-drop}
use lib.Seq.{take_at, take-suc, take-length, take-append-le, take-take, drop_at, drop-append-add, drop-drop, length-take-le, set_split}
use Rattle.model.specs.Codec.{Row, words_of}
use Rattle.model.proofs.RowLaws as row_laws
use Rattle.rows.specs.Places.{laid}

-- WORDS -------------------------------------------------------------------------------------------------------------------------------
pub laid-long : (w : List ℕ) (k : ℕ) (vs : List ℕ) → k + length vs ≤ length w → length (laid w k vs) ≡ length w
unfolding laid
laid-long w k vs h =
    let t = length-take-le k w (omega arith) in
    length-append (take k w ++ vs) (drop (k + length vs) w) ∙ rw (length-append, t, length-drop) (omega arith)

-- words written behind words that were written
laid-laid : (w : List ℕ) (k : ℕ) (us vs : List ℕ) → k ≤ length w → laid (laid w k us) (k + length us) vs ≡ laid w k (us ++ vs)
unfolding laid
laid-laid w k us vs h =
    let long : length (take k w ++ us) ≡ k + length us = simp (length-append, length-take-le k w h) in
    let front : take (k + length us) (laid w k us) ≡ take k w ++ us = take_at (take k w ++ us) (drop (k + length us) w) (k + length us) long in
    let back : drop (k + length us + length vs) (laid w k us) ≡ drop (k + length us + length vs) w = (rw long at (drop-append-add (take k w ++ us) (drop (k + length us) w) (length vs))) ∙ drop-drop (length vs) (k + length us) w in
    let sum : k + length us + length vs ≡ k + length (us ++ vs) = simp length-append (omega arith) in
    ap (λ (l : List ℕ). l ++ vs ++ drop (k + length us + length vs) (laid w k us)) front
    ∙ ap (λ (l : List ℕ). take k w ++ us ++ vs ++ l) (back ∙ ap (λ (n : ℕ). drop n w) sum)
    ∙ ap (λ (l : List ℕ). l ++ drop (k + length (us ++ vs)) w) (append_assoc (take k w) us vs)

-- the same, with the place as the code has it
pub lays : (w w₁ w₂ : List ℕ) (k j : ℕ) (us vs : List ℕ) → k ≤ length w → j ≡ k + length us → w₁ ≡ laid w k us → w₂ ≡ laid w₁ j vs → w₂ ≡ laid w k (us ++ vs)
lays w w₁ w₂ k j us vs h e e₁ e₂ = e₂ ∙ rw (e₁, e) (laid-laid w k us vs h)

-- the same, for more words behind those: their proof is told that the length stands
pub and-then : (w w₁ w₂ : List ℕ) (k j : ℕ) (us vs : List ℕ) → k + length us ≤ length w → j ≡ k + length us → w₁ ≡ laid w k us
    → (length w₁ ≡ length w → w₂ ≡ laid w₁ j vs) → w₂ ≡ laid w k (us ++ vs)
and-then w w₁ w₂ k j us vs h e e₁ f = lays w w₁ w₂ k j us vs (omega arith) e e₁ (f (ap length e₁ ∙ laid-long w k us h))

-- words were written behind the place first
pub lays-before : (w w₁ w₂ : List ℕ) (k j : ℕ) (us vs : List ℕ) → j + length vs ≤ length w → j ≡ k + length us → w₁ ≡ laid w j vs → w₂ ≡ laid w₁ k us → w₂ ≡ laid w k (us ++ vs)
unfolding laid
lays-before w w₁ w₂ k j us vs h e e₁ e₂ =
    let l : length (take j w) ≡ j = length-take-le j w (omega arith) in
    let d : w₁ ≡ take j w ++ (vs ++ drop (j + length vs) w) = e₁ ∙ append_assoc (take j w) vs (drop (j + length vs) w) in
    let a : take k w₁ ≡ take k w = ap (take k) d ∙ take-append-le k (take j w) (vs ++ drop (j + length vs) w) (omega arith) ∙ take-take k j w (omega arith) in
    let b : drop (k + length us) w₁ ≡ vs ++ drop (j + length vs) w = ap (λ (n : ℕ). drop n w₁) (sym e) ∙ ap (drop j) d ∙ drop_at (take j w) (vs ++ drop (j + length vs) w) j l in
    let n : j + length vs ≡ k + length (us ++ vs) = omega (arith, length-append us vs) in
    e₂ ∙ rw (a, b, n) (sym (append_assoc (take k w ++ us) vs (drop (k + length (us ++ vs)) w)) ∙ ap (λ (x : List ℕ). x ++ drop (k + length (us ++ vs)) w) (append_assoc (take k w) us vs))

pub one_set : (w : List ℕ) (k x : ℕ) → k < length w → set w k x ≡ laid w k (x ∷ [])
unfolding laid
one_set w k x h =
    let e : k + 1 ≡ suc k = omega arith in
    set_split w k x h ∙ rw e (sym (append_assoc (take k w) (x ∷ []) (drop (suc k) w)))

pub laid_none : (w : List ℕ) (k : ℕ) → w ≡ laid w k []
unfolding laid
laid_none w k = sym (rw (add-zero, append-nil) (take-append-drop k w))

-- words copied, one by one
pub copies : (w w₁ v : List ℕ) (k i : ℕ) → k + length v ≤ length w → i < length v → length w₁ ≡ length w → w₁ ≡ laid w k (take i v)
    → set w₁ (k + i) (get_or v i 0) ≡ laid w k (take (i + 1) v)
copies w w₁ v k i h l e e₁ =
    let n = length-take-le i v (omega arith) in
    rw add-one
    (lays w w₁ (set w₁ (k + i) (get_or v i 0)) k (k + i) (take i v) (get_or v i 0 ∷ []) (omega arith) (ap (λ (m : ℕ). k + m) (sym n)) e₁ (one_set w₁ (k + i) (get_or v i 0) (omega arith))
    ∙ ap (laid w k) (sym (take-suc v i 0 l)))

pub copied : (w w₁ v : List ℕ) (k i : ℕ) → i ≤ length v → length v ≤ i → w₁ ≡ laid w k (take i v) → w₁ ≡ laid w k v
copied w w₁ v k i h l e =
    let q : i ≡ length v = omega arith in
    e ∙ ap (λ (m : ℕ). laid w k (take m v)) q ∙ ap (laid w k) (take-length v)

-- TABLES ------------------------------------------------------------------------------------------------------------------------------
-- each of a row's values takes the row's words
pub record Long {A : Type 0} (r : Row A) : Type 0 where
  pub long : (a : A) → length (r.put a) ≡ length r.cells

module _ {A : Type 0} (r : Row A) (p : Long r) where
  abbrev n : ℕ
  n = length r.cells

  pub words_long : (l : List A) → length (words_of r l) ≡ length l * n
  words_long = row_laws.words_long r p.long

  pub words_append : (xs ys : List A) → words_of r (xs ++ ys) ≡ words_of r xs ++ words_of r ys
  unfolding words_of
  words_append [] ys = refl
  words_append (x ∷ xs) ys = rw (words_append xs ys) (sym (append_assoc (r.put x) (words_of r xs) (words_of r ys)))

  words_more : (a : List A) (i : ℕ) (d : A) → i < length a → words_of r (take (i + 1) a) ≡ words_of r (take i a) ++ r.put (get_or a i d)
  unfolding words_of
  words_more a i d h =
      rw add-one (ap (words_of r) (take-suc a i d h) ∙ words_append (take i a) (get_or a i d ∷ []) ∙ ap (λ (l : List ℕ). words_of r (take i a) ++ l) (append-nil (r.put (get_or a i d))))

  pub starts : (w : List ℕ) (k : ℕ) (a : List A) → w ≡ laid w k (words_of r (take 0 a))
  unfolding words_of
  starts w k a = laid_none w k

  -- the next row goes behind those that were written
  pub goes : (w w₁ w₂ : List ℕ) (k j i : ℕ) (a : List A) (d : A) → k ≤ length w → i < length a → j ≡ k + i * n → w₁ ≡ laid w k (words_of r (take i a))
      → w₂ ≡ laid w₁ j (r.put (get_or a i d)) → w₂ ≡ laid w k (words_of r (take (i + 1) a))
  goes w w₁ w₂ k j i a d h l e e₁ e₂ =
      let m = words_long (take i a) ∙ ap (λ (x : ℕ). x * n) (length-take-le i a (omega arith)) in
      lays w w₁ w₂ k j (words_of r (take i a)) (r.put (get_or a i d)) h (e ∙ ap (λ (x : ℕ). k + x) (sym m)) e₁ e₂ ∙ ap (laid w k) (sym (words_more a i d l))
