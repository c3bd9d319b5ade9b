-- The written words hold the tables of the tree, and the trailer points at them. Assumes nothing.
use mathlib.Core.Path.{◌≡◌, refl, sym, ap, ap₂, ◌∙◌}
use mathlib.Core.Logic.{◌⊎◌, inl, inr}
use mathlib.Core.Bool.{true, cond}
use mathlib.Core.List.{List, [], ◌∷◌, ◌++◌, map}
use Prim.Native.Nat.{ℕ, zero, suc, ◌+◌, ◌-◌, ◌*◌, ◌<◌, ◌≤◌}
use native.Mathlib.Nat.{add-zero, zero-add, mul-zero, mul-suc, eq-or-lt_of_le, div-eq_of_eq-mul_right}
use native.Mathlib.Omega.{arith}
use lib.ListN.{length, get_or, length-append, get_or-append}
use lib.Seq.{get_or-append-add}
use borrow.Author.Tests.{eqb-true, lt-ltb}
use Rattle.model.specs.Lists.{all, up_from, flatten}
use Rattle.model.specs.Image.{width_of, trailer, first_of, size_of, word_at}
use Rattle.std.proofs.lemmas.Bool.{and_parts}
use Rattle.model.specs.Tree.{table_words}
use Rattle.rewrite.proofs.ReadBack.{some-word}
use Rattle.rewrite.proofs.Inside.{wide}

-- ROWS OF ONE WIDTH -----------------------------------------------------------------------------------------------------------------------
module _ (t : ℕ) where
  pub flat-length : (rows : List (List ℕ)) → all (wide t) rows ≡ true → length (flatten rows) ≡ width_of t * length rows
  flat-length [] a = sym (mul-zero (width_of t))
  flat-length (r ∷ rows) a =
      let x = and_parts (wide t r) (all (wide t) rows) a in
      length-append r (flatten rows) ∙ ap₂ (λ p q. p + q) (eqb-true (length r) (width_of t) x.0) (flat-length rows x.1)
      ∙ omega (arith, mul-suc (width_of t) (length rows))

  pub flat-word : (rows : List (List ℕ)) (i j : ℕ) → all (wide t) rows ≡ true → i < length rows → j < width_of t
      → get_or (flatten rows) (width_of t * i + j) 0 ≡ get_or (get_or rows i []) j 0
  flat-word [] i j a l h = absurd (omega arith)
  flat-word (r ∷ rows) zero j a l h =
      let x = eqb-true (length r) (width_of t) (and_parts (wide t r) (all (wide t) rows) a).0 in
      ap (λ k. get_or (r ++ flatten rows) k 0) (ap (λ k. k + j) (mul-zero (width_of t)) ∙ zero-add j) ∙ get_or-append r (flatten rows) 0 j (rw x h)
  flat-word (r ∷ rows) (suc i) j a l h =
      let x = and_parts (wide t r) (all (wide t) rows) a in
      let e : width_of t * suc i + j ≡ length r + (width_of t * i + j) = omega (arith, mul-suc (width_of t) i, eqb-true (length r) (width_of t) x.0) in
      ap (λ k. get_or (r ++ flatten rows) k 0) e ∙ get_or-append-add r (flatten rows) (width_of t * i + j) 0 ∙ flat-word rows i j x.1 (omega arith) h

-- TABLES BEHIND EACH OTHER ----------------------------------------------------------------------------------------------------------------
module _ (rows : ℕ → List (List ℕ)) where
  abbrev pub beginning : ℕ → ℕ
  beginning t = length (table_words rows t)

  pub next-beginning : (t : ℕ) → beginning (suc t) ≡ beginning t + length (flatten (rows t))
  unfolding table_words
  next-beginning t = length-append (table_words rows t) (flatten (rows t))

  abbrev Here : ℕ → ℕ → ℕ → Type 0
  Here n t k = (beginning t + k < beginning n) × (get_or (table_words rows n) (beginning t + k) 0 ≡ get_or (flatten (rows t)) k 0)

  table-case : (n t k : ℕ) → (t ≡ n) ⊎ (t < n) → k < length (flatten (rows t)) → (t < n → Here n t k) → Here (suc n) t k
  unfolding table_words
  table-case n t k (inl e) l before =
      rw (← e) (rw (next-beginning t) (omega arith), get_or-append-add (table_words rows t) (flatten (rows t)) k 0)
  table-case n t k (inr h) l before =
      let x = before h in
      (rw (next-beginning n) (omega (arith, x.0)), get_or-append (table_words rows n) (flatten (rows n)) 0 (beginning t + k) x.0 ∙ x.1)

  pub table-there : (n t k : ℕ) → t < n → k < length (flatten (rows t)) → Here n t k
  table-there zero t k l h = absurd (omega arith)
  table-there (suc n) t k l h =
      let m : t ≤ n = omega arith in table-case n t k (eq-or-lt_of_le m) h (λ g. table-there n t k g h)

-- THE IMAGE -------------------------------------------------------------------------------------------------------------------------------
pub mapped-at : (f : ℕ → ℕ) (n i k : ℕ) → k < n → get_or (map f (up_from i n)) k 0 ≡ f (i + k)
mapped-at f zero i k h = absurd (omega arith)
mapped-at f (suc n) i zero h = ap f (sym (add-zero i))
mapped-at f (suc n) i (suc k) h = mapped-at f n (suc i) k (omega arith) ∙ ap f (omega arith)

module _ (rows : ℕ → List (List ℕ)) (limits : List ℕ) (five : length limits ≡ 5) (widths : (t : ℕ) → all (wide t) (rows t) ≡ true) where
  abbrev firsts : List ℕ
  firsts = map (beginning rows) (up_from 0 8)

  abbrev pub image : List ℕ
  image = table_words rows 8 ++ (limits ++ firsts)

  pub image-length : length image ≡ beginning rows 8 + 13
  image-length = length-append (table_words rows 8) (limits ++ firsts) ∙ ap (λ n. beginning rows 8 + n) (length-append limits firsts ∙ rw five refl)

  trailer-at : (j : ℕ) → trailer image j ≡ get_or (limits ++ firsts) j 0
  unfolding trailer
  trailer-at j =
      let e : length image - 13 + j ≡ beginning rows 8 + j = omega (arith, image-length) in
      ap (λ k. get_or image k 0) e ∙ get_or-append-add (table_words rows 8) (limits ++ firsts) j 0

  pub limit-at : (j : ℕ) → j < 5 → trailer image j ≡ get_or limits j 0
  limit-at j h = trailer-at j ∙ get_or-append limits firsts 0 j (rw five h)

  first-case : (t : ℕ) → (t ≡ 8) ⊎ (t < 8) → first_of image t ≡ beginning rows t
  unfolding first_of
  first-case t (inl e) = rw e (omega (arith, image-length))
  first-case t (inr h) =
      ap (λ b. cond b (trailer image (5 + t)) (length image - 13)) (lt-ltb t 8 h)
      ∙ trailer-at (5 + t) ∙ ap (λ n. get_or (limits ++ firsts) (n + t) 0) (sym five) ∙ get_or-append-add limits firsts t 0
      ∙ mapped-at (beginning rows) 8 0 t h ∙ ap (beginning rows) (zero-add t)

  pub first-at : (t : ℕ) → t ≤ 8 → first_of image t ≡ beginning rows t
  first-at t h = first-case t (eq-or-lt_of_le h)

  pub table-length : (t : ℕ) → t < 8 → first_of image (t + 1) - first_of image t ≡ width_of t * length (rows t)
  table-length t h =
      let next : beginning rows (t + 1) ≡ beginning rows t + length (flatten (rows t)) = ap (beginning rows) (omega arith) ∙ next-beginning rows t in
      omega (arith, first-at t (omega arith), first-at (t + 1) (omega arith), next, flat-length t (rows t) (widths t))

  pub table-follows : (t : ℕ) → t < 8 → first_of image t ≤ first_of image (t + 1)
  table-follows t h =
      let next : beginning rows (t + 1) ≡ beginning rows t + length (flatten (rows t)) = ap (beginning rows) (omega arith) ∙ next-beginning rows t in
      omega (arith, first-at t (omega arith), first-at (t + 1) (omega arith), next)

  pub size-at : (t : ℕ) → t < 8 → size_of image t ≡ length (rows t)
  unfolding size_of
  size-at t h = div-eq_of_eq-mul_right (some-word t) (table-length t h)

  pub inside-rows : (t i j : ℕ) → i < length (rows t) → j < width_of t → width_of t * i + j < length (flatten (rows t))
  inside-rows t i j l h =
      rw (flat-length t (rows t) (widths t)) (go (length (rows t)) l)
    where
      go : (n : ℕ) → i < n → width_of t * i + j < width_of t * n
      go zero g = absurd (omega arith)
      go (suc n) g = let m : width_of t * i ≤ width_of t * n = native.Mathlib.Nat.mul-le-mul_left (width_of t) (omega arith) in omega (arith, mul-suc (width_of t) n, m)

  pub word-at : (t i j : ℕ) → t < 8 → i < length (rows t) → j < width_of t → word_at image t i j ≡ get_or (get_or (rows t) i []) j 0
  unfolding word_at
  word-at t i j h l g =
      let k = width_of t * i + j in
      let x = table-there rows 8 t k h (inside-rows t i j l g) in
      let e : first_of image t + width_of t * i + j ≡ beginning rows t + k = omega (arith, first-at t (omega arith)) in
      ap (λ n. get_or image n 0) e ∙ get_or-append (table_words rows 8) (limits ++ firsts) 0 (beginning rows t + k) x.0 ∙ x.1
      ∙ flat-word t (rows t) i j (widths t) l g
