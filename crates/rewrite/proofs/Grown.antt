-- Counts of records only grow on a walk, and the size with them. Assumes nothing.
use mathlib.Core.Path.{◌≡◌, refl, sym, ◌∙◌}
use mathlib.Core.Bool.{Bool, true, false, cond}
use mathlib.Core.List.{List, [], ◌∷◌}
use Prim.Native.Nat.{ℕ, zero, suc, ◌+◌, ◌*◌, ◌<◌, ◌≤◌}
use native.Mathlib.Nat.{add-zero, le_refl, le_trans, mul-le-mul_left, eq-or-lt_of_le}
use native.Mathlib.Omega.{arith}
use mathlib.Core.Logic.{◌⊎◌, inl, inr}
use lib.Dec.{eqb}
use lib.ListN.{length, get_or, set}
use lib.Seq.{get_or-set_same, get_or-set_other}
use borrow.Author.Tests.{eqb-true, eqb-false}
use Rattle.model.specs.Lists.{total}
use Rattle.model.specs.Rows.{rules, pool}
use Rattle.model.specs.Image.{width_of}
use Rattle.model.specs.Tree.{Records, none, record-of, Cells, end, word, mention, only, record_count, place_of}
use Rattle.rewrite.specs.Walk.{Store, count_of, append, size_for, put, walk_records, walk_cells}
use Rattle.rewrite.proofs.Sizes.{totals-add, one-table}

-- WIDTHS ----------------------------------------------------------------------------------------------------------------------------------
width-case : (a b : Bool) → (1 ≤ cond a 16 (cond b 1 8)) × (cond a 16 (cond b 1 8) ≤ 16)
width-case true b = (omega arith, omega arith)
width-case false true = (omega arith, omega arith)
width-case false false = (omega arith, omega arith)

pub width-bounds : (t : ℕ) → (1 ≤ width_of t) × (width_of t ≤ 16)
unfolding width_of
width-bounds t = width-case (eqb t rules) (eqb t pool)

-- pool words are single, and no list nests in them
abbrev pub slack : ℕ → ℕ
slack t = cond (eqb t pool) 8 0

slack-case : (a b : Bool) (n : ℕ) → 1 ≤ n → 8 ≤ cond a 16 (cond b 1 8) * n + cond b 8 0
slack-case true b n h = omega arith
slack-case false true n h = omega arith
slack-case false false n h = omega arith

pub eight-or-slack : (t n : ℕ) → 1 ≤ n → 8 ≤ width_of t * n + slack t
unfolding width_of
eight-or-slack t n h = slack-case (eqb t rules) (eqb t pool) n h

pub some-words : (t n : ℕ) → n ≤ width_of t * n
some-words t n = let e : 1 * n ≤ width_of t * n = native.Mathlib.Nat.mul-le-mul_right n (width-bounds t).0 in omega arith

pub few-words : (t n : ℕ) → n ≤ 4096 → width_of t * n ≤ 65536
few-words t n h = let e : width_of t * n ≤ 16 * n = native.Mathlib.Nat.mul-le-mul_right n (width-bounds t).1 in omega arith

-- TOTALS ----------------------------------------------------------------------------------------------------------------------------------
total-grows : (f g : ℕ → ℕ) (n : ℕ) → ((u : ℕ) → f u ≤ g u) → total n f ≤ total n g
unfolding total
total-grows f g zero h = le_refl 0
total-grows f g (suc n) h = omega (arith, total-grows f g n h, h n)

term-case : (f : ℕ → ℕ) (n t : ℕ) → (t ≡ n) ⊎ (t < n) → (t < n → f t ≤ total n f) → f t ≤ total n f + f n
term-case f n t (inl e) h = rw e (omega arith)
term-case f n t (inr l) h = omega (arith, h l)

pub term-least : (f : ℕ → ℕ) (n t : ℕ) → t < n → f t ≤ total n f
unfolding total
term-least f zero t l = absurd (omega arith)
term-least f (suc n) t l = let m : t ≤ n = omega arith in term-case f n t (eq-or-lt_of_le m) (λ h. term-least f n t h)

-- a count is at most the size
pub count-least : (counts : List ℕ) (t : ℕ) → t < 8 → get_or counts t 0 + 13 ≤ size_for counts
unfolding size_for
count-least counts t h =
    omega (arith, term-least (λ u. width_of u * get_or counts u 0) 8 t h, some-words t (get_or counts t 0))

-- RECORDS MORE ------------------------------------------------------------------------------------------------------------------------------
set-case : (l : List ℕ) (t n u : ℕ) (b : Bool) → eqb t u ≡ b → t < length l → get_or (set l t (get_or l t 0 + n)) u 0 ≡ get_or l u 0 + cond b n 0
set-case l t n u true e h = rw (← eqb-true t u e) (get_or-set_same l t (get_or l t 0 + n) 0 h)
set-case l t n u false e h = get_or-set_other l t u (get_or l t 0 + n) 0 (λ x. eqb-false t u e (sym x)) ∙ sym (add-zero _)

pub set-only : (l : List ℕ) (t n : ℕ) → t < length l → (u : ℕ) → get_or (set l t (get_or l t 0 + n)) u 0 ≡ get_or l u 0 + only t n u
set-only l t n h u = set-case l t n u (eqb t u) refl h

pub size-grown : (counts : List ℕ) (t n : ℕ) → length counts ≡ 8 → t < 8 → size_for (set counts t (get_or counts t 0 + n)) ≡ size_for counts + width_of t * n
unfolding size_for
size-grown counts t n e h =
    let l : t < length counts = omega arith in
    let a = totals-add (λ u. get_or counts u 0) (only t n) (λ u. get_or (set counts t (get_or counts t 0 + n)) u 0) (set-only counts t n l) in
    omega (arith, a, one-table t n h)

-- GROWTH ----------------------------------------------------------------------------------------------------------------------------------
set-grows : (l : List ℕ) (t n u : ℕ) → get_or l u 0 ≤ get_or (set l t (get_or l t 0 + n)) u 0
set-grows [] t n u = le_refl _
set-grows (x ∷ xs) zero n zero = omega arith
set-grows (x ∷ xs) zero n (suc u) = le_refl _
set-grows (x ∷ xs) (suc t) n zero = le_refl _
set-grows (x ∷ xs) (suc t) n (suc u) = set-grows xs t n u

abbrev pub Grows : Store → Store → Type 0
Grows s r = (u : ℕ) → count_of s u ≤ count_of r u

pub append-grows : (t n : ℕ) (s : Store) → Grows s (append t n s)
unfolding append
append-grows t n s u = set-grows s.counts t n u

module _ (firsts : List ℕ) where
  put-grows : (t p j w : ℕ) (s : Store) → Grows s (put firsts t p j w s)
  unfolding put
  put-grows t p j w s u = le_refl _

  mutual
    unfolding walk_records

    pub records-grow : (rs : Records) (t p : ℕ) (s : Store) → Grows s (walk_records firsts rs t p s)
    records-grow none t p s u = le_refl _
    records-grow (record-of cs rs) t p s u = le_trans (cells-grow cs t p 0 s u) (records-grow rs t (suc p) (walk_cells firsts cs t p 0 s) u)

    pub cells-grow : (cs : Cells) (t p j : ℕ) (s : Store) → Grows s (walk_cells firsts cs t p j s)
    cells-grow end t p j s u = le_refl _
    cells-grow (word w cs) t p j s u = le_trans (put-grows t p j w s u) (cells-grow cs t p (suc j) (put firsts t p j w s) u)
    cells-grow (mention v rs cs) t p j s u =
        let a : Store = put firsts t p j (place_of (count_of s v) rs) s in
        let b : Store = append v (record_count rs) a in
        let d : Store = walk_records firsts rs v (count_of s v) b in
        le_trans (put-grows t p j (place_of (count_of s v) rs) s u)
        (le_trans (append-grows v (record_count rs) a u) (le_trans (records-grow rs v (count_of s v) b u) (cells-grow cs t p (suc j) d u)))

-- the size grows with the counts
pub size-grows : (s r : Store) → Grows s r → size_for s.counts ≤ size_for r.counts
unfolding size_for
size-grows s r h =
    let a = total-grows (λ u. width_of u * count_of s u) (λ u. width_of u * count_of r u) 8 (λ u. mul-le-mul_left (width_of u) (h u)) in
    omega (arith, a)
