-- Selections by places, and the kept list by places, by recursion on the list. Assumes nothing.
use mathlib.Core.Path.{◌≡◌, refl, sym, ap, ◌∙◌}
use mathlib.Core.Bool.{Bool, true, false, cond, not, ◌&&◌, ◌||◌, false≢true, and-false, and-true, and_assoc}
use mathlib.Core.List.{List, [], ◌∷◌, map}
use Prim.Native.Nat.{ℕ, zero, suc}
use lib.Dec.{leb, leb-zero, leb-suc-zero, leb-suc-suc}
use lib.ListN.{length}
use Rattle.model.specs.Lists.{keep, up_from, every}
use Rattle.model.specs.declared.Effect.{Effect}
use Rattle.model.specs.Telegrams.{is_level, cuts, sets, at, supersedes, superseded, select, kept}
use Rattle.model.proofs.TestLaws.{every_first, every-same, by}
use Rattle.telegrams.specs.Recursion.{is_set, set_again, kept_head, keep_last}
use Rattle.telegrams.proofs.KeptLaws.{level-not-cut}
use Rattle.telegrams.proofs.ShortestLaws.{none-set, cut-first, on-first, sets-level}

-- TESTS AT EVERY NUMBER

pub every_true : (n : ℕ) (f : ℕ → Bool) → ((i : ℕ) → f i ≡ true) → every n f ≡ true
unfolding every
every_true zero f h = refl
every_true (suc n) f h = rw (every_true n f h, h n)

-- SELECTIONS

behind : (x : Effect) (xs : List Effect) (f : ℕ → Bool) (i n : ℕ) → map (at (x ∷ xs)) (keep f (up_from (suc i) n)) ≡ map (at xs) (keep (λ k. f (suc k)) (up_from i n))
unfolding at
behind x xs f i zero = refl
behind x xs f i (suc n) =
    by (f (suc i))
    (λ e. rw e (ap (λ (l : List Effect). at xs i ∷ l) (behind x xs f (suc i) n)))
    (λ e. rw e (behind x xs f (suc i) n))

pub select-cons : (f : ℕ → Bool) (x : Effect) (xs : List Effect) → select f (x ∷ xs) ≡ cond (f zero) (x ∷ select (λ k. f (suc k)) xs) (select (λ k. f (suc k)) xs)
unfolding select at
select-cons f x xs =
    by (f zero)
    (λ e. rw e (ap (λ (l : List Effect). x ∷ l) (behind x xs f 0 (length xs))))
    (λ e. rw e (behind x xs f 0 (length xs)))

select-same : (f g : ℕ → Bool) (l : List Effect) → ((i : ℕ) → f i ≡ g i) → select f l ≡ select g l
unfolding select
select-same f g l h = ap (λ (is : List ℕ). map (at l) is) (keep_same (up_from 0 (length l)))
  where
    keep_same : (is : List ℕ) → keep f is ≡ keep g is
    keep_same [] = refl
    keep_same (i ∷ is) = rw (h i, keep_same is)

-- SUPERSEDED

-- a place behind the first: as in the rest
supersedes-rest : (x : Effect) (xs : List Effect) (i j : ℕ) → supersedes (x ∷ xs) (suc i) (suc j) ≡ supersedes xs i j
unfolding supersedes at
supersedes-rest x xs i j =
    rw (every_first j (λ k. leb k (suc i) || not (cuts (at (x ∷ xs) k))), leb-zero (suc i), leb-suc-suc (suc i) j, every-same j (λ k. leb (suc k) (suc i) || not (cuts (at xs k))) (λ k. leb k i || not (cuts (at xs k))) (λ k. rw (leb-suc-suc k i)))

never : (x : Effect) (xs : List Effect) (i : ℕ) → supersedes (x ∷ xs) (suc i) zero ≡ false
unfolding supersedes
never x xs i = rw (leb-suc-zero (suc i))

superseded-rest : (x : Effect) (xs : List Effect) (i : ℕ) → superseded (x ∷ xs) (suc i) ≡ superseded xs i
unfolding superseded
superseded-rest x xs i =
    ap not (every_first (length xs) (λ j. not (supersedes (x ∷ xs) (suc i) j))) ∙
    rw (never x xs i, every-same (length xs) (λ j. not (supersedes (x ∷ xs) (suc i) (suc j))) (λ j. not (supersedes xs i j)) (λ j. rw (supersedes-rest x xs i j)))

-- place j of the first stretch sets lamp t
sets_at : ℕ → List Effect → ℕ → Bool
sets_at t xs j = sets t (at xs j) && every j (λ k. not (cuts (at xs k)))

sets_first : (t : ℕ) (y : Effect) (ys : List Effect) → sets_at t (y ∷ ys) zero ≡ sets t y
unfolding sets_at at every
sets_first t y ys = and-true (sets t y)

sets-rest : (t : ℕ) (y : Effect) (ys : List Effect) (j : ℕ) → cuts y ≡ false → sets_at t (y ∷ ys) (suc j) ≡ sets_at t ys j
unfolding sets_at at
sets-rest t y ys j e = rw (every_first j (λ k. not (cuts (at (y ∷ ys) k))), e)

sets-past : (t : ℕ) (y : Effect) (ys : List Effect) (j : ℕ) → cuts y ≡ true → sets_at t (y ∷ ys) (suc j) ≡ false
unfolding sets_at at
sets-past t y ys j e = rw (every_first j (λ k. not (cuts (at (y ∷ ys) k))), e) (and-false (sets t (at ys j)))

pub cut-sets-none : (t : ℕ) (y : Effect) → cuts y ≡ true → sets t y ≡ false
cut-sets-none t y e = by (sets t y) (λ q. absurd (false≢true (sym (level-not-cut y (sets-level t y q)) ∙ e))) (λ q. q)

either : (a b : Bool) → not (not a && b) ≡ a || not b
either true b = refl
either false b = refl

set-somewhere : (t : ℕ) (xs : List Effect) → not (every (length xs) (λ j. not (sets_at t xs j))) ≡ is_set zero t xs
set-somewhere t [] = unfold every in sym (none-set zero t)
set-somewhere t (y ∷ ys) =
    ap not (every_first (length ys) (λ j. not (sets_at t (y ∷ ys) j))) ∙
    by (cuts y)
    (λ e. rw (sets_first t y ys, cut-sets-none t y e, every_true (length ys) (λ j. not (sets_at t (y ∷ ys) (suc j))) (λ j. rw (sets-past t y ys j e)))
    (sym (cut-first t y ys e)))
    (λ e. rw (sets_first t y ys, every-same (length ys) (λ j. not (sets_at t (y ∷ ys) (suc j))) (λ j. not (sets_at t ys j)) (λ j. rw (sets-rest t y ys j e)))
    (either (sets t y) (every (length ys) (λ j. not (sets_at t ys j))) ∙ ap (λ (b : Bool). sets t y || b) (set-somewhere t ys) ∙ sym (on-first t y ys e)))

-- the first place
first_by : (x : Effect) (xs : List Effect) (j : ℕ) → supersedes (x ∷ xs) zero (suc j) ≡ is_level x && sets_at x.a xs j
unfolding supersedes sets_at at
first_by x xs j =
    rw (every_first j (λ k. leb k zero || not (cuts (at (x ∷ xs) k))), leb-suc-suc zero j, leb-zero j, every-same j (λ k. leb (suc k) zero || not (cuts (at xs k))) (λ k. not (cuts (at xs k))) (λ k. rw (leb-suc-zero k)))
    (and_assoc (is_level x) (sets x.a (at xs j)) (every j (λ k. not (cuts (at xs k)))))

not_itself : (x : Effect) (xs : List Effect) → supersedes (x ∷ xs) zero zero ≡ false
unfolding supersedes
not_itself x xs = rw (leb-suc-zero zero)

superseded-first : (x : Effect) (xs : List Effect) → superseded (x ∷ xs) zero ≡ set_again x xs
unfolding superseded set_again
superseded-first x xs =
    ap not (every_first (length xs) (λ j. not (supersedes (x ∷ xs) zero j))) ∙
    rw (not_itself x xs, every-same (length xs) (λ j. not (supersedes (x ∷ xs) zero (suc j))) (λ j. not (is_level x && sets_at x.a xs j)) (λ j. rw (first_by x xs j)))
    (by (is_level x)
    (λ e. rw e (set-somewhere x.a xs))
    (λ e. rw (e, every_true (length xs) (λ j. true) (λ j. refl))))

-- the kept list by places is that by recursion
pub kept-by-recursion : (l : List Effect) → kept l ≡ keep_last l
unfolding kept keep_last kept_head
kept-by-recursion [] = unfold select in refl
kept-by-recursion (x ∷ xs) =
    select-cons (λ i. not (superseded (x ∷ xs) i)) x xs ∙
    rw (superseded-first x xs, select-same (λ i. not (superseded (x ∷ xs) (suc i))) (λ i. not (superseded xs i)) xs (λ i. rw (superseded-rest x xs i)), kept-by-recursion xs)
    (by (set_again x xs) (λ e. rw e) (λ e. rw e))
