-- The kept list, for every list of effects: (a) the same cuts, (b) the same lamps, (c) none shorter, (d) kept again it is itself. Assumes nothing.
use mathlib.Core.Path.{◌≡◌, refl, ap}
use mathlib.Core.Bool.{Bool, cond, not, and-false}
use mathlib.Core.List.{List, [], ◌∷◌}
use Prim.Native.Nat.{ℕ, zero, suc, ◌+◌, ◌≤◌}
use native.Mathlib.Omega.{arith}
use lib.Dec.{ltb}
use lib.ListN.{length}
use Rattle.model.specs.Lists.{keep}
use Rattle.model.specs.declared.Effect.{Effect}
use Rattle.model.specs.Telegrams.{is_level, at, supersedes, superseded, select, kept, cutting, SameLamps, KeepsOthers}
use Rattle.model.proofs.TestLaws.{by}
use Rattle.telegrams.proofs.KeptLaws as laws
use Rattle.telegrams.specs.Recursion.{is_set, set_again, kept_head, keep_last}
use Rattle.telegrams.proofs.KeptLaws.{keeps, leaves, again-level}
use Rattle.telegrams.proofs.ShortestLaws.{levels, SetsAll, fewest}
use Rattle.telegrams.proofs.PlacesLaws.{every_true, select-cons, kept-by-recursion}

-- (a)
pub same-cuts : (l : List Effect) → cutting (kept l) ≡ cutting l
same-cuts l = rw (kept-by-recursion l) (laws.same-cuts l)

-- (b)
pub same-lamps : (l : List Effect) → SameLamps l (kept l)
unfolding SameLamps
same-lamps l n t = rw (kept-by-recursion l) (laws.same-lamps l n t)

-- (d)
pub kept_again : (l : List Effect) → kept (kept l) ≡ kept l
kept_again l = rw (kept-by-recursion (kept l), kept-by-recursion l) (laws.kept_again l)

-- THE EFFECTS OF OTHER KINDS

others : List Effect → List Effect
others l = keep (λ x. not (is_level x)) l

length-split : (l : List Effect) → length l ≡ length (others l) + levels l
unfolding others levels
length-split [] = refl
length-split (x ∷ xs) =
    by (is_level x) (λ e. rw e (omega (arith, length-split xs))) (λ e. rw e (omega (arith, length-split xs)))

others-kept : (l : List Effect) → others (keep_last l) ≡ others l
unfolding others keep_last kept_head
others-kept [] = refl
others-kept (x ∷ xs) =
    by (set_again x xs)
    (λ e. rw (e, again-level x xs e) (others-kept xs))
    (λ e. rw e (ap (λ (ys : List Effect). cond (not (is_level x)) (x ∷ ys) ys) (others-kept xs)))

others-selected : (f : ℕ → Bool) (l : List Effect) → KeepsOthers f l → others (select f l) ≡ others l
unfolding others KeepsOthers at
others-selected f [] h = unfold select in refl
others-selected f (x ∷ xs) h =
    let rest : others (select (λ k. f (suc k)) xs) ≡ others xs = others-selected (λ k. f (suc k)) xs (λ i l e. h (suc i) (omega arith) e) in
    rw (select-cons f x xs)
    (by (is_level x)
    (λ e. by (f zero) (λ q. rw (q, e) rest) (λ q. rw (q, e) rest))
    (λ e. rw (h zero (omega arith) e, e) (ap (λ (ys : List Effect). x ∷ ys) rest)))

-- (c) the kept list leaves out levels only, and no selection that does so and sets the same is shorter
pub kept-keeps-others : (l : List Effect) → KeepsOthers (λ i. not (superseded l i)) l
unfolding KeepsOthers superseded supersedes
kept-keeps-others l i h e = rw (every_true (length l) (λ j. not (supersedes l i j)) (λ j. rw (e, and-false (ltb i j))))

sets-all : (l p : List Effect) → SameLamps l p → SetsAll l p
unfolding SameLamps SetsAll is_set
sets-all l p h n t e = rw (h n t) e

pub shortest : (l : List Effect) (f : ℕ → Bool) → KeepsOthers f l → SameLamps l (select f l) → length (kept l) ≤ length (select f l)
shortest l f h s =
    rw (kept-by-recursion l, length-split (keep_last l), length-split (select f l), others-kept l, others-selected f l h)
    (omega (arith, fewest l (select f l) (sets-all l (select f l) s)))
