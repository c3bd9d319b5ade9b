-- Tests: joined by `&&` and `||`, over numbers and lists, and as a refusal asks them. Assume nothing.
use mathlib.Core.Path.{◌≡◌, refl}
use mathlib.Core.Logic.{⊎_elim}
use mathlib.Core.Bool.{Bool, true, false, ◌&&◌, ◌||◌}
use mathlib.Core.List.{List, [], ◌∷◌, ◌++◌}
use Prim.Native.Nat.{ℕ, zero, suc, ◌<◌}
use native.Mathlib.Nat.{eq-or-lt_of_le, le_of_suc-le-suc}
use native.Mathlib.Omega.{arith}
use Rattle.std.proofs.lemmas.Bool.{and_from, and_parts}
use Rattle.model.specs.Lists.{all, every}
use Rattle.model.specs.Field.{unless}

pub or-true : (a : Bool) → a || true ≡ true
or-true true = refl
or-true false = refl

pub or-false : (a : Bool) → a || false ≡ a
or-false true = refl
or-false false = refl

-- a test that holds at every number below n holds at i
pub every-at : (f : ℕ → Bool) (n i : ℕ) → every n f ≡ true → i < n → f i ≡ true
unfolding every
every-at f zero i h l = absurd (omega arith)
every-at f (suc n) i h l =
    let e = and_parts (every n f) (f n) h in
    ⊎_elim (λ q. rw q e.1) (λ q. every-at f n i e.0 q) (eq-or-lt_of_le (le_of_suc-le-suc l))

pub all_append : {A : Type 0} (p : A → Bool) (xs ys : List A) → all p xs ≡ true → all p ys ≡ true → all p (xs ++ ys) ≡ true
all_append p [] ys h k = k
all_append p (x ∷ xs) ys h k = let b = and_parts (p x) (all p xs) h in and_from _ _ b.0 (all_append p xs ys b.1 k)

-- a refusal that was not given: its test holds, and the tests behind it refuse nothing
pub not-refused : (b : Bool) (n rest : ℕ) → unless b (suc n) rest ≡ 0 → (b ≡ true) × (rest ≡ 0)
not-refused true n rest e = (refl, e)
not-refused false n rest e = absurd (omega arith)
