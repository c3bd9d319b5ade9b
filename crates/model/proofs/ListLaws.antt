-- Laws of lists that the library lacks. Assumes nothing.
use mathlib.Core.Path.{◌≡◌, refl, ap, ◌∙◌}
use mathlib.Core.List.{List, [], ◌∷◌, ◌++◌, map}
use Prim.Native.Nat.{ℕ, zero, suc, ◌+◌, ◌<◌}
use native.Mathlib.Nat.{add-zero}
use native.Mathlib.Omega.{arith}
use lib.ListN.{length, get_or}
use Rattle.model.specs.Lists.{up_from}

pub length-up_from : (i n : ℕ) → length (up_from i n) ≡ n
length-up_from i zero = refl
length-up_from i (suc n) = ap suc (length-up_from (suc i) n)

pub up_from-last : (i n : ℕ) → up_from i (suc n) ≡ up_from i n ++ ((i + n) ∷ [])
up_from-last i zero = rw (add-zero i)
up_from-last i (suc n) = let e : suc i + n ≡ i + suc n = omega arith in rw (← e) (ap (λ (l : List ℕ). i ∷ l) (up_from-last (suc i) n))

pub map-up_from-at : {A : Type 0} (f : ℕ → A) (d : A) (i n k : ℕ) → k < n → get_or (map f (up_from i n)) k d ≡ f (i + k)
map-up_from-at f d i zero k h = absurd (omega arith)
map-up_from-at f d i (suc n) zero h = ap f (omega arith)
map-up_from-at f d i (suc n) (suc k) h = map-up_from-at f d (suc i) n k (omega arith) ∙ ap f (omega arith)
