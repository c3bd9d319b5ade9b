-- Words lent for values: values past their end are not written, and words behind the values are 0. Assumes nothing.
use mathlib.Core.Path.{◌≡◌, refl, ap, ◌∙◌}
use mathlib.Core.List.{List, [], ◌∷◌, ◌++◌}
use Prim.Native.Nat.{ℕ, zero, suc, ◌≤◌, min}
use native.Mathlib.Nat.{le_refl}
use native.Mathlib.Omega.{arith}
use lib.ListN.{length, take, drop, replicate, length-replicate}
use Rattle.cerambiu.specs.Called.{lent_answer}

zeros : (n r : ℕ) → n ≤ r → replicate {A = ℕ} n 0 ≡ take n (replicate r 0)
zeros zero r h = refl
zeros (suc n) zero h = absurd (omega arith)
zeros (suc n) (suc r) h = ap (λ (l : List ℕ). 0 ∷ l) (zeros n r (omega arith))

-- k values and the zeros behind them, of n words
filled : (vs : List ℕ) (n r k : ℕ) → n ≤ r → k ≡ min (length vs) n → take k vs ++ drop k (replicate n 0) ≡ take n (vs ++ replicate r 0)
filled [] n r k h e = let z : k ≡ 0 = omega arith in rw z (zeros n r h)
filled (v ∷ vs) zero r k h e = let z : k ≡ 0 = omega arith in rw z
filled (v ∷ vs) (suc n) r zero h e = absurd (omega arith)
filled (v ∷ vs) (suc n) r (suc k) h e = ap (λ (l : List ℕ). v ∷ l) (filled vs n r k (omega arith) (omega arith))

-- the values are copied over the first of n zeros
pub copied : (vs : List ℕ) (n k : ℕ) {z front : List ℕ} → z ≡ replicate n 0 → k ≡ min (length vs) (length z) → front ≡ take k vs → front ++ drop k z ≡ lent_answer n vs
unfolding lent_answer
copied vs n k e h f = rw (f, e) (filled vs n n k (le_refl n) (h ∙ rw (e, length-replicate {A = ℕ} n 0)))
