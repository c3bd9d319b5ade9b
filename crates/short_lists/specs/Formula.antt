-- List k by division, and the number of a list.
use Rattle.std.specs.Prelude.{ℕ, zero, suc, ◌+◌, ◌*◌, ◌-◌, ◌/◌, ◌%◌, cond, List, [], ◌∷◌, ltb, length}

-- how many lists of m places there are
unfoldable pub size : ℕ → ℕ → ℕ
size n zero = 1
size n (suc m) = n * size n m

-- list r of those of m places
unfoldable pub digits : ℕ → ℕ → ℕ → List ℕ
digits n zero r = []
digits n (suc m) r = (r / size n m) ∷ digits n m (r % size n m)

-- list k of those of m places, m + 1, ..: f lengths
unfoldable pub formula_from : ℕ → ℕ → ℕ → ℕ → List ℕ
formula_from n m zero k = []
formula_from n m (suc f) k = cond (ltb k (size n m)) (digits n m k) (formula_from n (suc m) f (k - size n m))

unfoldable pub formula : ℕ → ℕ → List ℕ
formula n k = formula_from n 0 4 k

-- how many lists of m places, m + 1, .. there are: d lengths
unfoldable pub gap : ℕ → ℕ → ℕ → ℕ
gap n m zero = 0
gap n m (suc d) = size n m + gap n (suc m) d

-- the places as digits to the base n
unfoldable pub value : ℕ → List ℕ → ℕ
value n [] = 0
value n (p ∷ l) = p * size n (length l) + value n l

-- the number of a list
unfoldable pub number : ℕ → List ℕ → ℕ
number n l = gap n 0 (length l) + value n l
