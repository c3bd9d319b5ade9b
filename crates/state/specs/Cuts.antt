-- Words cut into pieces of given sizes, one behind the other: the parts of a state, and the rows of a table.
use Rattle.std.specs.Prelude.{◌≡◌, Bool, not, List, [], ◌∷◌, ◌++◌, ℕ, ◌+◌, ◌-◌, ◌*◌, ◌≤◌, ◌<◌, eqb, ltb, length, get_or, take, drop, set, replicate}
use Rattle.words.specs.Pairs.{joined}
use Rattle.model.specs.Codec.{Row}
use Rattle.model.specs.Lists.{flatten}
use Rattle.rows.specs.Places.{row_at, laid}

unfoldable pub cut : List ℕ → List ℕ → List (List ℕ)
cut [] w = []
cut (n ∷ ns) w = take n w ∷ cut ns (drop n w)

abbrev pub sum : List ℕ → ℕ
sum [] = 0
sum (n ∷ ns) = n + sum ns

-- the rows of a table, each of f words
unfoldable pub rows_in : ℕ → List ℕ → List (List ℕ)
rows_in f p = cut (replicate (get_or p 0 0) f) (drop 1 p)

-- and the words of a table of n words behind its count
unfoldable pub table_of : ℕ → List (List ℕ) → List ℕ
table_of n rows = length rows ∷ (flatten rows ++ replicate (n - length (flatten rows)) 0)

-- words that have a count and so many rows of f words
pub record Fits (f : ℕ) (p : List ℕ) : Type 0 where
  pub counted : 1 ≤ length p
  pub short : length p ≤ 16384
  pub thin : f ≤ 16
  pub few : get_or p 0 0 ≤ 64
  pub within : 1 + get_or p 0 0 * f ≤ length p

-- and zeros behind them
pub record Table (f : ℕ) (p : List ℕ) : Type 0 where
  pub fits : Fits f p
  pub whole : p ≡ table_of (length p - 1) (rows_in f p)

-- words that have room for a row more
pub record HasRoom (f : ℕ) (p : List ℕ) : Type 0 where
  pub short : length p ≤ 16384
  pub few : get_or p 0 0 ≤ 64
  pub room : 1 + get_or p 0 0 * f + f ≤ length p

-- and with that row behind the others
abbrev pub with_row : ℕ → List ℕ → List ℕ → List ℕ
with_row f row p = set (laid p (1 + get_or p 0 0 * f) row) 0 (get_or p 0 0 + 1)

-- numbers of 32 bits
abbrev pub Words : List ℕ → Type 0
Words [] = Unit
Words (x ∷ w) = (x < 4294967296) × Words w

-- p' has another row at place i, and is p otherwise
pub record RowSet (f : ℕ) (p : List ℕ) (i : ℕ) (row p' : List ℕ) : Type 0 where
  pub rows : rows_in f p' ≡ set (rows_in f p) i row
  pub long : length p' ≡ length p
  pub count : get_or p' 0 0 ≡ get_or p 0 0
  pub behind : drop (1 + get_or p 0 0 * f) p' ≡ drop (1 + get_or p 0 0 * f) p

-- a number of two words of a row
abbrev pub wide_of : ℕ → List ℕ → ℕ
wide_of at row = joined (get_or row at 0) (get_or row (at + 1) 0)

abbrev pub wide_in : ℕ → List ℕ → ℕ → ℕ → ℕ
wide_in f p i at = wide_of at (get_or (rows_in f p) i [])

-- whether word `at` of a row is x
abbrev pub has_word : ℕ → ℕ → List ℕ → Bool
has_word at x row = eqb (get_or row at 0) x

-- what the row says at word `at` passes
abbrev pub passes : {A : Type 0} → Row A → ℕ → (A → Bool) → List ℕ → Bool
passes r at test row = test (row_at r row at)

-- another word; a time that is still to come
abbrev pub is_other : ℕ → ℕ → Bool
is_other x y = not (eqb y x)

abbrev pub is_later : ℕ → ℕ → Bool
is_later time due = ltb time due
