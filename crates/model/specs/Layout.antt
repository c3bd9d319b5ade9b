-- Which words have the shape of a store: parts, one behind the other, each of rows of words.
use Rattle.std.specs.Prelude.{Bool, true, false, ◌&&◌, ◌||◌, not, List, [], ◌∷◌, ℕ, zero, suc, ◌+◌, ◌-◌, ◌*◌, leb, eqb, length, drop}
-- a word of a row: at most `most`; where it is 0, the next `void` words are 0 too
pub use Rattle.model.specs.declared.Cell.{Cell}

abbrev pub up_to : ℕ → Cell
up_to n = record { most = n; void = 0 }

-- any word
abbrev pub free : Cell
free = up_to 4294967295

-- a mark: 0, with n void words behind it, or 1
abbrev pub mark : ℕ → Cell
mark n = record { most = 1; void = n }

-- the first n words are 0
unfoldable pub zeros : ℕ → List ℕ → Bool
zeros zero w = true
zeros (suc n) [] = false
zeros (suc n) (x ∷ w) = eqb x 0 && zeros n w

-- a word, with the words behind it
abbrev pub cell_fits : Cell → ℕ → List ℕ → Bool
cell_fits c x w = leb x c.most && (not (eqb x 0) || zeros c.void w)

unfoldable pub row_fits : List Cell → List ℕ → Bool
row_fits [] w = true
row_fits (c ∷ cs) [] = false
row_fits (c ∷ cs) (x ∷ w) = cell_fits c x w && row_fits cs w

unfoldable pub rows_fit : ℕ → List Cell → List ℕ → Bool
rows_fit zero cs w = true
rows_fit (suc n) cs w = row_fits cs w && rows_fit n cs (drop (length cs) w)

-- n rows; or a count of rows, those rows, and zeros in the places of the others up to n
pub data Part : Type 0 where
  fixed : ℕ → List Cell → Part
  counted : ℕ → List Cell → Part

abbrev pub size_of : Part → ℕ
size_of (fixed n cs) = n * length cs
size_of (counted n cs) = 1 + n * length cs

abbrev pub part_fits : Part → List ℕ → Bool
part_fits (fixed n cs) w = rows_fit n cs w
part_fits (counted n cs) [] = false
part_fits (counted n cs) (x ∷ w) = leb x n && (rows_fit x cs w && zeros ((n - x) * length cs) (drop (x * length cs) w))

unfoldable pub sizes : List Part → ℕ
sizes [] = 0
sizes (p ∷ ps) = size_of p + sizes ps

unfoldable pub parts_fit : List Part → List ℕ → Bool
parts_fit [] w = true
parts_fit (p ∷ ps) w = part_fits p w && parts_fit ps (drop (size_of p) w)
