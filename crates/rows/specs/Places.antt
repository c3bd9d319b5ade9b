-- Rows and tables at places of the words, and words written there.
use Rattle.std.specs.Prelude.{List, ◌++◌, ℕ, ◌+◌, length, take, drop}
use Rattle.model.specs.Codec.{Row, rows_at}

-- what the words at k say
unfoldable pub row_at : {A : Type 0} → Row A → List ℕ → ℕ → A
row_at r w k = r.get (drop k w)

-- what n rows from k on say
unfoldable pub table_at : {A : Type 0} → Row A → ℕ → List ℕ → ℕ → List A
table_at r n w k = rows_at r n (drop k w)

-- w with vs written over it from k on
unfoldable pub laid : List ℕ → ℕ → List ℕ → List ℕ
laid w k vs = take k w ++ vs ++ drop (k + length vs) w
