-- The tree of an image: in place of an index the record, in place of a list its records. The words of a tree: document 02, request 11.
use Rattle.std.specs.Prelude.{ℕ, zero, suc, ◌+◌, ◌*◌, cond, List, [], ◌∷◌, ◌++◌, map, eqb, length}
use Rattle.model.specs.Lists.{up_from, flatten}
use Rattle.model.specs.Field.{Field, Free, UpTo, Mark, Tag, Index, Span, Nested}
use Rattle.model.specs.Rows.{rules, blocks, actions, field_of}
use Rattle.model.specs.Image.{width_of, size_of, word_at, trailer}

-- A list of records, each a row of cells. A cell is a word, or a mention: the records that stand in the place of an index or of a
-- list's first record, with the number of their table. The count of a list stays a word.
mutual
  pub data Records : Type 0 where
    none : Records
    record-of : Cells → Records → Records

  pub data Cells : Type 0 where
    end : Cells
    word : ℕ → Cells → Cells
    mention : ℕ → Records → Cells → Cells

pub record Tree : Type 0 where
  pub limits : List ℕ
  pub lists : Cells

-- THE TREE OF AN IMAGE ----------------------------------------------------------------------------------------------------------------
-- `deeper t i n`: n records of table t from record i on
abbrev pub Reader : Type 0
Reader = ℕ → ℕ → ℕ → Records

-- the cell behind a tag: 0 is an index, 1 a text
abbrev pub tagged : Reader → ℕ → ℕ → ℕ → Cells → Cells
tagged deeper t tag w rest = cond (eqb tag 0) (mention t (deeper t w 1) rest) (word w rest)

-- the cells of a row of fields, where word j is `w j`; a tag and a list take two words
unfoldable pub cells_of : Reader → List Field → (ℕ → ℕ) → Cells
cells_of deeper [] w = end
cells_of deeper (Free ∷ fs) w = word (w 0) (cells_of deeper fs (λ j. w (suc j)))
cells_of deeper (UpTo most ∷ fs) w = word (w 0) (cells_of deeper fs (λ j. w (suc j)))
cells_of deeper (Mark most value ∷ fs) w = word (w 0) (cells_of deeper fs (λ j. w (suc j)))
cells_of deeper (Tag t ∷ []) w = word (w 0) end
cells_of deeper (Tag t ∷ (f ∷ fs)) w = word (w 0) (tagged deeper t (w 0) (w 1) (cells_of deeper fs (λ j. w (suc (suc j)))))
cells_of deeper (Index t ∷ fs) w = mention t (deeper t (w 0) 1) (cells_of deeper fs (λ j. w (suc j)))
cells_of deeper (Span t ∷ []) w = word (w 0) end
cells_of deeper (Span t ∷ (f ∷ fs)) w = mention t (deeper t (w 0) (w 1)) (word (w 1) (cells_of deeper fs (λ j. w (suc (suc j)))))
cells_of deeper (Nested ∷ []) w = word (w 0) end
cells_of deeper (Nested ∷ (f ∷ fs)) w = mention actions (deeper actions (w 0) (w 1)) (word (w 1) (cells_of deeper fs (λ j. w (suc (suc j)))))

-- the fields of a record of table t whose first two words are `kind` and `code`
unfoldable pub fields_of : ℕ → ℕ → ℕ → List Field
fields_of t kind code = map (field_of t kind code) (up_from 0 (width_of t))

-- over word j of record i of table t
module _ (at : ℕ → ℕ → ℕ → ℕ) where
  unfoldable pub record_at : Reader → ℕ → ℕ → Cells
  record_at deeper t i = cells_of deeper (fields_of t (at t i 0) (at t i 1)) (at t i)

  unfoldable pub list_of : Reader → Reader
  list_of deeper t i zero = none
  list_of deeper t i (suc n) = record-of (record_at deeper t i) (list_of deeper t (suc i) n)

  -- lists that nest at most so deep
  unfoldable pub records_of : ℕ → Reader
  records_of zero t i n = none
  records_of (suc depth) t i n = list_of (records_of depth) t i n

  -- the rules and the blocks; the lists of 4,096 words nest less deep than 600
  unfoldable pub lists_of : ℕ → ℕ → Cells
  lists_of rule_count block_count =
      mention rules (records_of 600 rules 0 rule_count) (mention blocks (records_of 600 blocks 0 block_count) end)

unfoldable pub tree_of : List ℕ → Tree
tree_of img = record { limits = map (trailer img) (up_from 0 5); lists = lists_of (word_at img) (size_of img rules) (size_of img blocks) }

-- THE SIZE OF A TREE ------------------------------------------------------------------------------------------------------------------
abbrev pub record_count : Records → ℕ
record_count none = 0
record_count (record-of cs rs) = suc (record_count rs)

-- n records of table t
abbrev pub only : ℕ → ℕ → ℕ → ℕ
only t n u = cond (eqb t u) n 0

-- how many records of table u stand below: in mentions
unfoldable mutual
  pub below : Records → ℕ → ℕ
  below none u = 0
  below (record-of cs rs) u = below_cells cs u + below rs u

  pub below_cells : Cells → ℕ → ℕ
  below_cells end u = 0
  below_cells (word w cs) u = below_cells cs u
  below_cells (mention t rs cs) u = (only t (record_count rs) u + below rs u) + below_cells cs u

-- what a tree weighs, where a word weighs `w`, a record `r`, and the mention of n records of table t `m t n`
module _ (w r : ℕ) (m : ℕ → ℕ → ℕ) where
  unfoldable mutual
    pub weight : Records → ℕ
    weight none = 0
    weight (record-of cs rs) = r + (weight_cells cs + weight rs)

    pub weight_cells : Cells → ℕ
    weight_cells end = 0
    weight_cells (word x cs) = w + weight_cells cs
    weight_cells (mention t rs cs) = (m t (record_count rs) + weight rs) + weight_cells cs

-- the words that a tree is written in: those of its records, and the trailer
unfoldable pub tree_size : Tree → ℕ
tree_size x = weight_cells 0 0 (λ t n. width_of t * n) x.lists + 13

-- THE WORDS OF A TREE -----------------------------------------------------------------------------------------------------------------
-- so many records of each table are written
abbrev pub Counts : Type 0
Counts = ℕ → ℕ

infixl 25 ◌⊕◌
abbrev pub ◌⊕◌ : Counts → Counts → Counts
◌⊕◌ c d u = c u + d u

-- a list of no record has first 0
abbrev pub place_of : ℕ → Records → ℕ
place_of p none = 0
place_of p (record-of cs rs) = p

-- a list is appended whole, then record by record each mention with all inside it
abbrev pub appended : Counts → ℕ → Records → Counts
appended c t rs = c ⊕ only t (record_count rs)

-- the rows of records, where `c` are written before what they mention
unfoldable mutual
  pub rows_of : Counts → Records → List (List ℕ)
  rows_of c none = []
  rows_of c (record-of cs rs) = row_of c cs ∷ rows_of (c ⊕ below_cells cs) rs

  pub row_of : Counts → Cells → List ℕ
  row_of c end = []
  row_of c (word w cs) = w ∷ row_of c cs
  row_of c (mention t rs cs) = place_of (c t) rs ∷ row_of ((appended c t rs) ⊕ below rs) cs

-- the rows of table u that they add
unfoldable mutual
  pub rows_below : Counts → Records → ℕ → List (List ℕ)
  rows_below c none u = []
  rows_below c (record-of cs rs) u = rows_below_cells c cs u ++ rows_below (c ⊕ below_cells cs) rs u

  pub rows_below_cells : Counts → Cells → ℕ → List (List ℕ)
  rows_below_cells c end u = []
  rows_below_cells c (word w cs) u = rows_below_cells c cs u
  rows_below_cells c (mention t rs cs) u =
      (cond (eqb t u) (rows_of (appended c t rs) rs) [] ++ rows_below (appended c t rs) rs u) ++ rows_below_cells ((appended c t rs) ⊕ below rs) cs u

-- the rows of each table, from nothing
unfoldable pub tables_of : Cells → ℕ → List (List ℕ)
tables_of cs u = rows_below_cells (λ t. 0) cs u

-- the words of the first n tables
unfoldable pub table_words : (ℕ → List (List ℕ)) → ℕ → List ℕ
table_words rows zero = []
table_words rows (suc t) = table_words rows t ++ flatten (rows t)

unfoldable pub words_of : Tree → List ℕ
words_of x =
    let rows = tables_of x.lists in
    table_words rows 8 ++ (x.limits ++ map (λ t. length (table_words rows t)) (up_from 0 8))
