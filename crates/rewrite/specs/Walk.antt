-- The walk through a tree that writes each word when it is met: its place in the written image is known then.
use Rattle.std.specs.Prelude.{◌≡◌, ℕ, zero, suc, ◌+◌, ◌-◌, ◌*◌, ◌<◌, ◌≤◌, cond, List, Option, None, Some, ltb, length, get_or, set}
use Rattle.model.specs.Lists.{total}
use Rattle.model.specs.Rows.{rules, blocks}
use Rattle.model.specs.Image.{width_of, trailer, size_of, word_at}
use Rattle.model.specs.Tree.{Records, none, record-of, Cells, end, word, mention, records_of, record_count, place_of, below_cells, tree_of, tree_size}
use Rattle.rewrite.specs.Mention.{Mention, last_word}

-- how many records of each table are appended, and the words of the image that is written
pub record Store : Type 0 where
  pub counts : List ℕ
  pub words : List ℕ

abbrev pub count_of : Store → ℕ → ℕ
count_of s t = get_or s.counts t 0

-- the words of as many records of each table
abbrev pub table_total : (ℕ → ℕ) → ℕ
table_total counts = total 8 (λ u. width_of u * counts u)

-- with the trailer
unfoldable pub size_for : List ℕ → ℕ
size_for counts = 13 + table_total (λ u. get_or counts u 0)

-- n records of table t more
unfoldable pub append : ℕ → ℕ → Store → Store
append t n s = record { counts = set s.counts t (get_or s.counts t 0 + n); words = s.words }

-- `firsts` are the first words of the tables
module _ (firsts : List ℕ) where
  -- word j of row p of table t
  abbrev pub word_place : ℕ → ℕ → ℕ → ℕ
  word_place t p j = get_or firsts t 0 + width_of t * p + j

  unfoldable pub put : ℕ → ℕ → ℕ → ℕ → Store → Store
  put t p j w s = record { counts = s.counts; words = set s.words (word_place t p j) w }

  -- records that stand from row p of table t on
  unfoldable mutual
    pub walk_records : Records → ℕ → ℕ → Store → Store
    walk_records none t p s = s
    walk_records (record-of cs rs) t p s = walk_records rs t (suc p) (walk_cells cs t p 0 s)

    -- the cells of row p from word j on
    pub walk_cells : Cells → ℕ → ℕ → ℕ → Store → Store
    walk_cells end t p j s = s
    walk_cells (word w cs) t p j s = walk_cells cs t p (suc j) (put t p j w s)
    walk_cells (mention u rs cs) t p j s =
        walk_cells cs t p (suc j) (walk_records rs u (count_of s u) (append u (record_count rs) (put t p j (place_of (count_of s u) rs) s)))

  -- a list is appended whole, then walked
  unfoldable pub walk_list : ℕ → Records → Store → Store
  walk_list t rs s = walk_records rs t (count_of s t) (append t (record_count rs) s)

  -- all records of a table of rules or of blocks
  unfoldable pub walk_table : List ℕ → ℕ → Store → Store
  walk_table img t s = walk_list t (records_of (word_at img) 600 t 0 (size_of img t)) s

  unfoldable pub walk_tables : List ℕ → Store → Store
  walk_tables img s = walk_table img blocks (walk_table img rules s)

  -- the words of a mention at word j of row p of table t, behind its tag if there is one
  abbrev pub put_words : Option ℕ → ℕ → ℕ → ℕ → ℕ → Store → Store
  put_words None w t p j s = put t p j w s
  put_words (Some tag) w t p j s = put t p (suc j) w (put t p j tag s)

  unfoldable pub put_mention : Mention → ℕ → ℕ → ℕ → Store → Store
  put_mention m t p j s = put_words m.tag (last_word m (count_of s m.table)) t p j s

-- what a function that walks `whole` from n words of room on answers: a size; and what it leaves
pub record Walked (whole : Store) (n : ℕ) (size : ℕ) (counts words : List ℕ) : Type 0 where
  pub within : size ≤ 4096 → record { counts = counts; words = words } ≡ whole
  pub over : 4096 < size → 4096 < size_for whole.counts
  pub sized : size ≡ size_for counts
  pub eight : length counts ≡ 8
  pub long : length words ≡ n

-- the first pass: the size of the written image and its records of each table; the size may be any above 4,096 where it is above
pub record Counted (img : List ℕ) (size : ℕ) (counts : List ℕ) : Type 0 where
  pub within : size ≤ 4096 → (size ≡ tree_size (tree_of img)) × ((u : ℕ) → u < 8 → get_or counts u 0 ≡ below_cells (tree_of img).lists u)
  pub over : 4096 < size → 4096 < tree_size (tree_of img)
  pub eight : length counts ≡ 8

-- the first words of the tables, and where the last one ends
pub record Placed (counts firsts : List ℕ) (end : ℕ) : Type 0 where
  pub eight : length firsts ≡ 8
  pub firsts-at : (t : ℕ) → t < 8 → get_or firsts t 0 ≡ total t (λ u. width_of u * get_or counts u 0)
  pub end-at : end ≡ table_total (λ u. get_or counts u 0)

-- word k of the trailer: five limits, which stay, and the first words of the tables
unfoldable pub trailer_of : List ℕ → List ℕ → ℕ → ℕ
trailer_of img firsts k = cond (ltb k 5) (trailer img k) (get_or firsts (k - 5) 0)

-- its first k words, from word `at` on
unfoldable pub put_trailer : List ℕ → List ℕ → ℕ → ℕ → List ℕ → List ℕ
put_trailer img firsts at zero ws = ws
put_trailer img firsts at (suc k) ws = set (put_trailer img firsts at k ws) (at + k) (trailer_of img firsts k)
