-- One image for one rule set: the tree of the written words is the tree.
use mathlib.Core.Path.{◌≡◌, refl, sym, ap, ap₂, ◌∙◌}
use mathlib.Core.Bool.{true}
use mathlib.Core.List.{List, [], map}
use Prim.Native.Nat.{ℕ, zero, suc, ◌<◌}
use native.Mathlib.Nat.{zero-add}
use native.Mathlib.Omega.{arith}
use lib.ListN.{length, get_or}
use Rattle.model.specs.Lists.{all, up_from}
use Rattle.model.specs.Rows.{rules, blocks}
use Rattle.model.specs.Image.{width_of, trailer, first_of, size_of, word_at}
use Rattle.model.specs.Field.{cell_of}
use Rattle.model.proofs.Bools.{all_append}
use Rattle.model.specs.Tree.{Records, none, record-of, Cells, end, mention, records_of, list_of, lists_of, tree_of, record_count, below, below_cells, Counts, ◌⊕◌, place_of, appended, rows_below, rows_below_cells, tables_of, words_of}
use Rattle.rewrite.proofs.Counts.{rows_of_list, cells-count, list-count}
use Rattle.rewrite.proofs.ReadBack.{Stands, left-part, right-part, lists-read}
use Rattle.rewrite.proofs.Inside.{wide, none-below, lists-wide}
use Rattle.rewrite.proofs.Written as written

place-zero : (rs : Records) → place_of 0 rs ≡ 0
place-zero none = refl
place-zero (record-of cs rs) = refl

abbrev nothing : Counts
nothing u = 0

-- the rules and blocks of any image, as `at` reads it
module _ (at : ℕ → ℕ → ℕ → ℕ) (rule_count block_count : ℕ) where
  abbrev rule_tree : Records
  rule_tree = records_of at 600 rules 0 rule_count

  abbrev block_tree : Records
  block_tree = records_of at 600 blocks 0 block_count

  abbrev cells : Cells
  cells = lists_of at rule_count block_count

  abbrev pub tables : ℕ → List (List ℕ)
  tables = tables_of cells

  abbrev behind : Counts
  behind = appended nothing rules rule_tree ⊕ below rule_tree

  pub tables-wide : (u : ℕ) → all (wide u) (tables u) ≡ true
  unfolding tables_of lists_of rows_below
  tables-wide u =
      all_append (wide u) (rows_of_list nothing rules rule_tree u) _ (lists-wide u at 600 rules 0 rule_count nothing)
      (all_append (wide u) (rows_of_list behind blocks block_tree u) [] (lists-wide u at 600 blocks 0 block_count behind) refl)

  pub table-count : (u : ℕ) → length (tables u) ≡ below_cells cells u
  unfolding tables_of
  table-count u = cells-count cells nothing u

  counted : (t n : ℕ) → record_count (records_of at 600 t 0 n) ≡ n
  unfolding records_of list_of
  counted t n = size n 0
    where
      size : (m i : ℕ) → record_count (list_of at (records_of at 599) t i m) ≡ m
      size zero i = refl
      size (suc m) i = ap suc (size m (suc i))

  pub rules-counted : length (tables rules) ≡ rule_count
  unfolding lists_of below
  rules-counted =
      table-count rules
      ∙ omega (arith, counted rules rule_count, none-below 0 (omega arith) at 600 rules 0 rule_count, none-below 0 (omega arith) at 600 blocks 0 block_count)

  pub blocks-counted : length (tables blocks) ≡ block_count
  unfolding lists_of below
  blocks-counted =
      table-count blocks
      ∙ omega (arith, counted blocks block_count, none-below 1 (omega arith) at 600 rules 0 rule_count, none-below 1 (omega arith) at 600 blocks 0 block_count)

  module _ (from : ℕ → ℕ → ℕ → ℕ) (agrees : (t i j : ℕ) → t < 8 → i < length (tables t) → j < width_of t → from t i j ≡ get_or (get_or (tables t) i []) j 0) where
    abbrev Standing : Counts → (ℕ → List (List ℕ)) → Type 0
    Standing = Stands tables from agrees

    all-stand : Standing nothing (rows_below_cells nothing cells)
    unfolding tables_of
    all-stand u k l = (omega (arith, l), ap (λ n. get_or (rows_below_cells nothing cells u) n []) (zero-add k))

    pub rules-stand : Standing nothing (rows_of_list nothing rules rule_tree)
    unfolding lists_of rows_below
    rules-stand =
        left-part tables from agrees nothing (rows_of_list nothing rules rule_tree) (rows_below_cells behind (mention blocks block_tree end)) all-stand

    pub blocks-stand : Standing behind (rows_of_list behind blocks block_tree)
    unfolding lists_of rows_below
    blocks-stand =
        left-part tables from agrees behind (rows_of_list behind blocks block_tree) (λ u. [])
        (right-part tables from agrees nothing behind (rows_of_list nothing rules rule_tree) (rows_below_cells behind (mention blocks block_tree end))
        (λ u. omega (arith, list-count rule_tree nothing rules u)) all-stand)

    no-block-before : behind blocks ≡ 0
    no-block-before = omega (arith, none-below 1 (omega arith) at 600 rules 0 rule_count)

    pub cells-back : lists_of from rule_count block_count ≡ cells
    unfolding lists_of
    cells-back =
        let r : records_of from 600 rules 0 rule_count ≡ rule_tree =
        ap (λ p. records_of from 600 rules p rule_count) (sym (place-zero rule_tree)) ∙ lists-read tables from agrees at 600 rules 0 rule_count nothing (omega arith) rules-stand in
        let b : records_of from 600 blocks 0 block_count ≡ block_tree =
        ap (λ p. records_of from 600 blocks p block_count) (sym (ap (λ p. place_of p block_tree) no-block-before ∙ place-zero block_tree))
        ∙ lists-read tables from agrees at 600 blocks 0 block_count behind (omega arith) blocks-stand in
        ap₂ (λ x y. mention rules x (mention blocks y end)) r b

-- the name of rule i
pub as-cell : (img : List ℕ) (i : ℕ) → cell_of img (first_of img rules) 16 i 0 ≡ word_at img rules i 0
unfolding word_at width_of
as-cell img i = refl

-- (b) of every list of words
module _ (img : List ℕ) where
  abbrev at : ℕ → ℕ → ℕ → ℕ
  at = word_at img

  abbrev rule_count : ℕ
  rule_count = size_of img rules

  abbrev block_count : ℕ
  block_count = size_of img blocks

  abbrev pub limits : List ℕ
  limits = map (trailer img) (up_from 0 5)

  abbrev pub rows : ℕ → List (List ℕ)
  rows = tables at rule_count block_count

  abbrev pub out : List ℕ
  out = written.image rows limits refl (tables-wide at rule_count block_count)

  pub words-are : words_of (tree_of img) ≡ out
  unfolding words_of tree_of
  words-are = refl

  limits-kept : map (trailer out) (up_from 0 5) ≡ limits
  limits-kept =
      let e : (j : ℕ) → j < 5 → trailer out j ≡ get_or limits j 0 = written.limit-at rows limits refl (tables-wide at rule_count block_count) in
      rw (e 0 (omega arith), e 1 (omega arith), e 2 (omega arith), e 3 (omega arith), e 4 (omega arith)) refl

  pub size-kept : (t : ℕ) → t < 8 → size_of out t ≡ length (rows t)
  size-kept = written.size-at rows limits refl (tables-wide at rule_count block_count)

  pub lists-kept : lists_of (word_at out) (size_of out rules) (size_of out blocks) ≡ lists_of at rule_count block_count
  lists-kept =
      ap₂ (lists_of (word_at out)) (size-kept rules (omega arith) ∙ rules-counted at rule_count block_count) (size-kept blocks (omega arith) ∙ blocks-counted at rule_count block_count)
      ∙ cells-back at rule_count block_count (word_at out) (written.word-at rows limits refl (tables-wide at rule_count block_count))

  tree-of-out : tree_of out ≡ tree_of img
  unfolding tree_of
  tree-of-out = λ i. record { limits = limits-kept i; lists = lists-kept i }

  -- (b)
  pub tree-kept : tree_of (words_of (tree_of img)) ≡ tree_of img
  tree-kept = ap tree_of words-are ∙ tree-of-out

  -- (d)
  pub words-kept : words_of (tree_of (words_of (tree_of img))) ≡ words_of (tree_of img)
  words-kept = ap words_of tree-kept

-- (c)
pub same-tree : (a b : List ℕ) → words_of (tree_of a) ≡ words_of (tree_of b) → tree_of a ≡ tree_of b
same-tree a b e = sym (tree-kept a) ∙ ap tree_of e ∙ tree-kept b

pub same-words : (a b : List ℕ) → tree_of a ≡ tree_of b → words_of (tree_of a) ≡ words_of (tree_of b)
same-words a b e = ap words_of e
