-- Worked examples of the walk.
use mathlib.Core.Path.{◌≡◌, refl}
use mathlib.Core.List.{[], ◌∷◌}
use Rattle.model.specs.Rows.{field_of}
use Rattle.model.specs.Image.{width_of, trailer, first_of, size_of, word_at}
use Rattle.model.specs.Tree.{tree_of, words_of, tree_size, cells_of, fields_of, record_at, list_of, records_of, lists_of, below, weight, rows_of, rows_below, tables_of, table_words}

-- After to X, After to Y, where X is Repeat to Z, behind a record that nobody mentions: After, After, X, Z, Y
depth-first : words_of (tree_of (7 ∷ 1 ∷ 0 ∷ 0 ∷ 0 ∷ 0 ∷ 0 ∷ 0 ∷ 1 ∷ 2 ∷ 0 ∷ 0 ∷ 0 ∷ 0 ∷ 0 ∷ 0 ∷ 21 ∷ 99 ∷ 0 ∷ 0 ∷ 0 ∷ 0 ∷ 0 ∷ 0 ∷ 24 ∷ 5 ∷ 4 ∷ 1 ∷ 0 ∷ 0 ∷ 0 ∷ 0 ∷ 24 ∷ 6 ∷ 3 ∷ 1 ∷ 0 ∷ 0 ∷ 0 ∷ 0 ∷ 21 ∷ 9 ∷ 0 ∷ 0 ∷ 0 ∷ 0 ∷ 0 ∷ 0 ∷ 26 ∷ 2 ∷ 5 ∷ 1 ∷ 0 ∷ 0 ∷ 0 ∷ 0 ∷ 21 ∷ 8 ∷ 0 ∷ 0 ∷ 0 ∷ 0 ∷ 0 ∷ 0 ∷ 8 ∷ 8 ∷ 255 ∷ 255 ∷ 255 ∷ 0 ∷ 16 ∷ 16 ∷ 16 ∷ 16 ∷ 64 ∷ 64 ∷ 64 ∷ []))
    ≡ (7 ∷ 1 ∷ 0 ∷ 0 ∷ 0 ∷ 0 ∷ 0 ∷ 0 ∷ 0 ∷ 2 ∷ 0 ∷ 0 ∷ 0 ∷ 0 ∷ 0 ∷ 0 ∷ 24 ∷ 5 ∷ 2 ∷ 1 ∷ 0 ∷ 0 ∷ 0 ∷ 0 ∷ 24 ∷ 6 ∷ 4 ∷ 1 ∷ 0 ∷ 0 ∷ 0 ∷ 0 ∷ 26 ∷ 2 ∷ 3 ∷ 1 ∷ 0 ∷ 0 ∷ 0 ∷ 0 ∷ 21 ∷ 8 ∷ 0 ∷ 0 ∷ 0 ∷ 0 ∷ 0 ∷ 0 ∷ 21 ∷ 9 ∷ 0 ∷ 0 ∷ 0 ∷ 0 ∷ 0 ∷ 0 ∷ 8 ∷ 8 ∷ 255 ∷ 255 ∷ 255 ∷ 0 ∷ 16 ∷ 16 ∷ 16 ∷ 16 ∷ 56 ∷ 56 ∷ 56 ∷ [])
unfolding tree_of words_of tree_size cells_of fields_of record_at list_of records_of lists_of below weight rows_of rows_below tables_of table_words width_of trailer first_of size_of word_at field_of
depth-first = refl

-- one list of two rules, a Cycle, is written twice, and its pool words too; an empty list behind one that is not has first 0
written-out : words_of (tree_of (7 ∷ 1 ∷ 0 ∷ 0 ∷ 0 ∷ 1 ∷ 0 ∷ 0 ∷ 0 ∷ 1 ∷ 0 ∷ 0 ∷ 0 ∷ 0 ∷ 0 ∷ 0 ∷ 8 ∷ 1 ∷ 0 ∷ 0 ∷ 1 ∷ 0 ∷ 0 ∷ 0 ∷ 0 ∷ 1 ∷ 0 ∷ 0 ∷ 0 ∷ 0 ∷ 0 ∷ 0 ∷ 4 ∷ 0 ∷ 0 ∷ 0 ∷ 0 ∷ 0 ∷ 0 ∷ 0 ∷ 3 ∷ 1 ∷ 2 ∷ 0 ∷ 0 ∷ 0 ∷ 0 ∷ 0 ∷ 9 ∷ 5 ∷ 6 ∷ 8 ∷ 8 ∷ 255 ∷ 255 ∷ 255 ∷ 0 ∷ 32 ∷ 32 ∷ 40 ∷ 40 ∷ 48 ∷ 48 ∷ 48 ∷ []))
    ≡ (7 ∷ 1 ∷ 0 ∷ 0 ∷ 0 ∷ 1 ∷ 0 ∷ 0 ∷ 0 ∷ 1 ∷ 0 ∷ 0 ∷ 0 ∷ 0 ∷ 0 ∷ 0 ∷ 8 ∷ 1 ∷ 0 ∷ 0 ∷ 0 ∷ 0 ∷ 0 ∷ 0 ∷ 1 ∷ 1 ∷ 0 ∷ 0 ∷ 0 ∷ 0 ∷ 0 ∷ 0 ∷ 4 ∷ 0 ∷ 0 ∷ 0 ∷ 0 ∷ 0 ∷ 0 ∷ 0 ∷ 3 ∷ 0 ∷ 2 ∷ 0 ∷ 0 ∷ 0 ∷ 0 ∷ 0 ∷ 3 ∷ 2 ∷ 2 ∷ 0 ∷ 0 ∷ 0 ∷ 0 ∷ 0 ∷ 5 ∷ 6 ∷ 5 ∷ 6 ∷ 8 ∷ 8 ∷ 255 ∷ 255 ∷ 255 ∷ 0 ∷ 32 ∷ 32 ∷ 40 ∷ 40 ∷ 56 ∷ 56 ∷ 56 ∷ [])
unfolding tree_of words_of tree_size cells_of fields_of record_at list_of records_of lists_of below weight rows_of rows_below tables_of table_words width_of trailer first_of size_of word_at field_of
written-out = refl

-- without rules and blocks: 13 words
trailer-alone : tree_size (tree_of (8 ∷ 8 ∷ 255 ∷ 255 ∷ 255 ∷ 0 ∷ 0 ∷ 0 ∷ 0 ∷ 0 ∷ 0 ∷ 0 ∷ 0 ∷ [])) ≡ 13
unfolding tree_of words_of tree_size cells_of fields_of record_at list_of records_of lists_of below weight rows_of rows_below tables_of table_words width_of trailer first_of size_of word_at field_of
trailer-alone = refl
