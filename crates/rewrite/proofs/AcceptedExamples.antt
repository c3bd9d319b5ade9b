-- (a) of a worked image: what it asks can be met, and the walk through kinds 25, 27 and 28, a value behind a tag, lists that overlap, and pool words.
use mathlib.Core.Path.{◌≡◌, refl, ap, ◌∙◌, sym}
use mathlib.Core.List.{List, [], ◌∷◌}
use Prim.Native.Nat.{ℕ, ◌≤◌}
use native.Mathlib.Omega.{arith}
use Rattle.model.specs.Lists.{every, total}
use Rattle.model.specs.Field.{fits}
use Rattle.model.specs.Rows.{field_of}
use Rattle.model.specs.Rules.{flow_of}
use Rattle.model.specs.Image.{width_of, image_sized, trailer, limits_fit, first_of, places_fit, size_of, table_of, word_at, leads, tables_pass, names_differ, few_enough}
use Rattle.model.specs.Flat.{block_named, flatten_call, flattenings, flatten_rule, flatten_rules, too_many_steps}
use Rattle.model.specs.Load.{tables_refusal, image_refusal_with, image_refusal}
use Rattle.model.specs.Tree.{tree_of, words_of, tree_size, cells_of, fields_of, record_at, list_of, records_of, lists_of, below, weight, rows_of, rows_below, tables_of, table_words}
use Rattle.rewrite.proofs.Accepted.{out-accepted}

-- a rule that calls the block and then branches; the branch is in the block's list too, and both its regions are the same record
abbrev sample : List ℕ
sample =
    5 ∷ 1 ∷ 0 ∷ 0 ∷ 0 ∷ 1 ∷ 0 ∷ 1 ∷ 0 ∷ 2 ∷ 0 ∷ 0 ∷ 0 ∷ 0 ∷ 0 ∷ 0 ∷
    9 ∷ 1 ∷ 3 ∷ 0 ∷ 0 ∷ 0 ∷ 0 ∷ 0 ∷
    1 ∷ 1000 ∷ 0 ∷ 0 ∷ 0 ∷ 0 ∷ 0 ∷ 0 ∷
    15 ∷ 3 ∷ 2 ∷ 0 ∷ 0 ∷ 0 ∷ 0 ∷ 0 ∷
    2 ∷ 1 ∷ 0 ∷ 0 ∷ 0 ∷ 0 ∷ 0 ∷ 0 ∷
    25 ∷ 9 ∷ 0 ∷ 0 ∷ 0 ∷ 0 ∷ 0 ∷ 0 ∷
    27 ∷ 1 ∷ 2 ∷ 1 ∷ 2 ∷ 1 ∷ 0 ∷ 0 ∷
    28 ∷ 4 ∷ 2 ∷ 0 ∷ 0 ∷ 0 ∷ 0 ∷ 0 ∷
    3 ∷ 1 ∷ 2 ∷ 0 ∷ 0 ∷ 0 ∷ 0 ∷ 0 ∷
    0 ∷ 7 ∷ 0 ∷ 0 ∷ 0 ∷ 0 ∷ 0 ∷ 0 ∷
    4 ∷
    5 ∷
    6 ∷
    8 ∷ 8 ∷ 255 ∷ 255 ∷ 255 ∷ 0 ∷ 16 ∷ 24 ∷ 32 ∷ 48 ∷ 80 ∷ 88 ∷ 88 ∷
    []

abbrev written : List ℕ
written =
    5 ∷ 1 ∷ 0 ∷ 0 ∷ 0 ∷ 1 ∷ 0 ∷ 1 ∷ 0 ∷ 2 ∷ 0 ∷ 0 ∷ 0 ∷ 0 ∷ 0 ∷ 0 ∷
    9 ∷ 4 ∷ 3 ∷ 0 ∷ 0 ∷ 0 ∷ 0 ∷ 0 ∷
    1 ∷ 1000 ∷ 0 ∷ 0 ∷ 0 ∷ 0 ∷ 0 ∷ 0 ∷
    15 ∷ 3 ∷ 2 ∷ 0 ∷ 0 ∷ 0 ∷ 0 ∷ 0 ∷
    2 ∷ 1 ∷ 0 ∷ 0 ∷ 0 ∷ 0 ∷ 0 ∷ 0 ∷
    2 ∷ 1 ∷ 0 ∷ 0 ∷ 0 ∷ 0 ∷ 0 ∷ 0 ∷
    25 ∷ 9 ∷ 0 ∷ 0 ∷ 0 ∷ 0 ∷ 0 ∷ 0 ∷
    27 ∷ 1 ∷ 2 ∷ 1 ∷ 3 ∷ 1 ∷ 0 ∷ 0 ∷
    28 ∷ 4 ∷ 2 ∷ 1 ∷ 0 ∷ 0 ∷ 0 ∷ 0 ∷
    28 ∷ 4 ∷ 2 ∷ 2 ∷ 0 ∷ 0 ∷ 0 ∷ 0 ∷
    27 ∷ 2 ∷ 7 ∷ 1 ∷ 8 ∷ 1 ∷ 0 ∷ 0 ∷
    28 ∷ 4 ∷ 2 ∷ 5 ∷ 0 ∷ 0 ∷ 0 ∷ 0 ∷
    3 ∷ 0 ∷ 2 ∷ 0 ∷ 0 ∷ 0 ∷ 0 ∷ 0 ∷
    28 ∷ 4 ∷ 2 ∷ 3 ∷ 0 ∷ 0 ∷ 0 ∷ 0 ∷
    28 ∷ 4 ∷ 2 ∷ 4 ∷ 0 ∷ 0 ∷ 0 ∷ 0 ∷
    0 ∷ 7 ∷ 0 ∷ 0 ∷ 0 ∷ 0 ∷ 0 ∷ 0 ∷
    0 ∷ 7 ∷ 0 ∷ 0 ∷ 0 ∷ 0 ∷ 0 ∷ 0 ∷
    0 ∷ 7 ∷ 0 ∷ 0 ∷ 0 ∷ 0 ∷ 0 ∷ 0 ∷
    0 ∷ 7 ∷ 0 ∷ 0 ∷ 0 ∷ 0 ∷ 0 ∷ 0 ∷
    0 ∷ 7 ∷ 0 ∷ 0 ∷ 0 ∷ 0 ∷ 0 ∷ 0 ∷
    0 ∷ 7 ∷ 0 ∷ 0 ∷ 0 ∷ 0 ∷ 0 ∷ 0 ∷
    5 ∷
    6 ∷
    8 ∷ 8 ∷ 255 ∷ 255 ∷ 255 ∷ 0 ∷ 16 ∷ 24 ∷ 32 ∷ 56 ∷ 128 ∷ 176 ∷ 176 ∷
    []

is-written : words_of (tree_of sample) ≡ written
unfolding tree_of words_of cells_of fields_of record_at list_of records_of lists_of below rows_of rows_below tables_of table_words width_of trailer first_of size_of word_at field_of
is-written = refl

accepted : image_refusal sample ≡ 0
unfolding image_refusal image_refusal_with tables_refusal image_sized limits_fit places_fit tables_pass names_differ few_enough too_many_steps flatten_rules flatten_rule flattenings flatten_call block_named flow_of width_of trailer first_of size_of table_of word_at leads fits field_of every total
accepted = refl

small : tree_size (tree_of sample) ≤ 4096
unfolding tree_size tree_of cells_of fields_of record_at list_of records_of lists_of weight width_of trailer first_of size_of word_at field_of
small = omega arith

written-accepted : image_refusal written ≡ 0
written-accepted = ap image_refusal (sym is-written) ∙ out-accepted sample accepted small
