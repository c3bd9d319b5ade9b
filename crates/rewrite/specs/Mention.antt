-- The word j of a record: whom it mentions, and what is written for it.
use Rattle.std.specs.Prelude.{ℕ, ◌+◌, Bool, cond, List, None, Some, is_some, unwrap_or, eqb, ltb}
use Rattle.model.specs.declared.Field.{Field}
use Rattle.model.specs.declared.Field.TheVariants.{Free, UpTo, Mark, Tag, Index, Span, Nested}
use Rattle.model.specs.Rows.{actions, field_of}
use Rattle.model.specs.Image.{width_of, word_at}
pub use Rattle.rewrite.specs.declared.mention.Mention.{Mention}

-- a word that is written as it is
abbrev pub plain : ℕ → Mention
plain w = record { table = 0; first = 0; count = 0; tag = None; word = Some w }

-- a word in whose place stand `count` records of table t
abbrev pub list_at : ℕ → ℕ → ℕ → Mention
list_at t first count = record { table = t; first = first; count = count; tag = None; word = None }

-- the same behind a tag
abbrev pub behind_tag : ℕ → Mention → Mention
behind_tag tag m = record m { tag = Some tag }

-- by its field, where `more` says that a word stands behind it
unfoldable pub mention_of : Field → Bool → ℕ → ℕ → Mention
mention_of Free more w next = plain w
mention_of (UpTo most) more w next = plain w
mention_of (Mark most value) more w next = plain w
mention_of (Tag t) more w next = cond more (behind_tag w (cond (eqb w 0) (list_at t next 1) (plain next))) (plain w)
mention_of (Index t) more w next = list_at t w 1
mention_of (Span t) more w next = cond more (list_at t w next) (plain w)
mention_of Nested more w next = cond more (list_at actions w next) (plain w)

unfoldable pub mention_at : List ℕ → ℕ → ℕ → ℕ → Mention
mention_at img t i j =
    mention_of (field_of t (word_at img t i 0) (word_at img t i 1) j) (ltb (j + 1) (width_of t)) (word_at img t i j) (word_at img t i (j + 1))

-- the words that a mention takes
abbrev pub steps_of : Mention → ℕ
steps_of m = cond (is_some m.tag) 2 1

-- the last of them, where its records would stand from row `place` on: an empty list has first 0
abbrev pub last_word : Mention → ℕ → ℕ
last_word m place = unwrap_or m.word (cond (eqb m.count 0) 0 place)
