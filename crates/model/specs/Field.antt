-- What a word of a record may be: document 01, refusals 13, 14 and 21.
use Rattle.std.specs.Prelude.{Bool, true, false, not, ◌&&◌, ◌||◌, ℕ, ◌+◌, ◌*◌, List, leb, eqb, get_or}
use Rattle.model.specs.Lists.{every}
pub use Rattle.model.specs.declared.Field.{Field}
pub use Rattle.model.specs.declared.Field.TheVariants.{Free, UpTo, Mark, Tag, Index, Span, Nested}

-- a word w, with the word `next` behind it
unfoldable pub fits : Field → ℕ → ℕ → Bool
fits Free w next = true
fits (UpTo most) w next = leb w most
fits (Mark most value) w next = leb w most && (eqb w value || eqb next 0)
fits (Tag table) w next = leb w 1
fits (Index table) w next = true
fits (Span table) w next = true
fits Nested w next = true

-- the number n where a check fails, else what the checks behind it say
abbrev pub unless : Bool → ℕ → ℕ → ℕ
unless true n rest = rest
unless false n rest = n

-- A table in a list of words: records of `width` words, the first at `start`.
module _ (s : List ℕ) (start width : ℕ) where
  -- word j of record i; 0 past the end of the list
  abbrev pub cell_of : ℕ → ℕ → ℕ
  cell_of i j = get_or s (start + width * i + j) 0

  -- records a and b agree in word j
  abbrev pub agree : ℕ → ℕ → ℕ → Bool
  agree a b j = eqb (cell_of a j) (cell_of b j)

  -- record i differs in its first `key` words from every record before it
  abbrev pub fresh_key : ℕ → ℕ → Bool
  fresh_key key i = every i (λ b. not (every key (agree i b)))

  -- the first n records differ from each other in their keys
  abbrev pub distinct_keys : ℕ → ℕ → Bool
  distinct_keys key n = every n (fresh_key key)
