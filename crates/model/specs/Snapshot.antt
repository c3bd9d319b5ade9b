-- Which snapshots are accepted: document 01, "Snapshot" and "Who can cause a refusal", 20 to 22.
use Rattle.std.specs.Prelude.{Bool, ◌&&◌, ◌||◌, List, [], ◌∷◌, ℕ, zero, suc, ◌+◌, ◌*◌, leb, eqb, length, get_or}
use Rattle.model.specs.Lists.{every}
use Rattle.words.specs.Saturating.{max32}
use Rattle.model.specs.Field.{Field, Free, UpTo, fits, cell_of, distinct_keys, unless}
use Rattle.model.specs.Rows.{void, bit, byte, id, present}

abbrev pub ten_bits : Field
ten_bits = UpTo 1023

-- the rows of the five tables
abbrev pub snapshot_rows : List (List Field)
snapshot_rows =
    (byte ∷ id ∷ present ∷ byte ∷ present ∷ id ∷ bit ∷ present ∷ byte ∷ []) ∷  -- lamp: adapter, id, level, cct_kelvin, on, last level
    (byte ∷ id ∷ bit ∷ bit ∷ byte ∷ []) ∷  -- group: adapter, id, any_on, all_off, member_count
    (byte ∷ byte ∷ bit ∷ []) ∷  -- device: adapter, address, online
    (byte ∷ byte ∷ byte ∷ present ∷ bit ∷ present ∷ ten_bits ∷ present ∷ ten_bits ∷ present ∷ Free ∷ []) ∷  -- input: adapter, address, instance, occupied, light, position, age
    (Free ∷ bit ∷ bit ∷ []) ∷  -- hcl: target, enabled, overridden
    []

-- the words of a row, and how many of them are its address
abbrev pub row_width : ℕ → ℕ
row_width t = length (get_or snapshot_rows t [])

abbrev pub key_of : ℕ → ℕ
key_of t = get_or (2 ∷ 2 ∷ 2 ∷ 3 ∷ 1 ∷ []) t 0

-- the largest value of each word before the rows: now, wall present, weekday, minute, sun present, sunrise, sunset,
-- controller_active, and the counts of lamps, groups, devices, inputs and hcl rows
abbrev pub head_most : List ℕ
head_most = max32 ∷ max32 ∷ 1 ∷ 6 ∷ 1439 ∷ 1 ∷ 1439 ∷ 1439 ∷ 1 ∷ 256 ∷ 64 ∷ 64 ∷ 128 ∷ 64 ∷ []

module _ (s : List ℕ) where
  abbrev pub head_word : ℕ → ℕ
  head_word j = get_or s j 0

  abbrev pub count_of : ℕ → ℕ
  count_of t = head_word (9 + t)

  -- the first word of table t; at 5, the number of words
  unfoldable pub start_of : ℕ → ℕ
  start_of zero = 14
  start_of (suc t) = start_of t + row_width t * count_of t

  -- 20: the length is as counted
  unfoldable pub snapshot_sized : Bool
  snapshot_sized = leb 14 (length s) && eqb (length s) (start_of 5)

  -- 21: the words before the rows; weekday and minute are 0 without a wall clock, and both sun minutes without a sun
  abbrev pub head_fits : ℕ → Bool
  head_fits j = leb (head_word j) (get_or head_most j 0)

  abbrev pub clock_fits : ℕ → Bool
  clock_fits j = eqb (head_word j) 1 || (eqb (head_word (j + 1)) 0 && eqb (head_word (j + 2)) 0)

  unfoldable pub header_fits : Bool
  header_fits = every 14 head_fits && (clock_fits 2 && clock_fits 5)

  -- 21: the rows
  unfoldable pub cell_at : ℕ → ℕ → ℕ → ℕ
  cell_at t i j = cell_of s (start_of t) (row_width t) i j

  abbrev pub cell_fits : ℕ → ℕ → ℕ → Bool
  cell_fits t i j = fits (get_or (get_or snapshot_rows t []) j void) (cell_at t i j) (cell_at t i (j + 1))

  abbrev pub row_fits : ℕ → ℕ → Bool
  row_fits t i = every (row_width t) (cell_fits t i)

  abbrev pub table_fits : ℕ → Bool
  table_fits t = every (count_of t) (row_fits t)

  -- 22: no two rows of one table with equal address
  abbrev pub table_distinct : ℕ → Bool
  table_distinct t = distinct_keys s (start_of t) (row_width t) (key_of t) (count_of t)

  -- the lowest number of a check that fails; 0 where none does
  unfoldable pub snapshot_refusal : ℕ
  snapshot_refusal =
      unless snapshot_sized 20 (unless header_fits 21 (unless (every 5 table_fits) 21 (unless (every 5 table_distinct) 22 0)))
