-- A line of a crontab as AtTime triggers: document 02, request 2. Its fields and patterns, what is refused, and the triggers.
use Rattle.std.specs.Prelude.{ℕ, zero, suc, ◌+◌, ◌/◌, ◌%◌, ◌^◌, Bool, false, cond, ◌&&◌, ◌||◌, List, [], ◌∷◌, map, leb, ltb, eqb, length, get_or, take, drop}
use Rattle.std.specs.Prelude.{Option, None, Some}
use Rattle.std.specs.Option.{is_some}
use Rattle.std.specs.List.{slice_split}
use Rattle.model.specs.Lists.{all, any, every, flatten, keep, total, up_from}
use Rattle.model.specs.Field.{unless}
use Rattle.model.specs.Digits.{is_digit, value_from}
use Rattle.model.specs.Answers.{lent}
use Rattle.model.specs.Asked.{Asked, declined}

-- BYTES ----------------------------------------------------------------------------------------------------------------------------
-- space and tab
abbrev pub is_blank : ℕ → Bool
is_blank b = eqb b 32 || eqb b 9

abbrev pub is_comma : ℕ → Bool
is_comma b = eqb b 44

abbrev pub is_hyphen : ℕ → Bool
is_hyphen b = eqb b 45

-- the place of the first byte that passes, or the end
unfoldable pub until : (ℕ → Bool) → List ℕ → ℕ
until p [] = 0
until p (b ∷ bs) = cond (p b) 0 (suc (until p bs))

-- the bytes from the first that does not pass on
unfoldable pub skip : (ℕ → Bool) → List ℕ → List ℕ
skip p [] = []
skip p (b ∷ bs) = cond (p b) (skip p bs) (b ∷ bs)

-- FIELDS: "spaces or tabs part the fields, none before the first" ----------------------------------------------------------------------
-- what stands behind the first field and the blanks after it
unfoldable pub behind_first : List ℕ → List ℕ
behind_first l = skip is_blank (drop (until is_blank l) l)

-- field k: the bytes before the first blank, or the end. A field that is not there is empty, and so is the first where a blank stands before
-- it; no pattern is empty. What follows the fifth is the command, and no field.
unfoldable pub field : ℕ → List ℕ → List ℕ
field zero l = take (until is_blank l) l
field (suc k) l = field k (behind_first l)

-- the lowest and the highest number of minute, hour, day of month, month, weekday
abbrev pub lowest : List ℕ
lowest = 0 ∷ 0 ∷ 1 ∷ 1 ∷ 0 ∷ []

abbrev pub highest : List ℕ
highest = 59 ∷ 23 ∷ 31 ∷ 12 ∷ 6 ∷ []

-- PATTERNS: "numbers, ranges with a hyphen, comma lists and the asterisk" --------------------------------------------------------------
-- "a number is decimal digits, leading zeros allowed"
unfoldable pub number_of : List ℕ → Option ℕ
number_of [] = None
number_of (b ∷ bs) = cond (all is_digit (b ∷ bs)) (Some (value_from 0 (b ∷ bs))) None

module _ (lo hi : ℕ) where
  -- the first and the last of the numbers from a to b, within the field's; "a range whose first number is above its second is not of the form"
  unfoldable pub range_of : Option ℕ → Option ℕ → Option (ℕ × ℕ)
  range_of None b = None
  range_of (Some a) None = None
  range_of (Some a) (Some b) = cond (leb lo a && (leb a b && leb b hi)) (Some (a, b)) None

  -- a number, or two of them with a hyphen between
  unfoldable pub element_of : List ℕ → Option (ℕ × ℕ)
  element_of s =
      let i = until is_hyphen s in
      cond (ltb i (length s)) (range_of (number_of (take i s)) (number_of (drop (i + 1) s))) (range_of (number_of s) (number_of s))

  -- elements joined by commas
  unfoldable pub elements_of : List ℕ → List (Option (ℕ × ℕ))
  elements_of s = map element_of (slice_split is_comma s)

abbrev pub holds : ℕ → Option (ℕ × ℕ) → Bool
holds v None = false
holds v (Some range) = leb range.0 v && leb v range.1

-- `*` alone
abbrev pub is_asterisk : List ℕ → Bool
is_asterisk [] = false
is_asterisk (b ∷ bs) = eqb b 42 && eqb (length bs) 0

module _ (lo hi : ℕ) (s : List ℕ) where
  unfoldable pub is_pattern : Bool
  is_pattern = is_asterisk s || all is_some (elements_of lo hi s)

  -- the number v is one of the pattern's
  unfoldable pub covers : ℕ → Bool
  covers v = is_asterisk s || any (holds v) (elements_of lo hi s)

-- A LINE -------------------------------------------------------------------------------------------------------------------------------
module _ (line : List ℕ) where
  unfoldable pub field_fits : ℕ → Bool
  field_fits k = is_pattern (get_or lowest k 0) (get_or highest k 0) (field k line)

  unfoldable pub field_covers : ℕ → ℕ → Bool
  field_covers k v = covers (get_or lowest k 0) (get_or highest k 0) (field k line) v

  unfoldable pub field_free : ℕ → Bool
  field_free k = is_asterisk (field k line)

  -- minute t of a day is one of the line's
  unfoldable pub starts : ℕ → Bool
  starts t = field_covers 1 (t / 60) && field_covers 0 (t % 60)

  -- "by hour, then minute, each pair once": as minutes of a day
  unfoldable pub minutes : List ℕ
  minutes = keep starts (up_from 0 1440)

  -- "day of month and month must be asterisks"
  unfoldable pub every_date : Bool
  every_date = field_free 2 && field_free 3

  -- the pairs fit into a store of so many words, eight for a trigger
  unfoldable pub has_room : ℕ → Bool
  has_room room = leb (length minutes) (room / 8)

-- the weekday here of day d there: "0 is Sunday there, and the caller names the weekday number that Sunday has here"
abbrev pub day_here : ℕ → ℕ → ℕ
day_here sunday d = (sunday + d) % 7

module _ (line : List ℕ) (sunday : ℕ) where
  -- the bit that day d there has here
  abbrev pub day_bit : ℕ → ℕ
  day_bit d = cond (field_covers line 4 d) (2 ^ day_here sunday d) 0

  unfoldable pub days : ℕ
  days = total 7 day_bit

  -- the opposite of "line not of the POSIX form or Sunday's number above 6"
  unfoldable pub of_the_form : Bool
  of_the_form = leb sunday 6 && every 5 (field_fits line)

  -- "lowest first"; 0 for none
  unfoldable pub refusal : ℕ → ℕ
  refusal room = unless of_the_form 50 (unless (every_date line) 51 (unless (has_room line room) 52 0))

-- THE ANSWER ---------------------------------------------------------------------------------------------------------------------------
-- an AtTime trigger: kind, hour, minute, days, and four words that are 0
abbrev pub trigger_words : ℕ → ℕ → List ℕ
trigger_words ds t = 2 ∷ t / 60 ∷ t % 60 ∷ ds ∷ 0 ∷ 0 ∷ 0 ∷ 0 ∷ []

unfoldable pub table_words : ℕ → List ℕ → List ℕ
table_words ds ts = flatten (map (trigger_words ds) ts)

-- a refusal, 0 for none, and the minutes ts of the days ds
abbrev pub answer_of : ℕ → ℕ → List ℕ → ℕ → Asked
answer_of zero ds ts room = record { number = 0; values = length ts ∷ []; lent = lent room (table_words ds ts) }
answer_of (suc n) ds ts room = declined room (suc n)

-- the number of triggers, and the triggers in `room` lent words
unfoldable pub crontab : List ℕ → ℕ → ℕ → Asked
crontab line sunday room = answer_of (refusal line sunday room) (days line sunday) (minutes line) room
