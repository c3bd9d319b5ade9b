-- What is printed for a call, from what its caller sees: document 01, "Outcomes and effects", and the answers of the other calls.
use Rattle.std.specs.Prelude.{ℕ, zero, suc, ◌+◌, ◌*◌, List, [], ◌∷◌, ◌++◌, ◌==◌, if◌then◌else◌, get_or, None, Some}
use Rattle.words.specs.Pairs.{joined}
use Rattle.model.specs.World.{now_of}
use Rattle.model.specs.Calls as Calls
use Rattle.cerambiu.specs.Called.{Called}
use Rattle.cerambiu.specs.Told.{Told}
use Rattle.model.specs.Text.{bytes_of}
use Rattle.script.specs.declared.calls.Call.{Call}
use Rattle.script.specs.declared.calls.Call.TheVariants.{New, Load, Unload, Enable, Tick, Run, Deadline, Counters}
use Rattle.script.specs.Print.{numbers, signed, line, handled_line, enabled_line, deadline_line, refused_line}
use Rattle.play.specs.declared.answers.Columns.{Columns}

-- RECORDS OF LENT STORES ---------------------------------------------------------------------------------------------------------------
-- n words from a place on
unfoldable pub words_at : List ℕ → ℕ → ℕ → List ℕ
words_at ws at zero = []
words_at ws at (suc n) = words_at ws at n ++ get_or ws (at + n) 0 ∷ []

-- a record is `width` words; a line of it shows so many, from word `from` on
abbrev pub row_line : List ℕ → Columns → List ℕ → ℕ → List ℕ
row_line name x ws i = line name (numbers (words_at ws (x.width * i + x.from) x.shown))

-- so many records, from number `first` on
abbrev pub row_lines : List ℕ → Columns → List ℕ → ℕ → ℕ → List ℕ
row_lines name x ws first zero = []
row_lines name x ws first (suc n) = row_lines name x ws first n ++ row_line name x ws (first + n)

-- "the word effect, kind and four words"
abbrev pub effect_lines : List ℕ → ℕ → ℕ → List ℕ
effect_lines es first n = row_lines (bytes_of "effect") (record { width = 5; from = 0; shown = 5 }) es first n

-- "a line of the word rule, its first four fields and its count"
abbrev pub outcome_at : List ℕ → ℕ → List ℕ
outcome_at os i = line (bytes_of "rule") (numbers (words_at os (8 * i) 4) ++ numbers (words_at os (8 * i + 5) 1))

-- "followed by a line for each of its effects"
abbrev pub outcome_with : List ℕ → List ℕ → ℕ → List ℕ
outcome_with os es i = outcome_at os i ++ effect_lines es (get_or os (8 * i + 4) 0) (get_or os (8 * i + 5) 0)

abbrev pub outcome_lines : List ℕ → List ℕ → ℕ → List ℕ
outcome_lines os es zero = []
outcome_lines os es (suc n) = outcome_lines os es n ++ outcome_with os es n

-- CALLS ------------------------------------------------------------------------------------------------------------------------------
-- their names
abbrev pub name_of : Calls.Call → Call
name_of (Calls.new t) = New
name_of (Calls.load t img) = Load
name_of (Calls.unload t) = Unload
name_of (Calls.enable rule on) = Enable
name_of (Calls.tick snap os es) = Tick
name_of (Calls.run rule dry snap os es) = Run
name_of Calls.deadline = Deadline
name_of Calls.counters = Counters

-- "prints call, time and number of outcomes; then for each outcome"
abbrev pub handled_lines : Call → ℕ → List ℕ → List ℕ → List ℕ → List ℕ
handled_lines call time answer os es = handled_line call time (get_or answer 0 0) ++ outcome_lines os es (get_or answer 0 0)

-- a mark, and a time as two words
abbrev pub deadline_of : List ℕ → List ℕ
deadline_of answer = deadline_line (if get_or answer 0 0 == 0 then None else Some (joined (get_or answer 1 0) (get_or answer 2 0)))

-- nothing for an accepted new, load or unload
abbrev pub answer_lines : Calls.Call → Called → List ℕ
answer_lines (Calls.new t) r = []
answer_lines (Calls.load t img) r = []
answer_lines (Calls.unload t) r = []
answer_lines (Calls.enable rule on) r = enabled_line rule (get_or r.answer 0 0 == 1)
answer_lines (Calls.tick snap os es) r = handled_lines Tick (now_of snap) r.answer r.outcomes r.effects
answer_lines (Calls.run rule dry snap os es) r = handled_lines Run (now_of snap) r.answer r.outcomes r.effects
answer_lines Calls.deadline r = deadline_of r.answer
answer_lines Calls.counters r = line (bytes_of "counters") (numbers (words_at r.answer 0 16))

-- a refusal returns its number only
abbrev pub unless_refused : Call → ℕ → List ℕ → List ℕ
unless_refused call number lines = if number == 0 then lines else refused_line call number

abbrev pub call_lines : Calls.Call → Called → List ℕ
call_lines c r = unless_refused (name_of c) r.number (answer_lines c r)

-- a call that asks: what is printed of its values, and of the words that it was lent
abbrev pub told_lines : Call → (List ℕ → List ℕ → List ℕ) → Told → List ℕ
told_lines call lines r = unless_refused call r.number (lines r.answer r.lent)

-- how many effects are to be sent, and a line for each
abbrev pub telegram_lines : List ℕ → List ℕ → List ℕ
telegram_lines answer list = line (bytes_of "telegrams") (numbers (words_at answer 0 1)) ++ effect_lines list 0 (get_or answer 0 0)

-- how many triggers a line of a crontab has, and hour, minute and days of each
abbrev pub trigger_lines : List ℕ → List ℕ → List ℕ
trigger_lines answer ws =
    line (bytes_of "crontab") (numbers (words_at answer 0 1))
    ++ row_lines (bytes_of "trigger") (record { width = 8; from = 1; shown = 3 }) ws 0 (get_or answer 0 0)

-- "start none", "start unknown", or in how many minutes and which rule, by the answer's mark
abbrev pub start_text : List ℕ → List ℕ
start_text answer =
    if get_or answer 0 0 == 0 then bytes_of " none" else
    (if get_or answer 0 0 == 1 then numbers (words_at answer 1 2) else bytes_of " unknown")

abbrev pub start_lines : List ℕ → List ℕ → List ℕ
start_lines answer lent = line (bytes_of "start") (start_text answer)

-- the room of an image: outcomes and effects
abbrev pub room_lines : List ℕ → List ℕ → List ℕ
room_lines answer lent = line (bytes_of "room") (numbers (words_at answer 0 2))

-- the length of a short list and its three places
abbrev pub place_lines : List ℕ → List ℕ → List ℕ
place_lines answer lent = line (bytes_of "shortlist") (numbers (words_at answer 0 4))

-- an image written anew: how many words it has, and these
abbrev pub rewrite_lines : List ℕ → List ℕ → List ℕ
rewrite_lines answer image = line (bytes_of "rewrite") (numbers (words_at answer 0 1) ++ numbers (words_at image 0 (get_or answer 0 0)))

-- mark, minute and signed remainder of start i
abbrev pub solar_line : List ℕ → ℕ → List ℕ
solar_line ws i = line (bytes_of "start") (numbers (words_at ws (3 * i) 2) ++ signed (get_or ws (3 * i + 2) 0))

abbrev pub solar_lines : List ℕ → ℕ → List ℕ
solar_lines ws zero = []
solar_lines ws (suc n) = solar_lines ws n ++ solar_line ws n

-- how many solar starts a rule has, and each of them
abbrev pub readback_lines : List ℕ → List ℕ → List ℕ
readback_lines answer ws = line (bytes_of "readback") (numbers (words_at answer 0 1)) ++ solar_lines ws (get_or answer 0 0)
