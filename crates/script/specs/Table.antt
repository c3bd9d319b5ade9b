-- The calls of the script language: one table, a row for each.
use Rattle.std.specs.Prelude.{ℕ, List, [], ◌∷◌, map, get_or}
use Prim.Native.String.{String}
use Rattle.words.specs.Saturating.{max32, max64}
use Rattle.model.specs.Text.{bytes_of}
pub use Rattle.script.specs.declared.calls.Call.{Call}
pub use Rattle.script.specs.declared.calls.Call.TheVariants.{New, Load, Unload, Enable, Tick, Run, Deadline, Counters, Lend, Size, Poke, Peek, Telegrams, Crontab, Start, RoomFor, ShortList, Rewrite, Readback}
pub use Rattle.script.specs.declared.calls.Param.{Param}
use Rattle.script.specs.declared.calls.Param.TheVariants.{Time, Rule, Mark, DryMark, OutcomeWords, EffectWords, WordCount, Place, Word, Room, Sunday, TriggerWords, ListNumber, ActionWords, ValueWords, PoolWords, StartWords}
pub use Rattle.script.specs.declared.calls.Tail.{Tail}
pub use Rattle.script.specs.declared.calls.Tail.TheVariants.{Nothing, Words, Parts, Text}

-- PARAMETERS -------------------------------------------------------------------------------------------------------------------------
abbrev pub param_name : Param → List ℕ
param_name Time = bytes_of "time"
param_name Rule = bytes_of "rule"
param_name Mark = bytes_of "mark"
param_name DryMark = bytes_of "dry mark"
param_name OutcomeWords = bytes_of "number of outcome words"
param_name EffectWords = bytes_of "number of effect words"
param_name WordCount = bytes_of "number of words"
param_name Place = bytes_of "place"
param_name Word = bytes_of "word"
param_name Room = bytes_of "room"
param_name Sunday = bytes_of "Sunday"
param_name TriggerWords = bytes_of "number of trigger words"
param_name ListNumber = bytes_of "list number"
param_name ActionWords = bytes_of "number of action words"
param_name ValueWords = bytes_of "number of value words"
param_name PoolWords = bytes_of "number of pool words"
param_name StartWords = bytes_of "number of start words"

-- the largest number: a time has 64 bits, a word 32, a mark is 0 or 1; lent stores and the store's places are limited
abbrev pub most_of : Param → ℕ
most_of Time = max64
most_of Rule = max32
most_of Mark = 1
most_of DryMark = 1
most_of OutcomeWords = 24576
most_of EffectWords = 327680
most_of WordCount = max32
most_of Place = 16383
most_of Word = max32
most_of Room = 8192
most_of Sunday = max32
most_of TriggerWords = 16384
most_of ListNumber = max32
most_of ActionWords = 8192
most_of ValueWords = 8192
most_of PoolWords = 8192
most_of StartWords = 16384

-- CALLS ------------------------------------------------------------------------------------------------------------------------------
-- a name, up to four parameters, and what stands behind them: nothing, a list of words, a list of as many words as its numbers behind the first say, or a text
pub record Row : Type 0 where
  pub name : List ℕ
  pub params : List Param
  pub tail : Tail

abbrev pub row : String → List Param → Tail → Row
row s ps x = record { name = bytes_of s; params = ps; tail = x }

abbrev pub rows : Call → Row
rows New = row "new" (Time ∷ []) Nothing
rows Load = row "load" (Time ∷ []) Words
rows Unload = row "unload" (Time ∷ []) Nothing
rows Enable = row "enable" (Rule ∷ Mark ∷ []) Nothing
rows Tick = row "tick" [] Words
rows Run = row "run" (Rule ∷ DryMark ∷ []) Words
rows Deadline = row "deadline" [] Nothing
rows Counters = row "counters" [] Nothing
rows Lend = row "lend" (OutcomeWords ∷ EffectWords ∷ []) Nothing
rows Size = row "size" (WordCount ∷ []) Nothing
rows Poke = row "poke" (Place ∷ Word ∷ []) Nothing
rows Peek = row "peek" (Place ∷ []) Nothing
rows Telegrams = row "telegrams" (Room ∷ []) Words
rows Crontab = row "crontab" (Sunday ∷ TriggerWords ∷ []) Text
rows Start = row "start" [] Words
rows RoomFor = row "room" [] Words
rows ShortList = row "shortlist" (ListNumber ∷ ActionWords ∷ ValueWords ∷ PoolWords ∷ []) Parts
rows Rewrite = row "rewrite" (Room ∷ []) Words
rows Readback = row "readback" (Rule ∷ StartWords ∷ []) Words

-- all of them
unfoldable pub calls : List Call
calls = New ∷ Load ∷ Unload ∷ Enable ∷ Tick ∷ Run ∷ Deadline ∷ Counters ∷ Lend ∷ Size ∷ Poke ∷ Peek ∷ Telegrams ∷ Crontab ∷ Start ∷ RoomFor ∷ ShortList ∷ Rewrite ∷ Readback ∷ []

-- the largest number of a call's parameter i, and 0 where it has none
abbrev pub largest_of : Call → ℕ → ℕ
largest_of call i = get_or (map most_of (rows call).params) i 0

-- BY NUMBER --------------------------------------------------------------------------------------------------------------------------
-- the rows in the order of the calls' numbers; a number of no call has no name and no parameters, and nothing stands behind it
unfoldable pub all_rows : List Row
all_rows = map rows calls

abbrev pub row_of : List Row → ℕ → Row
row_of t call = get_or t call (row "" [] Nothing)

-- the numbers of the parameters, and that of none
abbrev pub no_param : ℕ
no_param = 12

abbrev pub number_of : Param → ℕ
number_of Time = 0
number_of Rule = 1
number_of Mark = 2
number_of DryMark = 3
number_of OutcomeWords = 4
number_of EffectWords = 5
number_of WordCount = 6
number_of Place = 7
number_of Word = 8
number_of Room = 9
number_of Sunday = 10
number_of TriggerWords = 11
number_of ListNumber = 13
number_of ActionWords = 14
number_of ValueWords = 15
number_of PoolWords = 16
number_of StartWords = 17

-- the largest number of parameter i of the call of a number, and 0 where it has none
abbrev pub largest_at : ℕ → ℕ → ℕ
largest_at call i = get_or (map most_of (row_of all_rows call).params) i 0
