-- What a script does, byte by byte: each line that ends is a call of the specification on the words that are lent, and its answer is printed.
use Rattle.std.specs.Prelude.{ℕ, min, List, [], ◌∷◌, ◌++◌, ◌==◌, nat_lt, if◌then◌else◌, length, get_or, take, drop, set, None, Some, Ok, Err}
use Rattle.words.specs.Saturating.{saturating_add, max64}
use Rattle.model.specs.Calls as Calls
use Rattle.model.specs.OnWords.{call_on}
use Rattle.model.specs.Asked.{Asked}
use Rattle.model.specs.Crontab.{crontab}
use Rattle.model.specs.Readback.{readback_on}
use Rattle.model.specs.ShortLists.{short_list}
use Rattle.model.specs.Rewrite.{rewritten}
use Rattle.engine.specs.Asked.{next_start_on}
use Rattle.room.specs.Needed.{room_for}
use Rattle.cerambiu.specs.Called.{Called, answered}
use Rattle.cerambiu.specs.Told.{told, sending}
use Rattle.script.specs.Table.{rows}
use Rattle.script.specs.declared.calls.Call.{Call}
use Rattle.script.specs.declared.calls.Call.TheVariants.{New, Load, Unload, Enable, Tick, Run, Deadline, Counters, Lend, Size, Poke, Peek, Telegrams, Crontab, Start, RoomFor, ShortList, Rewrite, Readback}
use Rattle.script.specs.Script.{Line, Parsed, plain, parse}
use Rattle.script.specs.declared.complain.Wrong.TheVariants.{LineTooLong}
use Rattle.script.specs.Print.{peek_line, wrong_line}
use Rattle.play.specs.declared.calls.Settings.{Settings}
use Rattle.play.specs.Printed.{call_lines, told_lines, telegram_lines, trigger_lines, start_lines, room_lines, place_lines, rewrite_lines, readback_lines}

-- ONE LINE ---------------------------------------------------------------------------------------------------------------------------
-- the store's words after a line, and what is printed for it
pub record Obeyed : Type 0 where
  pub store : List ℕ
  pub lines : List ℕ

-- what is seen of a call on the words of a store, with 16 words lent for the values of its answer; and on the first n words
unfoldable pub seen : Calls.Call → List ℕ → Called
seen c w = answered 16 (call_on c w)

abbrev pub seen_on : ℕ → Calls.Call → List ℕ → Called
seen_on n c w = seen c (take n w)

unfoldable pub calling : ℕ → Calls.Call → List ℕ → Obeyed
calling n c w = record { store = (seen_on n c w).store ++ drop n w; lines = call_lines c (seen_on n c w) }

-- a call that asks; nothing changes
abbrev pub asking : Call → (List ℕ → List ℕ → List ℕ) → Asked → List ℕ → Obeyed
asking call lines a w = record { store = w; lines = told_lines call lines (told 16 a) }

-- one that asks the first n words of the store
abbrev pub asking_store : ℕ → Call → (List ℕ → List ℕ → List ℕ) → (List ℕ → Asked) → List ℕ → Obeyed
asking_store n call lines a w = asking call lines (a (take n w)) w

abbrev pub quiet : List ℕ → Obeyed
quiet w = record { store = w; lines = [] }

-- what each call of the table does, with its numbers a, b and c, the words of its list and the bytes of its text. Tick and run are lent words for outcomes
-- and effects, of which the player has so many; a call that answers into a store of its own is lent words of those for effects
unfoldable pub doing : ℕ → ℕ → Settings → List ℕ → List ℕ → ℕ → ℕ → ℕ → Call → List ℕ → Obeyed
doing os es t list text a b c New = calling t.size (Calls.new a)
doing os es t list text a b c Load = calling t.size (Calls.load a list)
doing os es t list text a b c Unload = calling t.size (Calls.unload a)
doing os es t list text a b c Enable = calling t.size (Calls.enable a (b == 1))
doing os es t list text a b c Tick = calling t.size (Calls.tick list (min t.outcomes os) (min t.effects es))
doing os es t list text a b c Run = calling t.size (Calls.run a (b == 1) list (min t.outcomes os) (min t.effects es))
doing os es t list text a b c Deadline = calling t.size Calls.deadline
doing os es t list text a b c Counters = calling t.size Calls.counters
doing os es t list text a b c Lend = quiet
doing os es t list text a b c Size = quiet
doing os es t list text a b c Poke = λ w. quiet (set w a b)
doing os es t list text a b c Peek = λ w. record { store = w; lines = peek_line a (get_or w a 0) }
doing os es t list text a b c Telegrams = asking Telegrams telegram_lines (sending (min a es) list)
doing os es t list text a b c Crontab = asking Crontab trigger_lines (crontab text a (min b es))
doing os es t list text a b c Start = asking_store t.size Start start_lines (next_start_on list)
doing os es t list text a b c RoomFor = asking RoomFor room_lines (room_for list)
doing os es t list text a b c ShortList = asking ShortList place_lines (short_list a (take b list) (take c (drop b list)) (drop c (drop b list)))
doing os es t list text a b c Rewrite = asking Rewrite rewrite_lines (rewritten list (min a es))
doing os es t list text a b c Readback = asking_store t.size Readback readback_lines (readback_on a list (min b es))

-- line number k
abbrev pub obeyed : ℕ → ℕ → ℕ → Line → List ℕ → List ℕ → Settings → List ℕ → Obeyed
obeyed os es k (Ok None) list text t w = quiet w
obeyed os es k (Ok (Some c)) list text t w = doing os es t list text (get_or c.numbers 0 0) (get_or c.numbers 1 0) (get_or c.numbers 2 0) c.call w
obeyed os es k (Err wrong) list text t w = record { store = w; lines = wrong_line k wrong }

-- `lend` and `size` are for later calls
abbrev pub settings_of : Call → ℕ → ℕ → Settings → Settings
settings_of Lend a b t = record t { outcomes = a; effects = b }
settings_of Size a b t = record t { size = a }
settings_of call a b t = t

abbrev pub settings_after : Line → Settings → Settings
settings_after (Ok None) t = t
settings_after (Ok (Some c)) t = settings_of c.call (get_or c.numbers 0 0) (get_or c.numbers 1 0) t
settings_after (Err wrong) t = t

-- A SCRIPT ---------------------------------------------------------------------------------------------------------------------------
-- lines ended, the line that is being read, what is lent, the store's words, and all that was printed
pub record Play : Type 0 where
  pub number : ℕ
  pub text : List ℕ
  pub settings : Settings
  pub store : List ℕ
  pub printed : List ℕ

-- the player has room for so many bytes of a line, and for so many words of a list, of outcomes and of effects
pub record Room : Type 0 where
  pub line : ℕ
  pub list : ℕ
  pub outcomes : ℕ
  pub effects : ℕ

-- what the bytes of a line say
unfoldable pub said : Room → List ℕ → Parsed
said m bytes = if nat_lt m.line (length bytes) then plain (Err LineTooLong) else parse rows m.list bytes

unfoldable pub line_ends : Room → Play → Play
line_ends m p =
    let q = said m p.text in
    let k = saturating_add max64 p.number 1 in
    let a = obeyed m.outcomes m.effects k q.line q.list q.text p.settings p.store in
    record { number = k; text = []; settings = settings_after q.line p.settings; store = a.store; printed = p.printed ++ a.lines }

-- a line ends with byte 10
unfoldable pub byte_comes : Room → ℕ → Play → Play
byte_comes m b p =
    if b == 10 then line_ends m p
    else record p { text = p.text ++ b ∷ [] }

unfoldable pub bytes_come : Room → List ℕ → Play → Play
bytes_come m [] p = p
bytes_come m (b ∷ bs) p = bytes_come m bs (byte_comes m b p)

-- what is lent where a script has said nothing of it
abbrev pub beginning : Settings
beginning = record { size = 16384; outcomes = 24576; effects = 327680 }

abbrev pub begins : List ℕ → Play
begins w = record { number = 0; text = []; settings = beginning; store = w; printed = [] }
