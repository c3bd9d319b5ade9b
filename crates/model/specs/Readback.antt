-- The readback of solar starts: document 02, request 4. The starts of a rule, and the call on a store and on words.
use Rattle.std.specs.Prelude.{ℕ, ◌/◌, cond, List, [], ◌∷◌, leb, length, filter_map}
use Rattle.std.specs.Prelude.{Option, None, Some}
use Rattle.words.specs.Solar.{solar_words}
use Rattle.model.specs.Lists.{flatten}
use Rattle.model.specs.Rules.{Trigger, TimerFires, Every, AtTime, AtSolar, Other, triggers_of, rule_named, SolarEvent}
use Rattle.model.specs.World.{SunTimes, world_of}
use Rattle.model.specs.Snapshot.{snapshot_refusal}
use Rattle.model.specs.State.{RuleSet, Store}
use Rattle.model.specs.Eval.{solar_time_of}
use Rattle.model.specs.Answers.{lent}
use Rattle.model.specs.Asked.{Asked, declined, asked}

-- STARTS -------------------------------------------------------------------------------------------------------------------------------
-- three words: a mark that is 0, minute, remainder; without a sun 1, 0, 0
unfoldable pub start_words : Option SunTimes → SolarEvent → ℕ → List ℕ
start_words None event offset = 1 ∷ 0 ∷ 0 ∷ []
start_words (Some sun) event offset = 0 ∷ solar_words (solar_time_of sun event offset)

-- "of each AtSolar trigger": the others have none
unfoldable pub start_of : Option SunTimes → Trigger → Option (List ℕ)
start_of sun (TimerFires t) = None
start_of sun (Every ms) = None
start_of sun (AtTime h m days) = None
start_of sun (AtSolar event offset) = Some (start_words sun event offset)
start_of sun Other = None

-- "in their order"
unfoldable pub solar_starts : Option SunTimes → List Trigger → List (List ℕ)
solar_starts sun ts = filter_map (start_of sun) ts

-- the triggers of the rule of a name, enabled or not; an unknown rule, and any rule where no set is loaded, has none
abbrev pub triggers_at : List ℕ → Option ℕ → List Trigger
triggers_at img None = []
triggers_at img (Some i) = triggers_of img i

unfoldable pub triggers_named : Option RuleSet → ℕ → List Trigger
triggers_named None rule = []
triggers_named (Some set) rule = triggers_at set.image (rule_named set.image rule)

-- THE ANSWER ---------------------------------------------------------------------------------------------------------------------------
-- the value of the answer
abbrev pub count_values : ℕ → List ℕ
count_values n = n ∷ []

-- their number, and their words in `room` lent words; 30 where these do not hold them
unfoldable pub shown_starts : ℕ → List (List ℕ) → Asked
shown_starts room starts =
    cond (leb (length starts) (room / 3))
    (record { number = 0; values = count_values (length starts); lent = lent room (flatten starts) })
    (declined room 30)

-- on a store, in the world of the snapshot `snap`
unfoldable pub readback : ℕ → List ℕ → ℕ → Store → Asked
readback rule snap room s = shown_starts room (solar_starts (world_of snap).sun (triggers_named s.loaded rule))

-- on the words of a store
unfoldable pub readback_on : ℕ → List ℕ → ℕ → List ℕ → Asked
readback_on rule snap room w = asked w (snapshot_refusal snap) room (readback rule snap room)
