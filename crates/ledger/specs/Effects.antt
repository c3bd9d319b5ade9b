-- How many effects a wet activation gave, with its continuations and theirs in turn: by the ledger's count, and by the outcomes.
use Rattle.std.specs.Prelude.{◌≡◌, ℕ, ◌+◌, Bool, true, false, ◌&&◌, List, [], ◌∷◌, ◌++◌, map, eqb, length}
use Rattle.std.specs.Prelude.{Option, None, Some}
use Rattle.model.specs.Lists.{all}
use Rattle.model.specs.Outcome.{Outcome, Item, started, resumed, aborted, paid}
use Rattle.model.specs.State.{Store}
use Rattle.model.specs.Calls.{Call, new, load, unload, enable, tick, run, deadline, counters, Done, call}
use Rattle.model.specs.Answers.{outcomes_in}
use Rattle.ledger.specs.Ledger.{Event, made, cleared, disabled, ticked, ran, traced, Activation, Ledger, post_item, post, post_call, notice_of, events_of, is_refused}

unfoldable pub same_activation : Activation → Activation → Bool
same_activation a b = eqb a.number b.number && eqb a.budget b.budget

abbrev pub from : Activation → Option Activation → Bool
from a None = false
from a (Some b) = same_activation a b

-- n where the test holds, else nothing
abbrev pub only_if : Bool → ℕ → ℕ
only_if true n = n
only_if false n = 0

-- how many of the effects come from activation a
abbrev pub effects_from : Activation → List Activation → ℕ
effects_from a [] = 0
effects_from a (b ∷ bs) = only_if (same_activation a b) 1 + effects_from a bs

-- BY THE OUTCOMES ---------------------------------------------------------------------------------------------------------------
-- each event that begins what one outcome tells of, and whose it is, from the ledger behind it: an activation's own, a resumption's that of
-- its entry
abbrev pub begun : Event → Ledger → List (Option Activation)
begun made l = []
begun (cleared b) l = []
begun (disabled q) l = []
begun (ticked t) l = []
begun (ran t) l = []
begun (traced (started r)) l = l.payer.origin ∷ []
begun (traced (resumed c)) l = l.payer.origin ∷ []
begun (traced (aborted r)) l = None ∷ []
begun (traced (paid x s g)) l = []

-- whose the outcomes are, in order
abbrev pub origins : List Event → Ledger → List (Option Activation)
origins [] l = []
origins (m ∷ ms) l = begun m (post m l) ++ origins ms (post m l)

-- how many effects are shown with the outcomes of activation a
abbrev pub shown_with : Activation → List (Option Activation) → List Outcome → ℕ
shown_with a [] os = 0
shown_with a (w ∷ ws) [] = 0
shown_with a (w ∷ ws) (o ∷ os) = only_if (from a w) (length o.effects) + shown_with a ws os

unfoldable pub shown_at : Activation → Call → Store → Ledger → ℕ
shown_at a c s l = let d = call c s in shown_with a (origins (events_of (is_refused d.answer) c d.trace) l) (outcomes_in d.answer)

unfoldable pub shown_over : Activation → Store → Ledger → List Call → ℕ
shown_over a s l [] = 0
shown_over a s l (c ∷ cs) = shown_at a c s l + shown_over a (call c s).store (post_call (notice_of c (call c s)) l) cs

-- THE NUMBERS ---------------------------------------------------------------------------------------------------------------------
-- the number that the outcome shows which an item begins, from the ledger behind it: an activation's own, a resumption's that of its entry,
-- 0 where nothing runs
abbrev pub number_begun : Item → Ledger → List ℕ
number_begun (started r) l = l.payer.number ∷ []
number_begun (resumed c) l = l.payer.number ∷ []
number_begun (aborted r) l = 0 ∷ []
number_begun (paid x s g) l = []

abbrev pub numbers_in : List Item → Ledger → List ℕ
numbers_in [] l = []
numbers_in (i ∷ is) l = number_begun i (post_item i l) ++ numbers_in is (post_item i l)

abbrev pub number_on : Event → Ledger → List ℕ
number_on made l = []
number_on (cleared b) l = []
number_on (disabled q) l = []
number_on (ticked t) l = []
number_on (ran t) l = []
number_on (traced i) l = number_begun i l

-- the numbers of the outcomes, in order
abbrev pub numbers_of : List Event → Ledger → List ℕ
numbers_of [] l = []
numbers_of (m ∷ ms) l = number_on m (post m l) ++ numbers_of ms (post m l)

abbrev pub number_of : Outcome → ℕ
number_of o = o.number

abbrev pub is_zero : ℕ → Bool
is_zero n = eqb n 0

-- the numbers that a call's outcomes show are those that the ledger has for what they tell of
abbrev pub AsPosted : Call → Ledger → Done → Type 0
AsPosted c l d = map number_of (outcomes_in d.answer) ≡ numbers_of (events_of (is_refused d.answer) c d.trace) l

-- a dry run's outcome has no number
abbrev pub ShowsNumbers : Call → Ledger → Done → Type 0
ShowsNumbers (new t) l d = AsPosted (new t) l d
ShowsNumbers (load t img) l d = AsPosted (load t img) l d
ShowsNumbers (unload t) l d = AsPosted (unload t) l d
ShowsNumbers (enable r on) l d = AsPosted (enable r on) l d
ShowsNumbers (tick snap os es) l d = AsPosted (tick snap os es) l d
ShowsNumbers (run r false snap os es) l d = AsPosted (run r false snap os es) l d
ShowsNumbers (run r true snap os es) l d = all is_zero (map number_of (outcomes_in d.answer)) ≡ true
ShowsNumbers deadline l d = AsPosted deadline l d
ShowsNumbers counters l d = AsPosted counters l d
