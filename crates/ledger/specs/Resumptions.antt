-- The resumptions that an accepted continuation must have, read off the list of calls: one, at the first tick behind its acceptance whose
-- time has reached its due time, unless something before that strikes it; then none.
use Rattle.std.specs.Prelude.{ℕ, suc, pred, cond, List, [], ◌∷◌, ◌++◌, map, leb, eqb}
use Rattle.model.specs.Lists.{keep}
use Rattle.words.specs.Saturating.{saturating_add, max64}
use Rattle.model.specs.declared.Point.{Point}
use Rattle.model.specs.Outcome.{plain, disables, defers, started, resumed, aborted, paid}
use Rattle.ledger.specs.Ledger.{Event, made, cleared, disabled, ticked, ran, traced, Entry, Posting, Ledger, Notice, events_of, leaving, post}

-- all that changes the ledger, in one list
abbrev pub all_events : List Notice → List Event
all_events [] = []
all_events (t ∷ ts) = events_of t.refused t.call t.trace ++ all_events ts

pub data Change : Type 0 where
  leaves struck_out stays : Change

-- what an event does to an entry of this rule and due time
unfoldable pub change_at : Entry → Event → Change
change_at e made = struck_out
change_at e (cleared b) = struck_out
change_at e (disabled q) = cond (eqb e.rule q) struck_out stays
change_at e (ticked t) = cond (leb e.due t) leaves stays
change_at e (ran t) = stays
change_at e (traced (started r)) = stays
change_at e (traced (resumed c)) = stays
change_at e (traced (aborted r)) = stays
change_at e (traced (paid x plain g)) = stays
change_at e (traced (paid x (disables q) g)) = cond (eqb e.rule q) struck_out stays
change_at e (traced (paid x (defers d ms sp) g)) = stays

-- a resumption: the number of its tick, and the continuation with its stored budget
pub record Resumption : Type 0 where
  pub tick : ℕ
  pub entry : Entry

abbrev pub tick_number : Event → ℕ → ℕ
tick_number made i = i
tick_number (cleared b) i = i
tick_number (disabled q) i = i
tick_number (ticked t) i = suc i
tick_number (ran t) i = i
tick_number (traced (started r)) i = i
tick_number (traced (resumed c)) i = i
tick_number (traced (aborted r)) i = i
tick_number (traced (paid x s g)) i = i

-- the number of the next tick behind these events
abbrev pub ticks_in : List Event → ℕ → ℕ
ticks_in [] i = i
ticks_in (m ∷ ms) i = ticks_in ms (tick_number m i)

abbrev pub resumptions_by : Change → Resumption → List Resumption → List Resumption
resumptions_by leaves a more = a ∷ []
resumptions_by struck_out a more = []
resumptions_by stays a more = more

-- all resumptions of an entry, from the events behind its acceptance; i is the number of the next tick. There is one at the most.
abbrev pub expected : Entry → ℕ → List Event → List Resumption
expected e i [] = []
expected e i (m ∷ ms) = resumptions_by (change_at e m) (record { tick = i; entry = e }) (expected e (tick_number m i) ms)

-- the entries that leave at an event
unfoldable pub leaving_on : Event → Ledger → List Posting
leaving_on made l = []
leaving_on (cleared b) l = []
leaving_on (disabled q) l = []
leaving_on (ticked t) l = leaving t l.standing.postings
leaving_on (ran t) l = []
leaving_on (traced (started r)) l = []
leaving_on (traced (resumed c)) l = []
leaving_on (traced (aborted r)) l = []
leaving_on (traced (paid x s g)) l = []

-- all that leaves, whatever its age
abbrev pub all_leaving : List Event → Ledger → List Entry
all_leaving [] l = []
all_leaving (m ∷ ms) l = map (λ (h : Posting). h.entry) (leaving_on m l) ++ all_leaving ms (post m l)

abbrev pub of_age : ℕ → List Posting → List Posting
of_age n hs = keep (λ (h : Posting). eqb h.age n) hs

-- all resumptions in the ledger of the entry of age n
abbrev pub resumptions_of : ℕ → ℕ → List Event → Ledger → List Resumption
resumptions_of n i [] l = []
resumptions_of n i (m ∷ ms) l = map (λ (h : Posting). record { tick = i; entry = h.entry }) (of_age n (leaving_on m l)) ++ resumptions_of n (tick_number m i) ms (post m l)

-- the continuation of a wait or after that is paid next, as an entry
unfoldable pub continuation : ℕ → Point → Ledger → Entry
continuation ms sp l = record { rule = l.payer.rule; point = sp; due = saturating_add max64 l.now ms; budget = pred l.payer.left }
