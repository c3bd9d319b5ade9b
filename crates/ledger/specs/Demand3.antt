-- Demand 3: one claim about a list of calls. It is proved as `demand3` of proofs/Demand3.antt.
use Rattle.std.specs.Prelude.{◌≡◌, ℕ, ◌+◌, ◌-◌, ◌*◌, ◌/◌, ◌^◌, ◌≤◌, Bool, true, false, ◌&&◌, List, [], ◌∷◌, ◌++◌, map, leb, ltb, eqb, length}
use Rattle.std.specs.Prelude.{Option, Some}
use Rattle.words.specs.Saturating.{max32}
use Rattle.model.specs.Lists.{all, flatten}
use Rattle.model.specs.declared.Step.{Step}
use Rattle.model.specs.declared.Point.{Point}
use Rattle.model.specs.declared.Effect.{Effect}
use Rattle.model.specs.Outcome.{Item, defers, paid}
use Rattle.model.specs.declared.Pending.{Pending}
use Rattle.model.specs.State.{Store, Rest, RuleSet}
use Rattle.model.specs.Store.{Keeps}
use Rattle.model.specs.Calls.{Call, new, load, unload, enable, tick, run, deadline, counters, call}
use Rattle.ledger.specs.Ledger.{Event, traced, Activation, Posting, Ledger, post, post_all, entry_of, is_new, start_ledger, notices, resumed_at_each, final_store, leaving_at_each, final_ledger}
use Rattle.ledger.specs.Effects.{effects_from, shown_over, ShowsNumbers}
use Rattle.ledger.specs.Sets.{set_after}
use Rattle.ledger.specs.FlatForm.{FlatForm}
use Rattle.ledger.specs.Resumptions.{all_events, ticks_in, expected, all_leaving, resumptions_of, continuation}
use Rattle.ledger.specs.Trace.{Conforms}

-- WHAT A CALL IS ------------------------------------------------------------------------------------------------------------
-- its numbers are those that the code's types hold: a time has 64 bits; a name and each word of an image or a snapshot 32
abbrev pub is_word : ℕ → Bool
is_word w = leb w max32

unfoldable pub in_words : Call → Bool
in_words (new t) = ltb t (2 ^ 64)
in_words (load t img) = ltb t (2 ^ 64) && all is_word img
in_words (unload t) = ltb t (2 ^ 64)
in_words (enable rule on) = is_word rule
in_words (tick snap os es) = all is_word snap
in_words (run rule dry snap os es) = is_word rule && all is_word snap
in_words deadline = true
in_words counters = true

-- WHAT A DRY RUN LEAVES -----------------------------------------------------------------------------------------------------
-- all of a store's rest but the counters
pub record SameRest (s s' : Rest) : Type 0 where
  pub enabled : s'.enabled ≡ s.enabled
  pub last_activation : s'.last_activation ≡ s.last_activation
  pub cycle_pos : s'.cycle_pos ≡ s.cycle_pos
  pub vars : s'.vars ≡ s.vars
  pub timers : s'.timers ≡ s.timers
  pub every : s'.every ≡ s.every
  pub prev_week_min : s'.prev_week_min ≡ s.prev_week_min

-- all that is neither a counter nor the last time
pub record SameButCounters (s s' : Store) : Type 0 where
  pub loaded : s'.loaded ≡ s.loaded
  pub rest : SameRest s.vol.rest s'.vol.rest
  pub pending : s'.vol.pending ≡ s.vol.pending
  pub next : s'.vol.next ≡ s.vol.next
  pub last_number : s'.vol.last_number ≡ s.vol.last_number

-- THE CLAIM -----------------------------------------------------------------------------------------------------------------
module _ (s : Store) (cs : List Call) where
  -- all that changes the ledger over these calls, in order; the ledger behind some of it; and the ledger at the end
  abbrev pub events : List Event
  events = all_events (notices s cs)

  abbrev pub ledger_after : List Event → Ledger
  ledger_after es = post_all es (start_ledger s)

  abbrev pub ledger_at_end : Ledger
  ledger_at_end = final_ledger (start_ledger s) (notices s cs)

  -- a wet wait or after is executed, with these events before and behind it
  abbrev pub Executes : List Event → Item → List Event → Type 0
  Executes before i behind = events ≡ before ++ (traced i ∷ behind)

abbrev pub standing_in : Ledger → List Posting
standing_in l = l.standing.postings

-- DEMAND 3, one claim about a list of calls from a store that keeps the store rules
pub record Demand3 (s : Store) (cs : List Call) : Type 0 where
  -- "at each tick the records resumed with the entries that leave", in order and in all six fields
  pub resumed : resumed_at_each s cs ≡ leaving_at_each (start_ledger s) (notices s cs)
  -- "after the list the pending records with the entries that stand"
  pub pending : map entry_of (final_store s cs).vol.pending ≡ map (λ (h : Posting). h.entry) (standing_in (ledger_at_end s cs))
  -- a wet activation with its continuations and theirs in turn gives at most B(B - 1)/2 + 1 effects ..
  pub bounded : (a : Activation) → effects_from a (ledger_at_end s cs).effects ≤ a.budget * (a.budget - 1) / 2 + 1
  -- .. and no more are shown with its outcomes and its resumptions'
  pub shown-bounded : (a : Activation) → shown_over a s (start_ledger s) cs ≤ a.budget * (a.budget - 1) / 2 + 1
  -- a wet wait or after that is executed is dropped exactly when 32 are pending ..
  pub drops : (before behind : List Event) (x : Step) (d : Bool) (ms : ℕ) (sp : Point) (g : Option Effect) → Executes s cs before (paid x (defers d ms sp) g) behind
      → d ≡ eqb (length (standing_in (ledger_after s cs before))) 32
  -- .. then nothing is added ..
  pub dropped : (before behind : List Event) (x : Step) (ms : ℕ) (sp : Point) (g : Option Effect) → Executes s cs before (paid x (defers true ms sp) g) behind
      → (post (traced (paid x (defers true ms sp) g)) (ledger_after s cs before)).standing ≡ (ledger_after s cs before).standing
  -- .. and else it is accepted: a new last entry ..
  pub accepted : (before behind : List Event) (x : Step) (ms : ℕ) (sp : Point) (g : Option Effect) → Executes s cs before (paid x (defers false ms sp) g) behind
      → standing_in (post (traced (paid x (defers false ms sp) g)) (ledger_after s cs before))
      ≡ standing_in (ledger_after s cs before)
      ++ (record { entry = continuation ms sp (ledger_after s cs before); age = (ledger_after s cs before).standing.next; number = (ledger_after s cs before).payer.number; origin = (ledger_after s cs before).payer.origin } ∷ [])
  -- .. that resumes exactly once, with its stored budget, in the first later tick whose time has reached its due time, unless its rule
  -- was disabled, its set replaced or unloaded, or the store made new in between, then never
  pub once : (before behind : List Event) (x : Step) (ms : ℕ) (sp : Point) (g : Option Effect) → Executes s cs before (paid x (defers false ms sp) g) behind
      → resumptions_of (ledger_after s cs before).standing.next 0 (events s cs) (start_ledger s)
      ≡ expected (continuation ms sp (ledger_after s cs before)) (ticks_in before 0) behind
  -- so does what was pending at the start
  pub once-from-start : (xs : List Pending) (c : Pending) (ys : List Pending) → s.vol.pending ≡ xs ++ (c ∷ ys)
      → resumptions_of c.seq 0 (events s cs) (start_ledger s) ≡ expected (entry_of c) 0 (events s cs)
  -- the entries that leave at the calls are all that leave at the events
  pub all-leaving : flatten (leaving_at_each (start_ledger s) (notices s cs)) ≡ all_leaving (events s cs) (start_ledger s)
  -- each call of the list: in a tick the resumptions, then activations, in a wet run one activation of the rule that it names or none, step by
  -- step and each with its outcome, over the set that the calls before it have loaded; without a set, and in every other call, nothing
  pub conforms : (xs ys : List Call) (c : Call) → cs ≡ xs ++ (c ∷ ys) → Conforms c (set_after s.loaded (notices s xs)) (call c (final_store s xs))
  -- whose lists are the flat forms of its rules' actions, waits and all
  pub flat : (xs ys : List Call) (set : RuleSet) → cs ≡ xs ++ ys → set_after s.loaded (notices s xs) ≡ Some set → FlatForm set
  -- each dry run of the list changes only counters and the last time
  pub dry : (xs ys : List Call) (r : ℕ) (snap : List ℕ) (os es : ℕ) → cs ≡ xs ++ (run r true snap os es ∷ ys)
      → SameButCounters (final_store s xs) (call (run r true snap os es) (final_store s xs)).store
  -- each call but a new gives out a sequence number for each entry that is accepted in it, struck again in the same call or not
  pub numbered : (xs ys : List Call) (c : Call) → cs ≡ xs ++ (c ∷ ys) → is_new c ≡ false
      → (call c (final_store s xs)).store.vol.next + (ledger_at_end s xs).standing.next ≡ (final_store s xs).vol.next + (ledger_at_end s (xs ++ (c ∷ []))).standing.next
  -- the outcomes of each call show the numbers of the ledger, which started with those of the store: an activation the next one, a resumption
  -- that of its entry, a dry run and what does not start none
  pub numbers : (xs ys : List Call) (c : Call) → cs ≡ xs ++ (c ∷ ys) → ShowsNumbers c (ledger_at_end s xs) (call c (final_store s xs))
  -- the set at the end is the one that was loaded last
  pub loaded : (final_store s cs).loaded ≡ set_after s.loaded (notices s cs)
  -- the store rules hold at the end
  pub keeps : Keeps (final_store s cs)
