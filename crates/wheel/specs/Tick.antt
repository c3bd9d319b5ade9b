-- What a part of a tick does.
use Rattle.std.specs.Prelude.{ℕ, ◌≡◌, Bool, true, cond, ◌||◌, List, map, ltb}
use Rattle.std.specs.Prelude.{None, Some}
use Rattle.model.specs.Activate as model
use Rattle.model.specs.Flat.{flatten_rules, set_of}
use Rattle.model.specs.Lists.{all, any, flatten, to_list}
use Rattle.model.specs.Load.{image_refusal}
use Rattle.model.specs.Rules.{name_order, triggers_of, rule_named}
use Rattle.model.specs.State as model-state
use Rattle.model.specs.State.{Env, is_enabled, bump, ticks_time_unsynced, with_prev_week_min}
use Rattle.model.specs.Store.{pending_fits}
use Rattle.model.specs.Wheel.{fires_on, rules_on_timer, start_wall, due_wall_kind, has_wall_triggers}
use Rattle.model.specs.declared.EverySlot.{EverySlot}
use Rattle.model.specs.declared.NamedTimer.{NamedTimer}
use Rattle.model.specs.declared.Pending.{Pending}
use Rattle.state.specs.Meaning.{AllNumbered, meaning}
use Rattle.store.specs.FlatPart.{Kept}
use Rattle.store.specs.Volatile.{changing_in, record_in}
use Rattle.activate.specs.Handled.{Continues, Within}
use Rattle.activate.specs.Carried.{Carried}

-- the image passes load, and the store's flat part is its flat form
pub record Holds (store image : List ℕ) : Type 0 where
  pub accepted : image_refusal image ≡ 0
  pub kept : Kept store image (set_of image (flatten_rules image))

-- a continuation is one of the set's rules
abbrev pub fits_set : List ℕ → Pending → Bool
fits_set image c = pending_fits (Some (set_of image (flatten_rules image))) c

-- the records at some indices, as the store has them; each index is that of a place in its table
abbrev pub records_in : List ℕ → List ℕ → List Pending
records_in store is = map (record_in store) is

abbrev pub are_indices : List ℕ → Bool
are_indices is = all (λ i. ltb i 32) is

-- the store has the pending records of the state
abbrev pub HasRecords : List ℕ → List ℕ → Type 0
HasRecords store v = (changing_in store).pending ≡ (meaning v).pending

-- the rules by name
abbrev pub Ordered : List ℕ → List ℕ → Type 0
Ordered image order = order ≡ name_order image

-- a part of a tick came from x to r as the specification says, by n activations or resumptions at most
pub record Fires (n : ℕ) (h : model-state.Volatile → model.Handled) (x : Carried) (ow ew : List ℕ) (r : Carried) (ow' ew' : List ℕ) : Type 0 where
  pub says : Continues x ow ew (h (meaning x.vol)) r ow' ew'
  pub within : Within n x r

-- where a tick or a run begins: nothing is done yet
abbrev pub start : List ℕ → Carried
start v = record { vol = v; outcomes = 0; effects = 0 }

-- what a tick asks for beside an accepted snapshot: a loaded image with its flat steps, and a state as the store is read
pub record Ready (image store : List ℕ) (v : List ℕ) : Type 0 where
  pub holds : Holds store image
  pub state : AllNumbered v (meaning v)
  pub pending : all (fits_set image) (meaning v).pending ≡ true
  pub records : HasRecords store v

-- a timer is a trigger of rule i
unfoldable pub on_timer : List ℕ → ℕ → ℕ → Bool
on_timer img timer i = any (fires_on timer) (triggers_of img i)

-- the rules that a timer starts, and those of some timers; the same of Every slots
abbrev pub rules_of_timer : List ℕ → NamedTimer → List ℕ
rules_of_timer img t = rules_on_timer img t.name

abbrev pub rules_of_timers : List ℕ → List NamedTimer → List ℕ
rules_of_timers img ts = flatten (map (rules_of_timer img) ts)

abbrev pub rules_of_slot : List ℕ → EverySlot → List ℕ
rules_of_slot img x = to_list (rule_named img x.rule)

abbrev pub rules_of_slots : List ℕ → List EverySlot → List ℕ
rules_of_slots img xs = flatten (map (rules_of_slot img) xs)

-- a rule's turn in a wall window: what it starts, and whether a sun was missed so far
module _ (e : Env) (base window i : ℕ) where
  unfoldable pub turn_handled : model-state.Volatile → model.Handled
  turn_handled v = cond (is_enabled v.rest i) (start_wall (due_wall_kind e base window (triggers_of e.set.image i)).kind e i v) (model.no_outcome v)

  unfoldable pub turn_missed : Bool → model-state.Volatile → Bool
  turn_missed missed v = cond (is_enabled v.rest i) (missed || (due_wall_kind e base window (triggers_of e.set.image i)).unsynced) missed

-- a missing sun counts once
unfoldable pub count_missed : Bool → model-state.Volatile → model-state.Volatile
count_missed missed v = model-state.with_rest (cond missed (bump ticks_time_unsynced v.rest) v.rest) v

-- the minute of a tick
abbrev pub remembering : ℕ → model-state.Volatile → model-state.Volatile
remembering minute v = model-state.with_rest (with_prev_week_min (Some minute) v.rest) v

-- without a wall clock the minute before is forgotten
unfoldable pub without_wall : List ℕ → model-state.Volatile → model-state.Volatile
without_wall img v = model-state.with_rest (with_prev_week_min None (cond (has_wall_triggers img v.rest) (bump ticks_time_unsynced v.rest) v.rest)) v
