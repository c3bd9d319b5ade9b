-- Each call answers alike on stores that agree but for the last time and the previous week minute, and leaves stores that agree so.
use mathlib.Core.Path.{◌≡◌, refl, ap, ap₂, sym, subst, ◌∙◌}
use Prim.Native.Nat.{ℕ, zero, suc, ◌≤◌, zero-le}
use mathlib.Core.Bool.{Bool, true, false, cond, ◌&&◌}
use mathlib.Core.List.{List, [], ◌∷◌, ◌++◌, map}
use Rattle.std.specs.Prelude.{Option, None, Some}
use lib.Dec.{leb, ltb}
use lib.ListN.{length, set}
use borrow.Author.Tests.{le-leb}
use Rattle.std.proofs.lemmas.Bool.{and_parts}
use Rattle.words.specs.Saturating.{max64}
use Rattle.model.specs.Lists.{all}
use Rattle.model.specs.Field.{unless}
use Rattle.model.specs.Load.{image_refusal_with}
use Rattle.model.specs.Flat.{Flattened, flatten_rules}
use Rattle.model.specs.Rules.{rule_named}
use Rattle.model.specs.Snapshot.{snapshot_refusal}
use Rattle.model.specs.World.{now_of, world_of}
use Rattle.model.specs.declared.Pending.{Pending}
use Rattle.model.specs.declared.NamedTimer.{NamedTimer}
use Rattle.model.specs.declared.EverySlot.{EverySlot}
use Rattle.model.specs.State.{Env, Volatile, Store, RuleSet, with_rest, with_enabled, bump_by, bump, is_enabled, suppressed_disabled}
use Rattle.model.specs.Activate.{Handled, no_outcome, activate}
use Rattle.model.specs.declared.Mode.TheVariants.{Manual, Dry}
use Rattle.model.specs.Wheel.{next_deadline, wall_poll, least}
use Rattle.model.specs.Calls.{Call, new, load, unload, enable, tick, run, deadline, counters, Answer, refused, enabled, handled, due, Done, fresh, rest_with, rest_without, loading, call_load, call_unload, flipped, enabling, rule_in, call_enable, overflow, committing, committed, tick_with, run_rule, run_with, given, counters_of, call, effects_of, outcome_room, effect_room, answered}
use Rattle.sleeping.specs.Sleeping.{set_without_wall, due_times, before_all, with_minute, with_times, AgreeButTimes}
use Rattle.sleeping.proofs.Runs.{SameHandled, silent-same, activate-same, strike-same}
use Rattle.sleeping.proofs.Ticks.{minute_of, no-wall, tick-same}
use Rattle.sleeping.proofs.Quiet.{Later, tick-quiet}

pub agree : (s s' : Store) (t : ℕ) (m : Option ℕ) → s' ≡ with_times t m s → AgreeButTimes s s'
agree s s' t m p =
    record { same = p ∙ ap₂ (λ t' m'. with_times t' m' s) (sym (ap (λ (x : Store). x.now) p)) (sym (ap (λ (x : Store). x.vol.rest.prev_week_min) p)) }

-- all that a call gives
pub record SameDone (d d' : Done) : Type 0 where
  pub answer : d'.answer ≡ d.answer
  pub store : AgreeButTimes d.store d'.store
  pub trace : d'.trace ≡ d.trace

-- without wall triggers the next deadline is no matter of the last time
pub poll-none : (o : Option RuleSet) (s : Store) → set_without_wall o ≡ true → wall_poll s o ≡ []
poll-none None s h = refl
poll-none (Some set) s h = rw (no-wall set.image s.vol.rest h)

module _ (t : ℕ) (m : Option ℕ) where
  -- an answer that leaves the store as it is
  answered-same : (a : Answer) (s : Store) → SameDone (answered a s) (answered a (with_times t m s))
  answered-same a s = record { answer = refl; store = agree _ _ t m refl; trace = refl }

  -- LOAD, UNLOAD AND ENABLE -------------------------------------------------------------------------------------------------------
  load_same : (n u : ℕ) (img : List ℕ) (fs : List Flattened) (s : Store) → SameDone (loading n u img fs s) (loading n u img fs (with_times t m s))
  unfolding rest_with bump_by
  load_same zero u img fs s = record { answer = refl; store = agree _ _ u m refl; trace = refl }
  load_same (suc n) u img fs s = answered-same (refused (suc n)) s

  unload-same : (u : ℕ) (s : Store) → SameDone (call_unload u s) (call_unload u (with_times t m s))
  unfolding call_unload rest_without bump_by
  unload-same u s = record { answer = refl; store = agree _ _ u m refl; trace = refl }

  flipped-same : (rule i : ℕ) (on : Bool) (v : Volatile) → flipped rule i on (with_minute m v) ≡ with_minute m (flipped rule i on v)
  flipped-same rule i true v = refl
  flipped-same rule i false v = strike-same m rule (with_rest (with_enabled (set v.rest.enabled i false) v.rest) v)

  enable-same : (x : Option ℕ) (rule : ℕ) (on : Bool) (s : Store) → SameDone (enabling x rule on s) (enabling x rule on (with_times t m s))
  enable-same None rule on s = answered-same (enabled false) s
  enable-same (Some i) rule on s =
      record { answer = refl; store = agree _ _ t m (ap (λ v. record { now = t; loaded = s.loaded; vol = v }) (flipped-same rule i on s.vol)); trace = refl }

  -- TICK AND RUN --------------------------------------------------------------------------------------------------------------------
  committing-same : (n now : ℕ) (k : Option ℕ) (x x' : Handled) (s : Store) → SameHandled k x x'
      → SameDone (committing n now x s) (committing n now x' (with_times t m s))
  committing-same zero now k x x' s h =
      record {
        answer = ap handled h.outcomes;
        store = agree _ _ now k (ap (λ v. record { now = now; loaded = s.loaded; vol = v }) h.vol);
        trace = h.trace;
      }
  committing-same (suc n) now k x x' s h = answered-same (refused (suc n)) s

  overflow-same : (os es : ℕ) (k : Option ℕ) (x x' : Handled) → SameHandled k x x' → overflow os es x' ≡ overflow os es x
  unfolding overflow
  overflow-same os es k x x' h =
      ap₂ (λ ys (v : Volatile). unless (leb (length ys) (outcome_room os) && leb (effects_of ys) (effect_room es)) 30 (unless (leb v.next max64) 31 (unless (leb v.last_number max64) 32 0))) h.outcomes h.vol

  committed-same : (os es now : ℕ) (k : Option ℕ) (x x' : Handled) (s : Store) → SameHandled k x x'
      → SameDone (committed os es now x s) (committed os es now x' (with_times t m s))
  unfolding committed
  committed-same os es now k x x' s h = rw (overflow-same os es k x x' h) (committing-same (overflow os es x) now k x x' s h)

  tick-with-same : (o : Option RuleSet) (snap : List ℕ) (os es : ℕ) (s : Store) → set_without_wall o ≡ true → SameDone (tick_with o snap os es s) (tick_with o snap os es (with_times t m s))
  unfolding tick_with
  tick-with-same None snap os es s h = committed-same os es (now_of snap) m _ _ s (silent-same m s.vol)
  tick-with-same (Some set) snap os es s h = committed-same os es (now_of snap) _ _ _ s (tick-same (record { world = world_of snap; set = set }) h m s.vol)

  rule-same : (e : Env) (o : Option ℕ) (dry : Bool) (v : Volatile) → SameHandled m (run_rule e o dry v) (run_rule e o dry (with_minute m v))
  unfolding is_enabled bump_by
  rule-same e None dry v = silent-same m v
  rule-same e (Some i) true v = activate-same m e i 0 Dry v
  rule-same e (Some i) false v = on (is_enabled v.rest i)
    where
      on : (b : Bool)
          → SameHandled m (cond b (activate e i 0 Manual v) (no_outcome (with_rest (bump suppressed_disabled v.rest) v)))
          (cond b (activate e i 0 Manual (with_minute m v)) (no_outcome (with_minute m (with_rest (bump suppressed_disabled v.rest) v))))
      on true = activate-same m e i 0 Manual v
      on false = silent-same m _

  run-with-same : (o : Option RuleSet) (rule : ℕ) (dry : Bool) (snap : List ℕ) (os es : ℕ) (s : Store) → SameDone (run_with o rule dry snap os es s) (run_with o rule dry snap os es (with_times t m s))
  unfolding run_with
  run-with-same None rule dry snap os es s = committed-same os es (now_of snap) m _ _ s (silent-same m s.vol)
  run-with-same (Some set) rule dry snap os es s =
      committed-same os es (now_of snap) m _ _ s (rule-same (record { world = world_of snap; set = set }) (rule_named set.image rule) dry s.vol)

  given-same : (n : ℕ) (s : Store) (K : Store → Done) → SameDone (K s) (K (with_times t m s)) → SameDone (given n s K) (given n (with_times t m s) K)
  given-same zero s K h = h
  given-same (suc n) s K h = answered-same (refused (suc n)) s

  -- THE NEXT DEADLINE -----------------------------------------------------------------------------------------------------------------
  deadline-same : (s : Store) → set_without_wall s.loaded ≡ true → next_deadline (with_times t m s) ≡ next_deadline s
  unfolding next_deadline
  deadline-same s h =
      ap (λ ds. least (map (λ (c : Pending). c.due) s.vol.pending ++ map (λ (x : NamedTimer). x.due) s.vol.rest.timers ++ map (λ (x : EverySlot). x.due) s.vol.rest.every ++ ds))
      (poll-none s.loaded (with_times t m s) h ∙ sym (poll-none s.loaded s h))

  -- EVERY CALL --------------------------------------------------------------------------------------------------------------------------
  times-same : (c : Call) (s : Store) → set_without_wall s.loaded ≡ true → SameDone (call c s) (call c (with_times t m s))
  unfolding call call_load call_enable counters_of fresh
  times-same (new u) s h = record { answer = refl; store = agree _ _ u None refl; trace = refl }
  times-same (load u img) s h = load_same (image_refusal_with img (flatten_rules img)) u img (flatten_rules img) s
  times-same (unload u) s h = unload-same u s
  times-same (enable rule on) s h = enable-same (rule_in s.loaded rule) rule on s
  times-same (tick snap os es) s h = given-same (snapshot_refusal snap) s (λ s'. tick_with s'.loaded snap os es s') (tick-with-same s.loaded snap os es s h)
  times-same (run rule dry snap os es) s h = given-same (snapshot_refusal snap) s (λ s'. run_with s'.loaded rule dry snap os es s') (run-with-same s.loaded rule dry snap os es s)
  times-same deadline s h = record { answer = ap due (deadline-same s h); store = agree _ _ t m refl; trace = refl }
  times-same counters s h = answered-same _ s

pub call_same : (c : Call) (s s' : Store) → set_without_wall s.loaded ≡ true → AgreeButTimes s s' → SameDone (call c s) (call c s')
call_same c s s' h a =
    subst (λ x. SameDone (call c s) (call c x)) (sym a.same) (times-same s'.now s'.vol.rest.prev_week_min c s h)

-- AN ADDED TICK -----------------------------------------------------------------------------------------------------------------------
all-front : {A : Type 0} (p : A → Bool) (xs ys : List A) → all p (xs ++ ys) ≡ true → (all p xs ≡ true) × (all p ys ≡ true)
all-front p [] ys h = (refl, h)
all-front p (x ∷ xs) ys h =
    let b = and_parts (p x) (all p (xs ++ ys)) h in
    let r = all-front p xs ys b.1 in
    (rw (b.0, r.0), r.1)

later : (t : ℕ) (s : Store) → before_all t s ≡ true → Later t s.vol
unfolding before_all due_times
later t s h =
    let a = all-front (λ d. ltb t d) (map (λ (c : Pending). c.due) s.vol.pending ++ map (λ (x : NamedTimer). x.due) s.vol.rest.timers) (map (λ (x : EverySlot). x.due) s.vol.rest.every) h in
    let b = all-front (λ d. ltb t d) (map (λ (c : Pending). c.due) s.vol.pending) (map (λ (x : NamedTimer). x.due) s.vol.rest.timers) a.0 in
    record { pending = b.0; timers = b.1; every = a.1 }

-- what such a tick gives: no outcomes, no trace
pub record QuietTick (s : Store) (d : Done) : Type 0 where
  pub answer : d.answer ≡ handled []
  pub store : AgreeButTimes s d.store
  pub trace : d.trace ≡ []

-- its numbers are of 64 bits
abbrev pub NumbersFit : Volatile → Type 0
NumbersFit v = (v.next ≤ max64) × (v.last_number ≤ max64)

commit-quiet : (m n now : ℕ) (k : Option ℕ) (s : Store) → NumbersFit s.vol → QuietTick s (committed m n now (no_outcome (with_minute k s.vol)) s)
unfolding committed overflow
commit-quiet m n now k s le =
    rw (le-leb 0 (outcome_room m) zero-le, le-leb 0 (effect_room n) zero-le, le-leb s.vol.next max64 le.0, le-leb s.vol.last_number max64 le.1) (record { answer = refl; store = agree _ _ now k refl; trace = refl })

pub quiet : (snap : List ℕ) (m n : ℕ) (o : Option RuleSet) (s : Store) → set_without_wall o ≡ true → before_all (now_of snap) s ≡ true → NumbersFit s.vol → QuietTick s (tick_with o snap m n s)
unfolding tick_with world_of
quiet snap m n None s free h le = commit-quiet m n (now_of snap) s.vol.rest.prev_week_min s le
quiet snap m n (Some set) s free h le =
    let e : Env = record { world = world_of snap; set = set } in
    let l : Later (now_of snap) s.vol = later (now_of snap) s h in
    rw (tick-quiet e s.vol l free) (commit-quiet m n (now_of snap) (minute_of e.world.wall) s le)

pub added-quiet : (snap : List ℕ) (m n : ℕ) (s : Store) → snapshot_refusal snap ≡ 0 → before_all (now_of snap) s ≡ true → set_without_wall s.loaded ≡ true → NumbersFit s.vol
    → QuietTick s (call (tick snap m n) s)
unfolding call
added-quiet snap m n s fine h free le = rw fine (quiet snap m n s.loaded s free h le)
