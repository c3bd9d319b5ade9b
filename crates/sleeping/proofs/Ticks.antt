-- A tick of a set without wall triggers: it reads no previous week minute, and writes the one of its snapshot.
use mathlib.Core.Path.{◌≡◌, refl, ap, ap₂, sym, ◌∙◌}
use Prim.Native.Nat.{ℕ}
use mathlib.Core.Bool.{Bool, true, false, cond, not, ◌&&◌, ◌||◌}
use mathlib.Core.List.{List, [], ◌∷◌, ◌++◌}
use Rattle.std.specs.Prelude.{Option, None, Some}
use borrow.Author.Tests.{not-true}
use Rattle.std.proofs.lemmas.Bool.{and_parts}
use Rattle.model.specs.Lists.{all, any}
use Rattle.model.specs.Rules.{triggers_of, rule_indices}
use Rattle.model.specs.declared.WallTime.{WallTime}
use Rattle.model.specs.declared.Pending.{Pending}
use Rattle.model.specs.State.{Env, Rest, Volatile, with_rest, is_enabled}
use Rattle.model.specs.Activate.{Handled, no_outcome, and_then, activate}
use Rattle.model.specs.declared.Mode.TheVariants.{Auto}
use Rattle.model.specs.Wheel.{due_now, not_due, resume_all, fire_continuations, activate_if_enabled, activate_each, due_timers, timers_due, every_due, week_minute, is_wall_trigger, has_wall_triggers, window_of, is_set_back, make_up, fire_window, fire_wall_at, fire_wall_schedules, fire_timers, fire_every, service_tick, by_timer, by_every, catch_up}
use Rattle.sleeping.specs.Sleeping.{no_wall_triggers, with_minute}
use Rattle.sleeping.proofs.Runs.{SameHandled, silent-same, then_same, activate-same, resume-same}

-- CONTINUATIONS, TIMERS AND EVERY -----------------------------------------------------------------------------------------------
module _ (m : Option ℕ) (e : Env) where
  resume-all-same : (cs : List Pending) (v : Volatile) → SameHandled m (resume_all e cs v) (resume_all e cs (with_minute m v))
  unfolding resume_all
  resume-all-same [] v = silent-same m v
  resume-all-same (c ∷ cs) v = then_same m (λ v'. resume_all e cs v') (resume-same m e c v) (λ v'. resume-all-same cs v')

  continuations-same : (v : Volatile) → SameHandled m (fire_continuations e v) (fire_continuations e (with_minute m v))
  unfolding fire_continuations not_due
  continuations-same v = resume-all-same (due_now e.world.now v.pending) (not_due e.world.now v)

  if-enabled-same : (kind i : ℕ) (v : Volatile) → SameHandled m (activate_if_enabled e kind i v) (activate_if_enabled e kind i (with_minute m v))
  unfolding activate_if_enabled is_enabled
  if-enabled-same kind i v = on (is_enabled v.rest i)
    where
      on : (b : Bool) → SameHandled m (cond b (activate e i kind Auto v) (no_outcome v)) (cond b (activate e i kind Auto (with_minute m v)) (no_outcome (with_minute m v)))
      on true = activate-same m e i kind Auto v
      on false = silent-same m v

  each_same : (kind : ℕ) (is : List ℕ) (v : Volatile) → SameHandled m (activate_each e kind is v) (activate_each e kind is (with_minute m v))
  unfolding activate_each
  each_same kind [] v = silent-same m v
  each_same kind (i ∷ is) v = then_same m (λ v'. activate_each e kind is v') (if-enabled-same kind i v) (λ v'. each_same kind is v')

  timers-same : (v : Volatile) → SameHandled m (fire_timers e v) (fire_timers e (with_minute m v))
  unfolding fire_timers timers_due due_timers
  timers-same v = each_same by_timer (timers_due e v.rest).rules (with_rest (timers_due e v.rest).rest v)

  every-same : (v : Volatile) → SameHandled m (fire_every e v) (fire_every e (with_minute m v))
  unfolding fire_every every_due
  every-same v = each_same by_every (every_due e v.rest).rules (with_rest (every_due e v.rest).rest v)

  -- all of a tick but the wall schedules
  abbrev timed : Volatile → Handled
  timed v = and_then (and_then (fire_continuations e v) (fire_timers e)) (fire_every e)

  timed-same : (v : Volatile) → SameHandled m (timed v) (timed (with_minute m v))
  timed-same v = then_same m (fire_every e) (then_same m (fire_timers e) (continuations-same v) timers-same) every-same

-- WALL SCHEDULES ----------------------------------------------------------------------------------------------------------------
none_of : {A : Type 0} (p q : A → Bool) (xs : List A) → all (λ x. not (q x)) xs ≡ true → any (λ x. p x && q x) xs ≡ false
none_of p q [] h = refl
none_of p q (x ∷ xs) h =
    let b = and_parts (not (q x)) (all (λ y. not (q y)) xs) h in
    rw (not-true (q x) b.0) (off (p x) (none_of p q xs b.1))
  where
    off : (b : Bool) → any (λ y. p y && q y) xs ≡ false → (b && false) || any (λ y. p y && q y) xs ≡ false
    off true z = z
    off false z = z

pub no-wall : (img : List ℕ) (s : Rest) → no_wall_triggers img ≡ true → has_wall_triggers img s ≡ false
unfolding no_wall_triggers has_wall_triggers
no-wall img s h = none_of (is_enabled s) (λ i. any is_wall_trigger (triggers_of img i)) (rule_indices img) h

-- the week minute that a tick writes
pub minute_of : Option WallTime → Option ℕ
minute_of None = None
minute_of (Some w) = Some (week_minute w)

module _ (e : Env) (free : no_wall_triggers e.set.image ≡ true) where
  window-quiet : (now window : ℕ) (v : Volatile) → fire_window e now window v ≡ no_outcome v
  unfolding fire_window
  window-quiet now window v = rw (no-wall e.set.image v.rest free)

  catch-up-quiet : (now : ℕ) (o : Option ℕ) (v : Volatile) → catch_up e now o v ≡ no_outcome v
  unfolding make_up
  catch-up-quiet now None v = refl
  catch-up-quiet now (Some prev) v = set_back (is_set_back prev now)
    where
      set_back : (b : Bool) → cond b (no_outcome v) (make_up e now prev v) ≡ no_outcome v
      set_back true = refl
      set_back false = window-quiet now (window_of prev now) v

  wall-at-quiet : (o : Option WallTime) (v : Volatile) → fire_wall_at o e v ≡ no_outcome (with_minute (minute_of o) v)
  unfolding minute_of
  wall-at-quiet None v = rw (no-wall e.set.image v.rest free)
  wall-at-quiet (Some w) v = catch-up-quiet (week_minute w) v.rest.prev_week_min (with_minute (Some (week_minute w)) v)

  pub wall-quiet : (v : Volatile) → fire_wall_schedules e v ≡ no_outcome (with_minute (minute_of e.world.wall) v)
  unfolding fire_wall_schedules
  wall-quiet v = wall-at-quiet e.world.wall v

  -- a tick ends alike, whatever the minute before
  pub tick-same : (m : Option ℕ) (v : Volatile) → SameHandled (minute_of e.world.wall) (service_tick e v) (service_tick e (with_minute m v))
  unfolding service_tick
  tick-same m v =
      let h = timed-same m e v in
      let q = wall-quiet (timed m e v).vol in
      let q' = wall-quiet (timed m e (with_minute m v)).vol in
      record {
        vol =
            ap (λ (x : Handled). x.vol) q'
            ∙ ap (with_minute (minute_of e.world.wall)) h.vol
            ∙ ap (λ (x : Handled). with_minute (minute_of e.world.wall) x.vol) (sym q);
        outcomes = ap₂ ◌++◌ h.outcomes (ap (λ (x : Handled). x.outcomes) q' ∙ ap (λ (x : Handled). x.outcomes) (sym q));
        trace = ap₂ ◌++◌ h.trace (ap (λ (x : Handled). x.trace) q' ∙ ap (λ (x : Handled). x.trace) (sym q));
      }
