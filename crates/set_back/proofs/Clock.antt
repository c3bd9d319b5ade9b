-- Request 5 of document 02. A tick whose clock was set back by 1 to 120 minutes is its continuations, timers and Every alone, and of what
-- the wall part holds only the remembered minute changes; every other tick is what it was before the request.
use mathlib.Core.Path.{◌≡◌, refl, ap, ◌∙◌}
use Prim.Native.Nat.{ℕ, ◌<◌}
use native.Mathlib.Omega.{arith}
use mathlib.Core.Bool.{true, false, ◌&&◌, false≢true}
use Rattle.std.specs.Prelude.{Option, None, Some}
use mathlib.Core.List.{List, [], append-nil}
use lib.Dec.{leb}
use Rattle.model.specs.Snapshot.{snapshot_refusal}
use Rattle.model.specs.World.{now_of, world_of}
use Rattle.model.specs.declared.WallTime.{WallTime}
use Rattle.model.specs.State.{Env, Volatile, RuleSet, Store}
use Rattle.model.specs.Activate.{Handled, and_then}
use Rattle.model.specs.Wheel.{cyclic_dist, in_window, is_set_back, fire_wall_at, fire_wall_schedules, service_tick}
use Rattle.model.specs.Calls.{tick, given, committed, tick_with, call}
use Rattle.set_back.specs.Ticks.{before_wall, set_back_at, set_back, remembering, former_wall_at, former_wall, back_by}
use Rattle.set_back.proofs.Remembered.{minute-kept}

module _ (e : Env) where
  -- the wall part, of each clock and each remembered minute
  at-set-back : (t : Option WallTime) (prev : Option ℕ) (v : Volatile) → v.rest.prev_week_min ≡ prev → set_back_at t prev ≡ true
      → fire_wall_at t e v ≡ record { vol = remembering t v; outcomes = []; trace = [] }
  at-set-back None prev v p h = absurd (false≢true h)
  at-set-back (Some w) None v p h = absurd (false≢true h)
  at-set-back (Some w) (Some prev) v p h = rw (p, h)

  at_others : (t : Option WallTime) (prev : Option ℕ) (v : Volatile) → v.rest.prev_week_min ≡ prev → set_back_at t prev ≡ false
      → fire_wall_at t e v ≡ former_wall_at t prev e v
  at_others None prev v p h = refl
  at_others (Some w) None v p h = rw p
  at_others (Some w) (Some prev) v p h = rw (p, h)

  -- THE TICK ---------------------------------------------------------------------------------------------------------------------
  pub set_back_lem : (v : Volatile) → set_back e v ≡ true → let x = before_wall e v in
      service_tick e v ≡ record { vol = remembering e.world.wall x.vol; outcomes = x.outcomes; trace = x.trace }
  unfolding service_tick before_wall fire_wall_schedules
  set_back_lem v h =
      let x = before_wall e v in
      let q = at-set-back e.world.wall v.rest.prev_week_min x.vol (minute-kept e v) h in
      ap (λ y. and_then x (λ v'. y)) q ∙ nothing-more x (remembering e.world.wall x.vol)
    where
      nothing-more : (x : Handled) (v' : Volatile) → and_then x (λ v''. record { vol = v'; outcomes = []; trace = [] }) ≡ record { vol = v'; outcomes = x.outcomes; trace = x.trace }
      nothing-more x v' = rw (append-nil x.outcomes, append-nil x.trace)

  pub not-set-back : (v : Volatile) → set_back e v ≡ false → service_tick e v ≡ and_then (before_wall e v) (former_wall e)
  unfolding service_tick before_wall fire_wall_schedules former_wall
  not-set-back v h =
      let x = before_wall e v in
      let k = minute-kept e v in
      ap (λ y. and_then x (λ v'. y)) (rw k (at_others e.world.wall v.rest.prev_week_min x.vol k h))

-- THE CALL: a tick with a set and an accepted snapshot ----------------------------------------------------------------------------------
module _ (snap : List ℕ) (os es : ℕ) (s : Store) (set : RuleSet) (accepted : snapshot_refusal snap ≡ 0) (loaded : s.loaded ≡ Some set) where
  abbrev env : Env
  env = record { world = world_of snap; set = set }

  serves : (x : Handled) → service_tick env s.vol ≡ x → call (tick snap os es) s ≡ committed os es (now_of snap) x s
  unfolding call tick_with
  serves x e =
      ap (λ (n : ℕ). given n s (λ s'. tick_with s'.loaded snap os es s')) accepted
      ∙ (ap (λ (o : Option RuleSet). tick_with o snap os es s) loaded ∙ ap (λ (y : Handled). committed os es (now_of snap) y s) e)

  pub tick-set-back : set_back env s.vol ≡ true → let x = before_wall env s.vol in
      call (tick snap os es) s
      ≡ committed os es (now_of snap) (record { vol = remembering env.world.wall x.vol; outcomes = x.outcomes; trace = x.trace }) s
  tick-set-back h = serves _ (set_back_lem env s.vol h)

  pub tick-not-set-back : set_back env s.vol ≡ false → call (tick snap os es) s ≡ committed os es (now_of snap) (and_then (before_wall env s.vol) (former_wall env)) s
  tick-not-set-back h = serves _ (not-set-back env s.vol h)

-- HOW FAR BEHIND ---------------------------------------------------------------------------------------------------------------------
-- a clock set back by k minutes, round the week, lies k behind: it was set back in this sense exactly where k is 1 to 120
pub distance : (prev k : ℕ) → prev < 10080 → k < 10080 → cyclic_dist (back_by k prev) prev ≡ k
unfolding cyclic_dist back_by
distance prev k p h = omega arith

pub by-minutes : (prev k : ℕ) → prev < 10080 → k < 10080 → is_set_back prev (back_by k prev) ≡ leb 1 k && leb k 120
unfolding is_set_back in_window
by-minutes prev k p h = rw (distance prev k p h)
