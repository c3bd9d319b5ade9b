-- The parts of a tick: the state changes first, and then what was due is started. Assumes nothing.
use Prim.Native.Nat.{ℕ}
use mathlib.Core.Path.{◌≡◌, refl}
use mathlib.Core.Bool.{Bool, true}
use mathlib.Core.List.{List, map}
use Rattle.model.specs.Flat.{set_of}
use Rattle.model.specs.Lists.{all, keep}
use Rattle.model.specs.State as model-state
use Rattle.model.specs.State.{with_rest, with_timers, with_every}
use Rattle.model.specs.Wheel.{by_timer, by_every, activate_each, resume_all, due_now, not_due, due_timers, timers_due, moved, every_due, fire_continuations, fire_timers, fire_every}
use Rattle.model.specs.World.{world_of}
use Rattle.model.specs.declared.EverySlot.{EverySlot}
use Rattle.model.specs.declared.NamedTimer.{NamedTimer}
use Rattle.model.specs.declared.Pending.{Pending}
use Rattle.state.specs.Meaning.{Means, meaning, base}
use Rattle.state.specs.Named.{timer_later, slot_due}
use Rattle.activate.specs.Handled.{Room}
use Rattle.activate.specs.Carried.{Carried}
use Rattle.activate.proofs.Continues.{with_vol}
use Rattle.eval.specs.Answers.{env_in}
use Rattle.wheel.specs.Tick.{Fires, rules_of_timers, rules_of_slots}
use Rattle.wheel.proofs.Due.{all-due}
use Rattle.wheel.proofs.Fires.{same-part, after-change, room_after}

module _ (snapshot image : List ℕ) (now : ℕ) (is : now ≡ (world_of snapshot).now) (x : Carried) (vol : List ℕ) where
  -- ---- continuations
  module _ (m : Means vol (base x.vol) (not_due now (meaning x.vol))) where
    pub continuations-room : (n : ℕ) → Room n x → Room n (with_vol vol x)
    unfolding not_due
    continuations-room n a = room_after (not_due now) x m refl refl n a

    pub continuations-fire : (cs : List Pending) {r : Carried} {ow ew ow' ew' : List ℕ} → cs ≡ due_now now (meaning x.vol).pending
        → Fires 32 (resume_all (env_in snapshot image) cs) (with_vol vol x) ow ew r ow' ew' → Fires 32 (fire_continuations (env_in snapshot image)) x ow ew r ow' ew'
    unfolding fire_continuations env_in not_due
    continuations-fire cs e f =
        same-part 32 (λ v. resume_all (env_in snapshot image) cs (not_due now v)) (fire_continuations (env_in snapshot image)) (rw (← is, e))
        (after-change (not_due now) x m refl refl 32 (resume_all (env_in snapshot image) cs) f)

  -- ---- timers
  abbrev leave : model-state.Volatile → model-state.Volatile
  leave v = with_rest (with_timers (keep (timer_later now) v.rest.timers) v.rest) v

  module _ (m : Means vol (base x.vol) (leave (meaning x.vol))) where
    pub timers-room : (n : ℕ) → Room n x → Room n (with_vol vol x)
    timers-room n a = room_after leave x m refl refl n a

    pub timers-fire : (ts : List NamedTimer) {r : Carried} {ow ew ow' ew' : List ℕ} → ts ≡ due_timers now (meaning x.vol).rest
        → Fires 1024 (activate_each (env_in snapshot image) by_timer (rules_of_timers image ts)) (with_vol vol x) ow ew r ow' ew' → Fires 1024 (fire_timers (env_in snapshot image)) x ow ew r ow' ew'
    unfolding fire_timers timers_due env_in set_of
    timers-fire ts e f =
        same-part 1024 (λ v. activate_each (env_in snapshot image) by_timer (rules_of_timers image ts) (leave v)) (fire_timers (env_in snapshot image)) (rw (← is, e))
        (after-change leave x m refl refl 1024 (activate_each (env_in snapshot image) by_timer (rules_of_timers image ts)) f)

  -- ---- Every slots
  abbrev move : model-state.Volatile → model-state.Volatile
  move v = with_rest (with_every (map (moved now) v.rest.every) v.rest) v

  module _ (m : Means vol (base x.vol) (move (meaning x.vol))) where
    pub slots-room : (n : ℕ) → Room n x → Room n (with_vol vol x)
    slots-room n a = room_after move x m refl refl n a

    pub slots-fire : (xs : List EverySlot) {r : Carried} {ow ew ow' ew' : List ℕ} → xs ≡ keep (slot_due now) (meaning x.vol).rest.every
        → Fires 64 (activate_each (env_in snapshot image) by_every (rules_of_slots image xs)) (with_vol vol x) ow ew r ow' ew' → Fires 64 (fire_every (env_in snapshot image)) x ow ew r ow' ew'
    unfolding fire_every every_due env_in set_of
    slots-fire xs e f =
        same-part 64 (λ v. activate_each (env_in snapshot image) by_every (rules_of_slots image xs) (move v)) (fire_every (env_in snapshot image)) (rw (← is, e))
        (after-change move x m refl refl 64 (activate_each (env_in snapshot image) by_every (rules_of_slots image xs)) f)

pub due-fit : (p : Pending → Bool) (now : ℕ) (ps cs : List Pending) → cs ≡ due_now now ps → all p ps ≡ true → all p cs ≡ true
due-fit p now ps cs e a = rw e (all-due p now ps a)
