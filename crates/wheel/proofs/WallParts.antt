-- The functions of the wall schedules, by what they call. Assumes nothing.
use Prim.Native.Nat.{ℕ}
use native.Mathlib.Omega.{arith}
use mathlib.Core.Path.{◌≡◌, refl, sym, ap, ◌∙◌}
use mathlib.Core.Bool.{Bool, true, false}
use mathlib.Core.List.{List}
use Rattle.std.specs.Prelude.{Option, None, Some}
use Rattle.model.specs.Activate.{no_outcome}
use Rattle.model.specs.Flat.{set_of}
use Rattle.model.specs.Rules.{triggers_of}
use Rattle.model.specs.State as model-state
use Rattle.model.specs.State.{Env, is_enabled, with_rest, with_prev_week_min, bump_by, ticks_time_unsynced}
use Rattle.model.specs.Wheel as wheel
use Rattle.model.specs.Wheel.{start_wall, due_wall_kind, has_wall_triggers, week_minute, window_of, fire_window, make_up, is_set_back, fire_wall_at, fire_wall_schedules}
use Rattle.model.specs.declared.TriggerKind.{TriggerKind}
use Rattle.model.specs.declared.WallTime.{WallTime}
use Rattle.model.specs.World.{world_of}
use Rattle.state.specs.Meaning.{Means, meaning, base}
use Rattle.state.proofs.Follows.{follows}
use Rattle.activate.specs.Handled.{Room}
use Rattle.activate.specs.Carried.{Carried}
use Rattle.activate.proofs.Continues.{with_vol}
use Rattle.eval.specs.Answers.{env_in}
use Rattle.wheel.specs.Tick.{Fires, turn_handled, count_missed, remembering, without_wall}
use Rattle.wheel.specs.Turns.{Turns}
use Rattle.wheel.specs.Wall.{number_if, kind_and_sun, missed_too}
use Rattle.wheel.proofs.Fires.{same-part, more-part, skips, changed, after-change, room_after}
use Rattle.wheel.proofs.WallTurns.{turn-off, missed-off, turn_on, missed-on}

-- ---- the counter
module _ (s : model-state.Volatile) (r : List ℕ) (base : ℕ) where
  pub counted : (missed : Bool) → missed ≡ true → Means r base (with_rest (bump_by ticks_time_unsynced 1 s.rest) s) → Means r base (count_missed missed s)
  unfolding count_missed
  counted true h m = m
  counted false h m = let z : ◌≡◌ {A = ℕ} 0 1 = cc in absurd (omega arith)

  pub uncounted : (missed : Bool) → missed ≡ false → Means r base s → Means r base (count_missed missed s)
  unfolding count_missed
  uncounted false h m = m
  uncounted true h m = let z : ◌≡◌ {A = ℕ} 0 1 = cc in absurd (omega arith)

-- ---- a rule's turn
module _ (snapshot image : List ℕ) (from window i : ℕ) (missed : Bool) (x : Carried) {on : Bool} (is : on ≡ is_enabled (meaning x.vol).rest i) where
  abbrev env : Env
  env = env_in snapshot image

  pub passes-by : (ow ew : List ℕ) → on ≡ false → Turns env from window i missed missed x ow ew x ow ew
  passes-by ow ew h = record {
    fires = skips 1 (turn_handled env from window i) x ow ew (turn-off env from window i missed (meaning x.vol) is h);
    missed = missed-off env from window i missed (meaning x.vol) is h;
  }

  pub takes-turn : (kind : Option TriggerKind) (after : Bool) {ow ew : List ℕ} {r : Carried} {ow' ew' : List ℕ} → on ≡ true
      → kind_and_sun kind after ≡ missed_too missed (due_wall_kind env from window (triggers_of image i))
      → Fires 1 (start_wall (number_if kind) env i) x ow ew r ow' ew' → Turns env from window i missed after x ow ew r ow' ew'
  unfolding env_in set_of
  takes-turn kind after h d f =
      let m = meaning x.vol in
      record {
        fires = same-part 1 (start_wall (number_if kind) env i) (turn_handled env from window i) (turn_on env from window i missed m is h ∙ ap (λ (o : Option ℕ). start_wall o env i m) (sym (ap (λ (y : wheel.WallKind). y.kind) d))) f;
        missed = ap (λ (y : wheel.WallKind). y.unsynced) d ∙ sym (missed-on env from window i missed m is h);
      }

-- ---- the minute is remembered
module _ (snapshot image : List ℕ) (w : WallTime) (x : Carried) {v : List ℕ} (value : ℕ) (minute : value ≡ week_minute w) (m : Means v (base x.vol) (remembering value (meaning x.vol))) where
  abbrev env-at : Env
  env-at = env_in snapshot image

  module _ (prev : Option ℕ) (known : prev ≡ (meaning x.vol).rest.prev_week_min) where
    pub first-minute : (ow ew : List ℕ) → prev ≡ None → Fires 64 (fire_wall_at (Some w) env-at) x ow ew (with_vol v x) ow ew
    first-minute ow ew n =
        same-part 64 (λ y. no_outcome (remembering value y)) (fire_wall_at (Some w) env-at) (rw (← minute, ← known, n))
        (more-part 0 64 (omega arith) (changed (remembering value) x m refl refl ow ew))

    module _ (before : ℕ) (n : prev ≡ Some before) where
      pub set_back : (set : Bool) (ow ew : List ℕ) → set ≡ is_set_back before value → set ≡ true → Fires 64 (fire_wall_at (Some w) env-at) x ow ew (with_vol v x) ow ew
      set_back set ow ew is b =
          same-part 64 (λ y. no_outcome (remembering value y)) (fire_wall_at (Some w) env-at) (rw (← minute, ← known, n, ← is, b))
          (more-part 0 64 (omega arith) (changed (remembering value) x m refl refl ow ew))

      pub catches-up : (set : Bool) (window : ℕ) {r : Carried} {ow ew ow' ew' : List ℕ} → set ≡ is_set_back before value → set ≡ false
          → window ≡ window_of before value → Fires 64 (fire_window env-at value window) (with_vol v x) ow ew r ow' ew' → Fires 64 (fire_wall_at (Some w) env-at) x ow ew r ow' ew'
      unfolding make_up
      catches-up set window is b e f =
          same-part 64 (λ y. fire_window env-at value window (remembering value y)) (fire_wall_at (Some w) env-at) (rw (e, ← minute, ← known, n, ← is, b))
          (after-change (remembering value) x m refl refl 64 (fire_window env-at value window) f)

pub remember-room : (x : Carried) {v : List ℕ} (value n : ℕ) → Means v (base x.vol) (remembering value (meaning x.vol)) → Room n x → Room n (with_vol v x)
remember-room x value n m a = room_after (remembering value) x m refl refl n a

-- ---- without a clock
abbrev forget : model-state.Volatile → model-state.Volatile
forget v = with_rest (with_prev_week_min None v.rest) v

pub forgets : (image v w u : List ℕ) {has : Bool} → has ≡ has_wall_triggers image (meaning v).rest
    → Means w (base v) (count_missed has (meaning v)) → Means u (base w) (forget (meaning w)) → Means u (base v) (without_wall image (meaning v))
unfolding without_wall count_missed
forgets image v w u {has} is a b = rw is at (follows forget w u (base v) (count_missed has (meaning v)) a b)

-- ---- the clock that a snapshot has
module _ (snapshot image : List ℕ) {o : Option WallTime} (is : o ≡ (world_of snapshot).wall) where
  pub with-clock : (w : WallTime) (v : model-state.Volatile) → o ≡ Some w → fire_wall_schedules (env_in snapshot image) v ≡ fire_wall_at (Some w) (env_in snapshot image) v
  unfolding fire_wall_schedules env_in
  with-clock w v h = rw (← is, h)

  pub without-clock : (x : Carried) {w : List ℕ} (ow ew : List ℕ) → o ≡ None → Means w (base x.vol) (without_wall image (meaning x.vol)) → Fires 64 (fire_wall_schedules (env_in snapshot image)) x ow ew (with_vol w x) ow ew
  unfolding fire_wall_schedules env_in set_of without_wall
  without-clock x ow ew h m =
      same-part 64 (λ v. no_outcome (without_wall image v)) (fire_wall_schedules (env_in snapshot image)) (rw (← is, h))
      (more-part 0 64 (omega arith) (changed (without_wall image) x m refl refl ow ew))
