-- A tick, measured by what each activation and each resumption gives at the most: shown once, for outcomes and for effects.
use mathlib.Core.Path.{◌≡◌, refl, sym, ◌∙◌}
use Prim.Native.Nat.{ℕ, zero, suc, ◌+◌, ◌-◌, ◌*◌, ◌%◌, min, ◌≤◌}
use native.Mathlib.Omega.{arith}
use native.Mathlib.Nat.{mul-le-mul_right}
use mathlib.Core.Bool.{Bool, true, false, ◌&&◌, ◌||◌}
use mathlib.Core.List.{List, [], ◌∷◌}
use Rattle.std.specs.Prelude.{Option, None, Some}
use lib.Dec.{leb}
use lib.ListN.{length}
use Rattle.model.specs.Lists.{all, keep, sort, total}
use Rattle.model.specs.Image.{size_of}
use Rattle.model.specs.Rows.{rules}
use Rattle.model.specs.declared.Trigger.{Trigger}
use Rattle.model.specs.declared.Trigger.TheVariants.{TimerFires, Every as EveryMs, AtTime, AtSolar, Other}
use Rattle.model.specs.Rules.{triggers_of, name_order}
use Rattle.model.specs.declared.WallTime.{WallTime}
use Rattle.model.specs.Outcome.{Outcome}
use Rattle.model.specs.declared.Pending.{Pending}
use Rattle.model.specs.State.{Env, Volatile, with_rest, is_enabled}
use Rattle.model.specs.Activate.{Handled, and_then, activate, resume}
use Rattle.model.specs.declared.Mode.TheVariants.{Auto}
use Rattle.model.specs.Wheel.{by_timer, by_every, due_before, due_now, not_due, resume_all, fire_continuations, activate_if_enabled, activate_each, timers_due, every_due, week_minutes, week_minute, is_wall_trigger, due_wall_kind, start_wall, wall_turn, fire_due_wall_rules, has_wall_triggers, window_of, fire_window, make_up, is_set_back, catch_up, fire_wall_at, fire_wall_schedules, fire_timers, fire_every, service_tick}
use Rattle.ledger.proofs.ListLaws.{by, and_l, and_r, all_keep, all-sort, length-keep}
use Rattle.ledger.proofs.SumLaws.{sum_of, sum-append, sum-sort}
use Rattle.ledger.proofs.Values.{WorldOk}
use Rattle.ledger.proofs.SetRules.{SetOk}
use Rattle.ledger.proofs.RunRules.{pending_ok, VolatileOk, any-rest}
use Rattle.ledger.proofs.Wheel.{each, timer-rules}
use Rattle.ledger.proofs.WheelRules.{Ours, by_name, rules-laws, fire-ok, timers-rest}
use Rattle.room.specs.Room.{count, is_timer_trigger, is_every_trigger, starts_by, starts_of}
use Rattle.room.proofs.SumLaws.{sum-order}
use Rattle.room.proofs.StartLaws.{timer-sum, slot-sum}

-- the length of a list, as a sum
pub length-sum : {A : Type 0} (xs : List A) → sum_of (λ x. 1) xs ≡ length xs
length-sum [] = refl
length-sum (x ∷ xs) = let a = length-sum xs in omega arith

pub length-sort : {A : Type 0} (q : A → A → Bool) (xs : List A) → length (sort q xs) ≡ length xs
length-sort q xs = sym (length-sum (sort q xs)) ∙ sum-sort (λ x. 1) q xs ∙ length-sum xs

-- WALL TRIGGERS -------------------------------------------------------------------------------------------------------------------
-- without one nothing is due
no-wall : (e : Env) (base window : ℕ) (ts : List Trigger) → count is_wall_trigger ts ≡ 0 → (due_wall_kind e base window ts).kind ≡ None
unfolding due_wall_kind
no-wall e base window [] h = refl
no-wall e base window (TimerFires t ∷ ts) h = no-wall e base window ts (omega arith)
no-wall e base window (EveryMs ms ∷ ts) h = no-wall e base window ts (omega arith)
no-wall e base window (AtTime hour m days ∷ ts) h = absurd (omega arith)
no-wall e base window (AtSolar event offset ∷ ts) h = absurd (omega arith)
no-wall e base window (Other ∷ ts) h = no-wall e base window ts (omega arith)

module _ (e : Env) (ok : SetOk e.set) (world : WorldOk e.world) (μ : Outcome → ℕ) (w : ℕ → ℕ) (r : ℕ)
    (activates : (i kind : ℕ) (v : Volatile) → sum_of μ (activate e i kind Auto v).outcomes ≤ w i)
    (resumes : (c : Pending) (v : Volatile) → pending_ok e.set c ≡ true → sum_of μ (resume e c v).outcomes ≤ r) where
  abbrev img : List ℕ
  img = e.set.image

  abbrev given : Handled → ℕ
  given x = sum_of μ x.outcomes

  then-sum : (x : Handled) (K : Volatile → Handled) (a b : ℕ) → given x ≤ a → given (K x.vol) ≤ b → given (and_then x K) ≤ a + b
  then-sum x K a b h k = let s = sum-append μ x.outcomes (K x.vol).outcomes in omega arith

  -- CONTINUATIONS -----------------------------------------------------------------------------------------------------------------
  resumed-sum : (cs : List Pending) (v : Volatile) → all (pending_ok e.set) cs ≡ true → given (resume_all e cs v) ≤ length cs * r
  unfolding resume_all
  resumed-sum [] v h = omega arith
  resumed-sum (c ∷ cs) v h =
      let a = then-sum (resume e c v) (λ v'. resume_all e cs v') r (length cs * r) (resumes c v (and_l (pending_ok e.set c) _ h)) (resumed-sum cs _ (and_r (pending_ok e.set c) _ h)) in
      omega arith

  continuations-sum : (v : Volatile) → VolatileOk e.set v → length v.pending ≤ 32 → given (fire_continuations e v) ≤ 32 * r
  unfolding fire_continuations due_now
  continuations-sum v h few =
      let t = e.world.now in
      let due : Pending → Bool = λ c. leb c.due t in
      let cs = sort due_before (keep due v.pending) in
      let a = resumed-sum cs (not_due t v) (all-sort (pending_ok e.set) due_before (keep due v.pending) (all_keep (pending_ok e.set) due v.pending h.pending)) in
      let b = length-sort due_before (keep due v.pending) in
      let c = length-keep due v.pending in
      let z : length cs ≤ 32 = omega arith in
      let d = mul-le-mul_right r z in
      omega arith

  -- TIMERS AND EVERY SLOTS --------------------------------------------------------------------------------------------------------
  one-sum : (kind i : ℕ) (v : Volatile) → given (activate_if_enabled e kind i v) ≤ w i
  unfolding activate_if_enabled
  one-sum kind i v = by (is_enabled v.rest i) (λ t. rw t (activates i kind v)) (λ f. rw f (omega arith))

  each-sum : (kind : ℕ) (is : List ℕ) (v : Volatile) → given (activate_each e kind is v) ≤ sum_of w is
  unfolding activate_each
  each-sum kind [] v = omega arith
  each-sum kind (i ∷ is) v = then-sum (activate_if_enabled e kind i v) (λ v'. activate_each e kind is v') (w i) (sum_of w is) (one-sum kind i v) (each-sum kind is _)

  abbrev by_timers : ℕ → ℕ
  by_timers i = min 16 (count is_timer_trigger (triggers_of img i)) * w i

  abbrev by_everys : ℕ → ℕ
  by_everys i = count is_every_trigger (triggers_of img i) * w i

  abbrev by_wall : ℕ → ℕ
  by_wall i = min 1 (count is_wall_trigger (triggers_of img i)) * w i

  timers-sum : (v : Volatile) → VolatileOk e.set v → given (fire_timers e v) ≤ sum_of by_timers (name_order img)
  unfolding fire_timers
  timers-sum v h = let a = each-sum by_timer (timers_due e v.rest).rules (with_rest (timers_due e v.rest).rest v) in let b = timer-sum w e v.rest h.rest.timers in omega arith

  everys-sum : (v : Volatile) → VolatileOk e.set v → given (fire_every e v) ≤ sum_of by_everys (name_order img)
  unfolding fire_every
  everys-sum v h = let a = each-sum by_every (every_due e v.rest).rules (with_rest (every_due e v.rest).rest v) in let b = slot-sum w e v.rest h.rest.every (by_name e ok world) in omega arith

  -- WALL SCHEDULES ----------------------------------------------------------------------------------------------------------------
  start-sum : (kind : Option ℕ) (i : ℕ) (v : Volatile) → given (start_wall kind e i v) ≤ w i
  start-sum None i v = omega arith
  start-sum (Some kind) i v = activates i kind v

  wall-one : (base window i : ℕ) (v : Volatile) → given (start_wall (due_wall_kind e base window (triggers_of img i)).kind e i v) ≤ by_wall i
  wall-one base window i v = go (count is_wall_trigger (triggers_of img i)) refl
    where
      go : (n : ℕ) → count is_wall_trigger (triggers_of img i) ≡ n → given (start_wall (due_wall_kind e base window (triggers_of img i)).kind e i v) ≤ min 1 (count is_wall_trigger (triggers_of img i)) * w i
      go zero q = rw (no-wall e base window (triggers_of img i) q) (omega arith)
      go (suc n) q =
          let a = start-sum (due_wall_kind e base window (triggers_of img i)).kind i v in
          let b : min 1 (count is_wall_trigger (triggers_of img i)) ≡ 1 = omega arith in
          rw b (omega arith)

  turn-sum : (on missed : Bool) (base window i m : ℕ) (v : Volatile) (K : Bool → Volatile → Handled) → ((b : Bool) (v' : Volatile) → given (K b v') ≤ m)
      → given (wall_turn on missed e base window i v K) ≤ by_wall i + m
  turn-sum false missed base window i m v K ih = let a = ih missed v in omega arith
  turn-sum true missed base window i m v K ih =
      let k = due_wall_kind e base window (triggers_of img i) in
      then-sum (start_wall k.kind e i v) (K (missed || k.unsynced)) (by_wall i) m (wall-one base window i v) (ih _ _)

  walls-sum : (base window : ℕ) (missed : Bool) (is : List ℕ) (v : Volatile) → given (fire_due_wall_rules e base window missed is v) ≤ sum_of by_wall is
  unfolding fire_due_wall_rules
  walls-sum base window missed [] v = omega arith
  walls-sum base window missed (i ∷ is) v =
      turn-sum (is_enabled v.rest i) missed base window i (sum_of by_wall is) v (λ b v'. fire_due_wall_rules e base window b is v') (λ b v'. walls-sum base window b is v')

  window-sum : (now window : ℕ) (v : Volatile) → given (fire_window e now window v) ≤ sum_of by_wall (name_order img)
  unfolding fire_window
  window-sum now window v =
      by (has_wall_triggers img v.rest && leb 1 window)
      (λ t. rw t (walls-sum ((now + week_minutes - window) % week_minutes) window false (name_order img) v))
      (λ f. rw f (omega arith))

  catch-sum : (now : ℕ) (prev : Option ℕ) (v : Volatile) → given (catch_up e now prev v) ≤ sum_of by_wall (name_order img)
  catch-sum now None v = omega arith
  catch-sum now (Some prev) v = by (is_set_back prev now) (λ t. rw t (omega arith)) (λ f. rw f (unfold make_up in (window-sum now (window_of prev now) v)))

  wall-sum : (t : Option WallTime) (v : Volatile) → given (fire_wall_at t e v) ≤ sum_of by_wall (name_order img)
  wall-sum None v = omega arith
  wall-sum (Some t) v = catch-sum (week_minute t) v.rest.prev_week_min _

  -- THE TICK ----------------------------------------------------------------------------------------------------------------------
  three : (is : List ℕ) → sum_of by_timers is + sum_of by_everys is + sum_of by_wall is ≡ sum_of (λ i. starts_of img i * w i) is
  unfolding starts_by
  three [] = omega arith
  three (i ∷ is) = let a = three is in omega arith

  all-starts : sum_of by_timers (name_order img) + sum_of by_everys (name_order img) + sum_of by_wall (name_order img) ≡ total (size_of img rules) (λ i. starts_of img i * w i)
  unfolding name_order
  all-starts = three (name_order img) ∙ sum-order (λ i. starts_of img i * w i) _ (size_of img rules)

  -- the timers' activations keep the store rules
  after-timers : (v : Volatile) → VolatileOk e.set v → VolatileOk e.set (fire_timers e v).vol
  unfolding fire_timers
  after-timers v h =
      each e (Unit {0}) (Ours e ok world) (λ s. Unit {0}) (λ s u. VolatileOk e.set u) (λ s x. VolatileOk e.set x.vol) (rules-laws e ok world) by_timer
      (timers_due e v.rest).rules tt (with_rest (timers_due e v.rest).rest v)
      (timer-rules e (Unit {0}) (Ours e ok world) (λ s. Unit {0}) (λ s u. VolatileOk e.set u) (λ s x. VolatileOk e.set x.vol) (rules-laws e ok world) v.rest) (omega arith)
      (any-rest e.set _ v (timers-rest e ok world v.rest h.rest) h)

  pub tick-sum : (v : Volatile) → VolatileOk e.set v → length v.pending ≤ 32 → given (service_tick e v) ≤ 32 * r + total (size_of img rules) (λ i. starts_of img i * w i)
  unfolding service_tick fire_wall_schedules
  tick-sum v h few =
      let x = fire_continuations e v in
      let y = and_then x (fire_timers e) in
      let z = and_then y (fire_every e) in
      let hx = fire-ok e ok world v h in
      let a = continuations-sum v h few in
      let b = then-sum x (fire_timers e) _ _ a (timers-sum x.vol hx) in
      let c = then-sum y (fire_every e) _ _ b (everys-sum y.vol (after-timers x.vol hx)) in
      let d = then-sum z (fire_wall_schedules e) _ _ c (wall-sum e.world.wall z.vol) in
      let s = all-starts in
      omega arith
