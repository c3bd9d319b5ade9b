-- "Due in m minutes" is the tick's own test, with a window of one minute that ends there. Assumes nothing.
use mathlib.Core.Path.{◌≡◌, refl, sym, ap, ◌∙◌}
use mathlib.Core.Bool.{Bool, true, false, ◌&&◌, ◌||◌}
use mathlib.Core.List.{List, [], ◌∷◌}
use Rattle.std.specs.Prelude.{Option, None, Some}
use Prim.Native.Nat.{ℕ, zero, suc, ◌+◌, ◌-◌, ◌*◌, ◌%◌, ◌≤◌, ◌<◌}
use native.Mathlib.Omega.{arith}
use lib.Dec.{leb, eqb}
use borrow.Author.Tests.{eqb-true, eqb-false, eq-eqb, ne_eqb, le-leb, lt-leb}
use Rattle.model.specs.Arith.{has_day}
use Rattle.model.specs.Eval.{solar_of}
use Rattle.model.specs.Lists.{any, present}
use Rattle.model.specs.State.{Env}
use Rattle.model.specs.Wheel.{WallKind, cyclic_dist, in_window, weekdays, minute_due, solar_due, due_wall_kind, by_time, by_solar, without_sun}
use Rattle.model.specs.declared.SunTimes.{SunTimes}
use Rattle.model.specs.declared.SolarEvent.{SolarEvent}
use Rattle.model.specs.declared.Trigger.{Trigger}
use Rattle.model.specs.declared.Trigger.TheVariants.{TimerFires, Every, AtTime, AtSolar, Other}
use Rattle.next.specs.NextStart.{on_days, stands_at, due_in}

-- what one trigger gives in front of others
abbrev time_kind : Bool → ℕ → WallKind → WallKind
time_kind due kind rest = elim due [ true ↦ record { kind = Some kind; unsynced = false } | false ↦ rest ]

abbrev solar_kind : Option Bool → WallKind → WallKind
solar_kind o rest = elim o [ None ↦ without_sun rest | Some due ↦ time_kind due by_solar rest ]

time-gives : (b : Bool) (kind : ℕ) (rest : WallKind) → present (time_kind b kind rest).kind ≡ b || present rest.kind
time-gives true kind rest = refl
time-gives false kind rest = refl

one_only : (d : ℕ) → leb 1 d && leb d 1 ≡ eqb d 1
one_only zero = refl
one_only (suc zero) = refl
one_only (suc (suc d)) = rw (lt-leb (suc (suc d)) 1 (omega arith), ne_eqb (suc (suc d)) 1 (λ e. absurd (omega arith)), le-leb 1 (suc (suc d)) (omega arith))

same-test-at : (b : Bool) (a a' c c' : ℕ) → eqb a a' ≡ b → (a ≡ a' → c ≡ c') → (c ≡ c' → a ≡ a') → b ≡ eqb c c'
same-test-at true a a' c c' e f g = sym (eq-eqb c c' (f (eqb-true a a' e)))
same-test-at false a a' c c' e f g = sym (ne_eqb c c' (λ q. eqb-false a a' e (g q)))

any_same : {A : Type 0} (p q : A → Bool) (xs : List A) → ((x : A) → p x ≡ q x) → any p xs ≡ any q xs
any_same p q [] h = refl
any_same p q (x ∷ xs) h = rw (h x, any_same p q xs h)

-- any base that a tick has, and up to a week more
module _ (base : ℕ) (few : base < 20159) where
  abbrev here : ℕ
  here = (base + 1) % 10080

  window-one : (target : ℕ) → in_window base 1 target ≡ eqb (target % 10080) here
  unfolding in_window cyclic_dist
  window-one target =
      let dist = (target + 10080 - base) % 10080 in
      one_only dist ∙ same-test-at (eqb dist 1) dist 1 (target % 10080) here refl to from
    where
      to : (target + 10080 - base) % 10080 ≡ 1 → target % 10080 ≡ here
      to e = omega arith

      from : target % 10080 ≡ here → (target + 10080 - base) % 10080 ≡ 1
      from e = omega arith

  days-due : (days minute : ℕ) → minute_due base 1 days minute ≡ on_days here days minute
  unfolding minute_due on_days
  days-due days minute =
      any_same
      (λ d. has_day days d && in_window base 1 (d * 1440 + minute))
      (λ d. has_day days d && eqb ((d * 1440 + minute) % 10080) here)
      weekdays
      (λ d. ap (λ (b : Bool). has_day days d && b) (window-one (d * 1440 + minute)))

  -- one trigger in front of others
  module _ (e : Env) where
    abbrev sun : Option SunTimes
    sun = e.world.sun

    abbrev gives : List Trigger → Bool
    gives ts = present (due_wall_kind e base 1 ts).kind

    sun-due : {s : SunTimes} (event : SolarEvent) (offset : ℕ) → sun ≡ Some s → solar_due e base 1 event offset ≡ Some (on_days here 127 (solar_of s event offset))
    unfolding solar_due
    sun-due {s = s} event offset h = rw h (ap Some (days-due 127 (solar_of s event offset)))

    sun-missing : (event : SolarEvent) (offset : ℕ) → sun ≡ None → solar_due e base 1 event offset ≡ None
    unfolding solar_due
    sun-missing event offset h = rw h

    sun-gives : (o : Option SunTimes) (event : SolarEvent) (offset : ℕ) (ts : List Trigger) → sun ≡ o → gives (AtSolar event offset ∷ ts) ≡ stands_at o here (AtSolar event offset) || gives ts
    unfolding due_wall_kind stands_at
    sun-gives None event offset ts h = ap (λ (o : Option Bool). present (solar_kind o (due_wall_kind e base 1 ts)).kind) (sun-missing event offset h)
    sun-gives (Some s) event offset ts h =
        ap (λ (o : Option Bool). present (solar_kind o (due_wall_kind e base 1 ts)).kind) (sun-due event offset h)
        ∙ time-gives (on_days here 127 (solar_of s event offset)) by_solar (due_wall_kind e base 1 ts)

    first_gives : (x : Trigger) (ts : List Trigger) → gives (x ∷ ts) ≡ stands_at sun here x || gives ts
    unfolding due_wall_kind stands_at
    first_gives (TimerFires x) ts = refl
    first_gives (Every ms) ts = refl
    first_gives (AtTime h minute days) ts =
        time-gives (minute_due base 1 days (h * 60 + minute)) by_time (due_wall_kind e base 1 ts)
        ∙ ap (λ (b : Bool). b || gives ts) (days-due days (h * 60 + minute))
    first_gives (AtSolar event offset) ts = sun-gives sun event offset ts refl
    first_gives Other ts = refl

    -- the tick's test gives a kind exactly where a trigger of the list stands at the minute behind the base
    pub minute-test : (ts : List Trigger) → present (due_wall_kind e base 1 ts).kind ≡ any (λ x. stands_at e.world.sun here x) ts
    unfolding due_wall_kind
    minute-test [] = refl
    minute-test (x ∷ ts) = first_gives x ts ∙ ap (λ (b : Bool). stands_at sun here x || b) (minute-test ts)

-- 3: with base t + m - 1 it gives a kind exactly where a trigger of the list is due in m minutes; and so it does with that base taken round the week, as
-- a tick of that minute has it
module _ (t m : ℕ) (ht : t < 10080) (low : 1 ≤ m) (high : m ≤ 10080) (e : Env) (ts : List Trigger) where
  due-then : (k : ℕ) → k ≡ (t + m) % 10080 → any (λ x. stands_at e.world.sun k x) ts ≡ any (λ x. due_in e.world.sun t x m) ts
  unfolding due_in
  due-then k q = ap (λ (w : ℕ). any (λ x. stands_at e.world.sun w x) ts) q

  pub tick-test : present (due_wall_kind e (t + m - 1) 1 ts).kind ≡ any (λ x. due_in e.world.sun t x m) ts
  tick-test = minute-test (t + m - 1) (omega arith) e ts ∙ due-then ((t + m - 1 + 1) % 10080) (omega arith)

  pub tick-test-round : present (due_wall_kind e ((t + m - 1) % 10080) 1 ts).kind ≡ any (λ x. due_in e.world.sun t x m) ts
  tick-test-round = minute-test ((t + m - 1) % 10080) (omega arith) e ts ∙ due-then (((t + m - 1) % 10080 + 1) % 10080) (omega arith)
