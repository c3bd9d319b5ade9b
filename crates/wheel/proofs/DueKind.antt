-- The due trigger of a rule: the triggers that are left give what all of them do. Assumes nothing.
use mathlib.Core.Path.{◌≡◌, refl, sym, ap, ◌∙◌}
use mathlib.Core.Bool.{Bool, true, false, ◌||◌}
use mathlib.Core.List.{List, [], ◌∷◌}
use Rattle.std.specs.Bool.{then_some}
use Rattle.std.specs.Option.{ok_or}
use Rattle.std.specs.Prelude.{Option, None, Some, Result, Ok, Err}
use Prim.Native.Nat.{ℕ, ◌+◌, ◌*◌}
use Rattle.model.specs.Eval.{solar_of}
use Rattle.model.specs.State.{Env}
use Rattle.model.specs.Wheel as model
use Rattle.model.specs.Wheel.{by_time, by_solar, minute_due, solar_due, without_sun, due_wall_kind}
use Rattle.model.specs.Kinds.{trigger_number}
use Rattle.model.specs.declared.TriggerKind.{TriggerKind}
use Rattle.model.specs.declared.TriggerKind.TheVariants as by
use Rattle.model.specs.declared.SolarEvent.{SolarEvent}
use Rattle.model.specs.declared.Trigger.{Trigger}
use Rattle.model.specs.declared.Trigger.TheVariants.{TimerFires, Every, AtTime, AtSolar, Other}
use Rattle.model.proofs.Bools.{or-true, or-false}
use Rattle.model.specs.declared.SunTimes.{SunTimes}
use Rattle.wheel.specs.Wall.{number_if, kind_and_sun, kind_of_one, missed_too}
use Rattle.wheel.specs.declared.wall.NoSun.{NoSun}

-- an answer that a `?` takes, or hands on
pub known : {A E : Type 0} (o : Option A) (e : E) {x : A} → ok_or o e ≡ Ok x → o ≡ Some x
known None e h = cc
known (Some y) e h = cc

pub unknown : {A E : Type 0} (o : Option A) (e : E) {x : E} → ok_or o e ≡ Err x → o ≡ None
unknown None e h = refl
unknown (Some y) e h = cc

abbrev nothing : model.WallKind
nothing = record { kind = None; unsynced = false }

-- what one trigger gives in front of others
abbrev time_kind : Bool → ℕ → model.WallKind → model.WallKind
time_kind due kind rest = elim due [ true ↦ record { kind = Some kind; unsynced = false } | false ↦ rest ]

abbrev solar_kind : Option Bool → model.WallKind → model.WallKind
solar_kind o rest = elim o [ None ↦ without_sun rest | Some due ↦ time_kind due by_solar rest ]

-- ONE TRIGGER -------------------------------------------------------------------------------------------------------------------------------
due-or-not : (b : Bool) (kind : TriggerKind) → kind_and_sun (then_some b kind) false ≡ time_kind b (trigger_number kind) nothing
due-or-not true kind = refl
due-or-not false kind = refl

module _ (e : Env) (base window : ℕ) where
  pub at-time : (h m days : ℕ) {b : Bool} → b ≡ minute_due base window days (h * 60 + m) → kind_and_sun (then_some b by.AtTime) false ≡ due_wall_kind e base window (AtTime h m days ∷ [])
  unfolding due_wall_kind
  at-time h m days is = ap (λ (b : Bool). kind_and_sun (then_some b by.AtTime) false) is ∙ due-or-not (minute_due base window days (h * 60 + m)) by.AtTime

  sun-due : (event : SolarEvent) (offset : ℕ) {sun : SunTimes} {b : Bool} → e.world.sun ≡ Some sun → b ≡ minute_due base window 127 (solar_of sun event offset) → solar_due e base window event offset ≡ Some b
  unfolding solar_due
  sun-due event offset h is = rw h (ap Some (sym is))

  pub at-sun : (event : SolarEvent) (offset : ℕ) {sun : SunTimes} {b : Bool} → e.world.sun ≡ Some sun → b ≡ minute_due base window 127 (solar_of sun event offset) → kind_and_sun (then_some b by.AtSolar) false ≡ due_wall_kind e base window (AtSolar event offset ∷ [])
  unfolding due_wall_kind
  at-sun event offset {b = b} h is = due-or-not b by.AtSolar ∙ ap (λ (o : Option Bool). solar_kind o nothing) (sym (sun-due event offset h is))

  without : (event : SolarEvent) (offset : ℕ) → e.world.sun ≡ None → solar_due e base window event offset ≡ None
  unfolding solar_due
  without event offset h = rw h

  pub no-sun : (event : SolarEvent) (offset : ℕ) → e.world.sun ≡ None → kind_and_sun None true ≡ due_wall_kind e base window (AtSolar event offset ∷ [])
  unfolding due_wall_kind
  no-sun event offset h = ap (λ (o : Option Bool). solar_kind o nothing) (sym (without event offset h))

  pub no-timer : (x : ℕ) → nothing ≡ due_wall_kind e base window (TimerFires x ∷ [])
  unfolding due_wall_kind
  no-timer x = refl

  pub no_slot : (ms : ℕ) → nothing ≡ due_wall_kind e base window (Every ms ∷ [])
  unfolding due_wall_kind
  no_slot ms = refl

  pub no_other : nothing ≡ due_wall_kind e base window (Other ∷ [])
  unfolding due_wall_kind
  no_other = refl

-- THE TRIGGERS ------------------------------------------------------------------------------------------------------------------------------
-- the first due of two
abbrev first_of : Option ℕ → model.WallKind → model.WallKind → model.WallKind
first_of None w rest = record { kind = rest.kind; unsynced = w.unsynced || rest.unsynced }
first_of (Some kind) w rest = w

time-first : (b : Bool) (kind : ℕ) (rest : model.WallKind) → time_kind b kind rest ≡ first_of (time_kind b kind nothing).kind (time_kind b kind nothing) rest
time-first true kind rest = refl
time-first false kind rest = refl

sun-first : (o : Option Bool) (rest : model.WallKind) → solar_kind o rest ≡ first_of (solar_kind o nothing).kind (solar_kind o nothing) rest
sun-first None rest = refl
sun-first (Some true) rest = refl
sun-first (Some false) rest = refl

module _ (e : Env) (base window : ℕ) where
  abbrev one : Trigger → model.WallKind
  one t = due_wall_kind e base window (t ∷ [])

  first_then : (t : Trigger) (ts : List Trigger) → due_wall_kind e base window (t ∷ ts) ≡ first_of (one t).kind (one t) (due_wall_kind e base window ts)
  unfolding due_wall_kind
  first_then (TimerFires x) ts = refl
  first_then (Every ms) ts = refl
  first_then (AtTime h m days) ts = time-first (minute_due base window days (h * 60 + m)) by_time (due_wall_kind e base window ts)
  first_then (AtSolar event offset) ts = sun-first (solar_due e base window event offset) (due_wall_kind e base window ts)
  first_then Other ts = refl

  module _ (ts : List Trigger) where
    -- the triggers that are left, where a sun was missed before or not, give what all do
    pub Left : Bool → List Trigger → Bool → Type 0
    Left missed left now = missed_too now (due_wall_kind e base window left) ≡ missed_too missed (due_wall_kind e base window ts)

    pub starts : (missed : Bool) (left : List Trigger) → left ≡ ts → Left missed left missed
    unfolding Left
    starts missed left h = ap (λ (l : List Trigger). missed_too missed (due_wall_kind e base window l)) h

    -- a turn, by what the first that is left gives
    module _ (missed now : Bool) (left rest : List Trigger) {t : Trigger} (r : Result (Option TriggerKind) NoSun) (inv : Left missed left now) (first : left ≡ t ∷ rest) (is : kind_of_one r ≡ one t) where
      others : model.WallKind
      others = due_wall_kind e base window rest

      turn : (w : model.WallKind) → w ≡ one t → missed_too now (first_of w.kind w others) ≡ missed_too missed (due_wall_kind e base window ts)
      unfolding Left others
      turn w h =
          ap (λ (x : model.WallKind). missed_too now (first_of x.kind x others)) h
          ∙ ap (missed_too now) (sym (first_then t rest)) ∙ ap (λ (l : List Trigger). missed_too now (due_wall_kind e base window l)) (sym first) ∙ inv

      pub ends-here : (kind : TriggerKind) → r ≡ Ok (Some kind) → kind_and_sun (Some kind) now ≡ missed_too missed (due_wall_kind e base window ts)
      ends-here kind h =
          (let z : kind_and_sun (Some kind) now ≡ missed_too now (kind_and_sun (Some kind) false) = rw (or-false now) in z)
          ∙ turn (kind_and_sun (Some kind) false) (ap kind_of_one (sym h) ∙ is)

      pub goes : r ≡ Ok None → Left missed rest now
      unfolding Left others
      goes h = turn (kind_and_sun None false) (ap kind_of_one (sym h) ∙ is)

      pub misses : (e : NoSun) → r ≡ Err e → Left missed rest true
      unfolding Left others
      misses e h =
          (let z : missed_too true others ≡ missed_too now (first_of None (kind_and_sun None true) others) = rw (or-true now) in z)
          ∙ turn (kind_and_sun None true) (ap kind_of_one (sym h) ∙ is)

    pub ends : (missed now : Bool) (left : List Trigger) → left ≡ [] → Left missed left now → kind_and_sun None now ≡ missed_too missed (due_wall_kind e base window ts)
    unfolding Left due_wall_kind
    ends missed now left h inv = (let z : kind_and_sun None now ≡ missed_too now nothing = rw (or-false now) in z) ∙ rw h at inv
