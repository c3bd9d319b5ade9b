-- The whole tick. Assumes nothing.
use Prim.Native.Nat.{ℕ}
use mathlib.Core.List.{List}
use Rattle.model.specs.Activate.{and_then}
use Rattle.model.specs.State.{Env}
use Rattle.model.specs.Wheel.{fire_continuations, fire_timers, fire_every, fire_wall_schedules, service_tick}
use Rattle.activate.specs.Carried.{Carried}
use Rattle.wheel.specs.Tick.{Fires}
use Rattle.wheel.proofs.Fires.{then-fires}

pub whole-tick :
    (e : Env) {x y z u r : Carried} {ow₀ ew₀ ow₁ ew₁ ow₂ ew₂ ow₃ ew₃ ow₄ ew₄ : List ℕ} → Fires 32 (fire_continuations e) x ow₀ ew₀ y ow₁ ew₁
    → Fires 1024 (fire_timers e) y ow₁ ew₁ z ow₂ ew₂ → Fires 64 (fire_every e) z ow₂ ew₂ u ow₃ ew₃ → Fires 64 (fire_wall_schedules e) u ow₃ ew₃ r ow₄ ew₄
    → Fires 1184 (service_tick e) x ow₀ ew₀ r ow₄ ew₄
unfolding service_tick
whole-tick e a b c d =
    then-fires 1120 64 (λ v. and_then (and_then (fire_continuations e v) (fire_timers e)) (fire_every e)) (fire_wall_schedules e)
    (then-fires 1056 64 (λ v. and_then (fire_continuations e v) (fire_timers e)) (fire_every e)
    (then-fires 32 1024 (fire_continuations e) (fire_timers e) a b) c) d
