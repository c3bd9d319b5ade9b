-- Worked examples of the kept list. Assumes nothing.
use mathlib.Core.Path.{◌≡◌, refl}
use mathlib.Core.List.{[], ◌∷◌}
use Prim.Native.Nat.{ℕ}
use Rattle.model.specs.Lists.{every}
use Rattle.model.specs.declared.Effect.{Effect}
use Rattle.model.specs.Telegrams.{is_level, cuts, sets, at, supersedes, superseded, select, kept}

abbrev pub effect : ℕ → ℕ → ℕ → Effect
effect kind a b = record { kind = kind; a = a; b = b; c = 0; d = 0 }

-- a Log does not cut
pub round-a-log : kept (effect 12 1 10 ∷ effect 11 7 0 ∷ effect 12 1 20 ∷ []) ≡ effect 11 7 0 ∷ effect 12 1 20 ∷ []
unfolding kept select superseded supersedes sets is_level cuts at every
round-a-log = refl

-- each kind 0 to 10 cuts, whatever it is about: a Light of the same target, an MqttPublish
pub round-a-light : kept (effect 12 1 10 ∷ effect 0 1 0 ∷ effect 12 1 20 ∷ []) ≡ effect 12 1 10 ∷ effect 0 1 0 ∷ effect 12 1 20 ∷ []
unfolding kept select superseded supersedes sets is_level cuts at every
round-a-light = refl

pub round-a-publish : kept (effect 12 1 10 ∷ effect 10 5 6 ∷ effect 12 1 20 ∷ []) ≡ effect 12 1 10 ∷ effect 10 5 6 ∷ effect 12 1 20 ∷ []
unfolding kept select superseded supersedes sets is_level cuts at every
round-a-publish = refl

-- the last of a target is kept, and other targets between do not matter
pub two-lamps : kept (effect 12 1 10 ∷ effect 12 2 30 ∷ effect 12 1 20 ∷ []) ≡ effect 12 2 30 ∷ effect 12 1 20 ∷ []
unfolding kept select superseded supersedes sets is_level cuts at every
two-lamps = refl
