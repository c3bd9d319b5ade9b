-- A start of another kind is no automatic one, and no dry one. Assumes nothing.
use mathlib.Core.Path.{◌≡◌, refl}
use mathlib.Core.Bool.{false}
use Rattle.model.specs.Activate.{Mode, Auto, Manual, Dry, is_auto, is_dry}

pub not-auto : (m : Mode) → (m ≡ Auto → ⊥) → false ≡ is_auto m
not-auto Auto h = absurd (h refl)
not-auto Manual h = refl
not-auto Dry h = refl

pub not-dry : (m : Mode) → (m ≡ Dry → ⊥) → false ≡ is_dry m
not-dry Auto h = refl
not-dry Manual h = refl
not-dry Dry h = absurd (h refl)
