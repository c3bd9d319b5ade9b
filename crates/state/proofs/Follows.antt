-- One operation behind another: what the second means of what the first means. Assumes nothing.
use Prim.Native.Nat.{ℕ, ◌+◌}
use mathlib.Core.Bool.{Bool, true, false, not}
use mathlib.Core.List.{List}
use mathlib.Core.Path.{◌≡◌, refl, sym, ap, ◌∙◌}
use native.Mathlib.Omega.{arith}
use lib.ListN.{set}
use Rattle.model.specs.Calls.{flipped}
use Rattle.model.specs.State as model
use Rattle.model.specs.State.{with_rest, with_enabled, strike}
use Rattle.state.specs.Meaning.{Means, MeansSoundly, meaning, base, accepted}

pub follows : (f : model.Volatile → model.Volatile) (w r : List ℕ) (b : ℕ) (s : model.Volatile) → Means w b s → Means r (base w) (f (meaning w)) → Means r b (f s)
follows f w r b s first second = record { says = second.says ∙ ap f first.says; based = second.based ∙ first.based }

pub means : {w : List ℕ} {b : ℕ} {s : model.Volatile} → MeansSoundly w b s → Means w b s
means m = record { says = m.says; based = m.based }

pub next-is : (w : List ℕ) → base w + accepted w ≡ (meaning w).next
unfolding meaning base accepted
next-is w = refl

-- how many records are accepted, by the next number
pub accepted-by-next : (w : List ℕ) (b : ℕ) (s : model.Volatile) → Means w b s → b + accepted w ≡ s.next
accepted-by-next w b s m = ap (λ (n : ℕ). n + accepted w) (sym m.based) ∙ next-is w ∙ ap (λ (x : model.Volatile). x.next) m.says

-- ---- a rule's bit
abbrev bit_set : ℕ → Bool → model.Volatile → model.Volatile
bit_set i on s = with_rest (with_enabled (set s.rest.enabled i on) s.rest) s

module _ (rule i b : ℕ) (s : model.Volatile) (w : List ℕ) where
  pub flips-on : (on : Bool) → not on ≡ false → Means w b (bit_set i on s) → Means w b (flipped rule i on s)
  flips-on true e m = m
  flips-on false e m = let z : ◌≡◌ {A = ℕ} 0 1 = cc in absurd (omega arith)

  pub flips-off : (r : List ℕ) (on : Bool) → not on ≡ true → Means w b (bit_set i on s) → Means r (base w) (strike rule (meaning w)) → Means r b (flipped rule i on s)
  flips-off r false e m k = follows (strike rule) w r b (bit_set i false s) m k
  flips-off r true e m k = let z : ◌≡◌ {A = ℕ} 0 1 = cc in absurd (omega arith)
