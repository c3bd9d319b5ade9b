-- The rules by name, at most 64. Assumes nothing.
use Prim.Native.Nat.{ℕ, ◌≤◌, ◌<◌}
use native.Mathlib.Omega.{arith}
use mathlib.Core.Path.{◌≡◌, ap}
use mathlib.Core.List.{List}
use lib.ListN.{length, get_or}
use Rattle.model.specs.Flat.{flatten_rules}
use Rattle.model.specs.Image.{size_of}
use Rattle.model.specs.Load.{image_refusal}
use Rattle.model.specs.Rows.{rules}
use Rattle.image.proofs.Accepted.{few-accepted, rules-few}
use Rattle.image.proofs.Names.{name-order-length, name-order-at}
use Rattle.wheel.specs.Tick.{Ordered}

pub few-rules : (img : List ℕ) → image_refusal img ≡ 0 → size_of img rules ≤ 64
unfolding image_refusal
few-rules img ok = rules-few img (few-accepted img (flatten_rules img) ok)

module _ (img order : List ℕ) (e : Ordered img order) where
  pub order-few : image_refusal img ≡ 0 → length order ≤ 64
  order-few ok = omega (arith, ap length e, name-order-length img, few-rules img ok)

  -- each is a rule
  pub order-at : (k : ℕ) → k < length order → get_or order k 0 < size_of img rules
  order-at k h = rw e (name-order-at img k (omega (arith, ap length e, name-order-length img)))
