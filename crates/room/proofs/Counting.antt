-- Counting the triggers of a rule, one after the other: those so far, and those that are left.
use mathlib.Core.Path.{◌≡◌, refl}
use Prim.Native.Nat.{ℕ, ◌+◌, ◌-◌, ◌*◌, min, max, ◌≤◌}
use native.Mathlib.Nat.{mul-le-mul_right, min_comm}
use native.Mathlib.Numerals.{add-one}
use native.Mathlib.Omega.{arith}
use mathlib.Core.Bool.{Bool}
use mathlib.Core.List.{List, []}
use lib.ListN.{length}
use Rattle.model.specs.declared.Trigger.{Trigger}
use Rattle.model.specs.Wheel.{is_wall_trigger}
use Rattle.model.specs.Lists.{total}
use Rattle.room.specs.Room.{count, greatest, is_timer_trigger, is_every_trigger, starts_by}

-- x of the triggers so far, and those that are left
pub record Counted (p : Trigger → Bool) (ts left : List Trigger) (x : ℕ) : Type 0 where
  pub few : x + length left ≤ length ts
  pub whole : x + count p left ≡ count p ts

module _ (p : Trigger → Bool) (ts : List Trigger) where
  pub ends : (left : List Trigger) (x : ℕ) → left ≡ [] → Counted p ts left x → x ≡ count p ts
  ends left x e h = let a : count p left ≡ 0 = rw e in let b = h.whole in omega arith

pub starts-sum : (ts : List Trigger) (a b x y z : ℕ) → x ≡ count is_timer_trigger ts → y ≡ count is_every_trigger ts → z ≡ count is_wall_trigger ts → a ≡ min x 16 → b ≡ min z 1
    → a + y + b ≡ starts_by ts
unfolding starts_by
starts-sum ts a b x y z ex ey ez ea eb = rw (ea, eb, ex, ey, ez, min_comm (count is_timer_trigger ts) 16, min_comm (count is_wall_trigger ts) 1)

pub product-fits : (a b : ℕ) → a ≤ 4294967312 → b ≤ 256 → a * b ≤ 1099511631872
product-fits a b h k = let x = mul-le-mul_right b h in omega arith

-- THE RULES, ONE AFTER THE OTHER ----------------------------------------------------------------------------------------------------
pub no-greatest : (f : ℕ → ℕ) → 0 ≡ greatest 0 f
unfolding greatest
no-greatest f = refl

pub grows : (f : ℕ → ℕ) (i m s r : ℕ) → m ≡ greatest i f → s ≡ f i → r ≡ max m s → r ≡ greatest (i + 1) f
unfolding greatest
grows f i m s r em es er = rw (add-one, er, em, es)

pub effects-of : (a bound y s m z b r : ℕ) → r ≡ s * m → s ≡ a → m ≡ min b z → z ≡ y → b ≡ bound → r ≡ a * min bound y
effects-of a bound y s m z b r er es em ez eb = rw (er, em, es, ez, eb)

-- a rule's bodies stand between the part before it and its own list
pub bodies_of : (before bodies size begin end own r : ℕ) → begin ≡ before + bodies → end ≡ before → own ≡ size → r ≡ max own (begin - end) → r ≡ max size bodies
bodies_of before bodies size begin end own r ea ee eo er = omega arith

pub part-ends : (f g : ℕ → ℕ) (i end begin own : ℕ) → end ≡ total i (λ k. f k + g k) → begin ≡ total i (λ k. f k + g k) + f i → own ≡ g i → begin + own ≡ total (i + 1) (λ k. f k + g k)
unfolding total
part-ends f g i end begin own ee ea eo = rw add-one (omega arith)
