-- Bytes put into a buffer, one piece behind the other. Assumes nothing.
use mathlib.Core.Path.{◌≡◌, ◌∙◌}
use mathlib.Core.List.{List, ◌++◌, append_assoc}
use Prim.Native.Nat.{ℕ, ◌+◌, ◌*◌, ◌≤◌}
use native.Mathlib.Omega.{arith}
use lib.ListN.{length}
use Rattle.script.specs.Put.{Puts, Prints}

pub then : {b m a xs ys : List ℕ} {at r s p q : ℕ} → Puts b at p xs m r → Puts m r q ys a s → Puts b at (p + q) (xs ++ ys) a s
then {b} {m} {a} {xs} {ys} {at} {r} {s} {p} {q} x y =
    record {
      bytes-stand = y.bytes-stand ∙ rw (x.bytes-stand, append_assoc);
      ends = omega (arith, x.ends, y.ends);
      same = y.same ∙ x.same;
    }

pub within_more : {b a xs : List ℕ} {at r p : ℕ} (q : ℕ) → Puts b at p xs a r → p ≤ q → Puts b at q xs a r
within_more q x h = record { bytes-stand = x.bytes-stand; ends = omega (arith, x.ends); same = x.same }

pub bytes-by : {b a xs ys : List ℕ} {at r p : ℕ} → Puts b at p xs a r → xs ≡ ys → Puts b at p ys a r
bytes-by x e = rw (← e) x

pub printed : {b a xs : List ℕ} {r p : ℕ} (line : List ℕ) → Puts b 0 p xs a r → 32 * p ≤ length b → xs ≡ line → Prints line a r
printed line x h e = record { bytes-stand = x.bytes-stand ∙ e; within = omega (arith, x.ends, x.same) }
