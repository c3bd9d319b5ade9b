-- The tests of the library's ranges, in the words of the specification. Assumes nothing.
use mathlib.Core.Path.{◌≡◌, refl, sym}
use mathlib.Core.Bool.{Bool, true, false, cond}
use Prim.Native.Nat.{ℕ}
use native.Mathlib.Omega.{arith}
use lib.Dec.{leb, ltb, eqb}
use borrow.Author.Tests.{le-leb, lt-leb, ltb-true, ltb-false, eqb-true, eqb-false}
use Rattle.std.specs.Ordering.{is_le, nat_cmp}
use Rattle.std.proofs.Common.{Less, Equal, Greater}

pub le-is : (a b : ℕ) → is_le (nat_cmp a b) ≡ leb a b
le-is a b = by (ltb a b) refl (eqb a b) refl
  where
    by : (p : Bool) → ltb a b ≡ p → (q : Bool) → eqb a b ≡ q → is_le (cond p Less (cond q Equal Greater)) ≡ leb a b
    by true l q e = sym (le-leb a b (omega (arith, ltb-true a b l)))
    by false l true e = sym (le-leb a b (omega (arith, eqb-true a b e)))
    by false l false e =
        let n = eqb-false a b e in
        let m = ltb-false a b l in
        sym (lt-leb a b (omega (arith, m, n)))
