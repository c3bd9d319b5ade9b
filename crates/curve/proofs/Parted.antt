-- What `partition_point` finds in the table: the entries before the place lie below v, and the others do not. Assumes nothing.
use mathlib.Core.Path.{◌≡◌, sym, subst}
use mathlib.Core.Bool.{Bool, true, false}
use mathlib.Core.List.{List}
use Prim.Native.Nat.{ℕ, ◌≤◌, ◌<◌}
use native.Mathlib.Decide.{dec_le}
use native.Mathlib.Omega.{arith}
use denote.Param.Members.{Mut}
use denote.Ref.{Bor}
use lib.Dec.{ltb}
use lib.ListN.{length, get_or}
use borrow.Author.Tests.{ltb-true, ltb-false}
use Rattle.std.specs.Fn.{Called, ComputesKey}
use Rattle.std.specs.List.Sorted.{IsPartitionPoint, IsPartitionedBy}
use Rattle.std.proofs.lemmas.List.Sorted.{IsPartitionedBy-ltb, IsNonDecreasingBy-from_default, IsPartitionPoint-from_clause}
use Rattle.curve.specs.Curve.{curve}
use Rattle.curve.proofs.Curve.{size, rises-to, last_entry}

pub record Parted (v above : ℕ) : Type 0 where
  pub inside : above < 254
  pub under : (k : ℕ) → k < above → get_or curve k 0 < v
  pub over : (k : ℕ) → above ≤ k → k < 254 → v ≤ get_or curve k 0

pub curve-parts : (v : ℕ) → IsPartitionedBy (λ x. ltb x v) curve
curve-parts v = IsPartitionedBy-ltb (λ x. x) curve v (IsNonDecreasingBy-from_default (λ x. x) curve 0 (λ i j h l. rises-to i j h (omega (arith, l, size))))

pub parted : (v above : ℕ) → v ≤ 1000000 → above ≤ length curve → IsPartitionPoint (λ x. ltb x v ≡ true) (λ x. ltb x v ≡ false) curve above → Parted v above
parted v above most bound p = record {
  inside = elim (dec_le 254 above) [ yes h ↦ let x = below 253 h in omega (arith, last_entry, x) | no h ↦ omega arith ];
  under = below;
  over = λ k a b. ltb-false (get_or curve k 0) v (p.1 k 0 a (omega (arith, size)));
}
  where
    below : (k : ℕ) → k < above → get_or curve k 0 < v
    below k h = ltb-true (get_or curve k 0) v (p.0 k 0 (omega arith) h)

-- from the clause of `partition_point`, called on the table with a closure that tests for less than v
pub found : {F : Type 0} {g : Mut F (Bor ℕ × Unit {0}) Bool} {f : F} (table : List ℕ) → table ≡ curve → (v above : ℕ) → v ≤ 1000000 → above ≤ length table
    → ((p : ℕ → Bool) → ComputesKey g p f → IsPartitionedBy p table → IsPartitionPoint (λ x. p x ≡ true) (λ x. p x ≡ false) table above)
    → ((a : Bor ℕ × Unit {0}) (r : Bool) (f' : F) → Called g f a r f' → (r ≡ ltb a.0.now v) × (f' ≡ f))
    → Parted v above
found {F} {g} {f} table is v above most bound clause computes =
    let parts : IsPartitionedBy (λ x. ltb x v) table = subst (IsPartitionedBy (λ x. ltb x v)) (sym is) (curve-parts v) in
    let point = IsPartitionPoint-from_clause (λ x. ltb x v) table above clause parts computes in
    parted v above most (rw is at bound) (subst (λ xs. IsPartitionPoint (λ x. ltb x v ≡ true) (λ x. ltb x v ≡ false) xs above) is point)
