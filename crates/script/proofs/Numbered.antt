-- The row of the call of a number. Assumes nothing.
use mathlib.Core.Path.{◌≡◌, sym, ap, ◌∙◌}
use mathlib.Core.List.{List, [], map}
use Prim.Native.Nat.{ℕ, ◌≤◌, ◌<◌}
use lib.ListN.{length, get_or}
use Rattle.std.proofs.lemmas.List.{get_or-map, get_or_past, length-map}
use Rattle.script.specs.Table.{Call, row, rows, calls, Nothing, all_rows, row_of}

module _ {X Y : Type 0} (f : X → Y) (xs : List X) (i : ℕ) where
  pub there : (x : X) (d : Y) → i < length xs → x ≡ get_or xs i x → f x ≡ get_or (map f xs) i d
  there x d h e = ap f e ∙ sym (get_or-map f xs i x d h)

  pub past : (d : Y) → length xs ≤ i → d ≡ get_or (map f xs) i d
  past d h = sym (get_or_past (map f xs) i d (rw length-map h))

pub row-there : (k : ℕ) (x : Call) → k < 19 → x ≡ get_or calls k x → rows x ≡ row_of all_rows k
unfolding all_rows calls
row-there k x h e = there rows calls k x (row "" [] Nothing) h e

pub row-past : (k : ℕ) → 19 ≤ k → row "" [] Nothing ≡ row_of all_rows k
unfolding all_rows calls
row-past k h = past rows calls k (row "" [] Nothing) h
