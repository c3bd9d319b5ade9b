-- The words of a rule's lists, as `list_of` finds them.
use mathlib.Core.Path.{◌≡◌, refl, sym}
use mathlib.Core.List.{List, []}
use Prim.Native.Nat.{ℕ, zero, suc, ◌+◌, ◌-◌, ◌*◌, ◌/◌, ◌≤◌, ◌<◌}
use native.Mathlib.Omega.{arith}
use lib.ListN.{length, drop_of_length-le}
use Rattle.flat.specs.Words.{body_words, list_words}
use Rattle.flat.proofs.Parts.{no_row}

module _ (w : List ℕ) (own : ℕ) where
  -- the own list would begin behind the end: no list has words
  pub none-there : (n : ℕ) → length w / 4 < own → [] ≡ list_words w own n
  none-there zero h =
      let b : length w ≤ own * 4 = omega arith in
      sym (drop_of_length-le w b)
  none-there (suc p) h = no_row w (own + p) (omega arith)

  -- the body of the after in front of list n
  pub body-there : (n k : ℕ) → (n ≡ 0 → ⊥) → k ≡ own + (n - 1) → body_words w k ≡ list_words w own n
  body-there zero k h e = absurd (h refl)
  body-there (suc p) k h e = let z : k ≡ own + p = omega arith in rw z refl
