-- The words of a snapshot beside their largest values: a word that is missing is 0, which is in range. Assumes nothing.
use mathlib.Core.Path.{◌≡◌, refl, sym}
use mathlib.Core.Bool.{Bool}
use mathlib.Core.List.{List, [], ◌∷◌}
use Prim.Native.Nat.{ℕ}
use native.Mathlib.Omega.{arith}
use lib.Dec.{leb}
use lib.ListN.{length, get_or}
use borrow.Author.Tests.{le-leb}
use Rattle.std.specs.List.{zip}
use Rattle.model.specs.Lists.{all, every}
use Rattle.model.specs.Snapshot.{head_most, head_fits}
use Rattle.model.proofs.TestLaws.{every_first}
use Rattle.fields.proofs.Every.{every_holds}

abbrev pub at_most : ℕ × ℕ → Bool
at_most p = leb p.0 p.1

each : (s m : List ℕ) → all at_most (zip s m) ≡ every (length m) (λ j. leb (get_or s j 0) (get_or m j 0))
unfolding every
each [] m = sym (every_holds (λ j. leb (get_or [] j 0) (get_or m j 0)) (length m) (λ j l. le-leb 0 (get_or m j 0) (omega arith)))
each (w ∷ s) [] = refl
each (w ∷ s) (most ∷ m) = rw (each s m) (sym (every_first (length m) (λ j. leb (get_or (w ∷ s) j 0) (get_or (most ∷ m) j 0))))

pub head-words : (s : List ℕ) → all at_most (zip s head_most) ≡ every 14 (head_fits s)
head-words s = each s head_most
