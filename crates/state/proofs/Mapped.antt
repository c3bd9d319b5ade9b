-- A list whose elements are replaced one after the other. Assumes nothing.
use Prim.Native.Nat.{ℕ, ◌+◌, ◌≤◌, ◌<◌}
use native.Mathlib.Numerals.{add-one}
use native.Mathlib.Omega.{arith}
use mathlib.Core.Path.{◌≡◌, refl, sym, ap, ◌∙◌}
use mathlib.Core.List.{List, [], ◌∷◌, map, map-append}
use lib.ListN.{length, take, drop, get_or, set, length-set}
use lib.Seq.{take-suc, drop-set-lt}
use Rattle.std.proofs.lemmas.List.{take_more_set}
use Rattle.std.proofs.lemmas.Grind.{drop_more_same}
use Rattle.state.proofs.Closing.{at_rest}

-- after i elements were replaced
pub record Mapped {A : Type 0} (f : A → A) (a₀ a : List A) (i : ℕ) : Type 0 where
  pub long : length a ≡ length a₀
  pub done : take i a ≡ map f (take i a₀)
  pub rest : drop i a ≡ drop i a₀

module _ {A : Type 0} (f : A → A) where
  pub mapped-none : (a : List A) → Mapped f a a 0
  mapped-none a = record { long = refl; done = refl; rest = refl }

  pub mapped-more : (a₀ a : List A) (i : ℕ) (d y : A) → Mapped f a₀ a i → i < length a → y ≡ f (get_or a i d) → Mapped f a₀ (set a i y) (i + 1)
  mapped-more a₀ a i d y inv h e =
      let same = at_rest a₀ a i d inv.rest in
      let room : i < length a₀ = omega (arith, inv.long) in
      record {
        long = length-set a i y ∙ inv.long;
        done =
            take_more_set a i y h
            ∙ rw (inv.done, e, same) (sym (rw add-one (ap (map f) (take-suc a₀ i d room) ∙ map-append f (take i a₀) (get_or a₀ i d ∷ []))));
        rest = drop-set-lt (i + 1) a i y (omega arith) ∙ drop_more_same a a₀ i inv.rest;
      }

  pub mapped-all : (a₀ a : List A) (n i : ℕ) → Mapped f a₀ a i → i ≤ n → n ≤ i → take n a ≡ map f (take n a₀)
  mapped-all a₀ a n i inv h k = let all : i ≡ n = omega arith in rw all at inv.done
