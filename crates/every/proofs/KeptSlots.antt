-- Two lists of slots compared. Assumes nothing.
use Rattle.std.proofs.Common.{◌≡◌, refl, ap, Bool, true, false, ◌&&◌, List, [], ◌∷◌, ℕ, suc, eqb, length, arith}
use Rattle.std.specs.Prelude.{Option, None, Some}
use Rattle.std.specs.List.{list_all, zip}
use Rattle.std.specs.Option.{MatchOption}
use mathlib.Core.Bool.{and-false}
use Rattle.model.specs.Slots.{same_slot, due_or}
use Rattle.model.specs.Store.{same_slots}
use Rattle.model.specs.declared.EverySlot.{EverySlot}

-- two slots, whatever their due times
abbrev pub same_key : EverySlot × EverySlot → Bool
same_key p = same_slot p.1.rule p.1.place p.1.period p.0

three : (a b c d : Bool) → (a && (b && c)) && d ≡ a && (b && (c && d))
three false b c d = refl
three true false c d = refl
three true true c d = refl

-- two lists, slot by slot
pub same_by : (xs ys : List EverySlot) → length xs ≡ length ys → list_all same_key (zip xs ys) ≡ same_slots xs ys
same_by [] [] e = refl
same_by [] (y ∷ ys) e = absurd (omega (arith, e))
same_by (x ∷ xs) [] e = absurd (omega (arith, e))
same_by (x ∷ xs) (y ∷ ys) e =
    rw (same_by xs ys (omega (arith, e))) (three (eqb x.rule y.rule) (eqb x.place y.place) (eqb x.period y.period) (same_slots xs ys))

pub other_length : (xs ys : List EverySlot) → (length xs ≡ length ys → ⊥) → same_slots xs ys ≡ false
other_length [] [] h = absurd (h refl)
other_length [] (y ∷ ys) h = refl
other_length (x ∷ xs) [] h = refl
other_length (x ∷ xs) (y ∷ ys) h =
    rw (other_length xs ys (λ e. h (ap suc e)), and-false (eqb x.period y.period), and-false (eqb x.place y.place), and-false (eqb x.rule y.rule))

-- the due time of a slot that is found, or another time
pub answered : {Q : EverySlot → Type 0} (fresh r : ℕ) (o : Option EverySlot) → MatchOption o (r ≡ fresh) Q → ((x : EverySlot) → Q x → r ≡ x.due) → r ≡ due_or fresh o
answered fresh r None h due = h
answered fresh r (Some x) h due = due x h
