-- Decimal numbers, read digit by digit. Assumes nothing.
use mathlib.Core.Path.{◌≡◌, refl, sym}
use mathlib.Core.Bool.{Bool, true, false, cond}
use mathlib.Core.List.{List, [], ◌∷◌}
use Rattle.std.specs.Prelude.{None, Some, Ok, Err}
use Rattle.std.proofs.lemmas.Option.{none-some, same_Some}
use Prim.Native.Nat.{ℕ, ◌+◌, ◌*◌, ◌-◌, ◌^◌, ◌≤◌, ◌<◌}
use native.Mathlib.Nat.{le_trans}
use native.Mathlib.Numerals.{add-one}
use native.Mathlib.Omega.{arith}
use borrow.Author.Tests.{le-leb, lt-leb, leb-true, leb-false}
use lib.Dec.{leb}
use lib.ListN.{length, get_or, drop, drop_of_length-le}
use lib.Seq.{drop-cons}
use Rattle.words.specs.Saturating.{max64}
use Rattle.model.specs.Lists.{all}
use Rattle.model.specs.Digits.{is_digit, value_from}
use Rattle.decimal.specs.Numbers.{argument_of, NoNumber, TooLarge, fitted}

-- digits that follow only add
pub value_grows : (l : List ℕ) (n : ℕ) → n ≤ value_from n l
unfolding value_from
value_grows [] n = omega arith
value_grows (b ∷ bs) n = le_trans (omega arith) (value_grows bs (10 * n + (b - 48)))

-- The loop that finds what digits stand for. Its invariant at i: `value_from n (drop i l) ≡ value_from 0 l`.
module _ (l : List ℕ) (i n : ℕ) (e : value_from n (drop i l) ≡ value_from 0 l) where
  pub value-goes : (m : ℕ) → i < length l → m ≡ n * 10 + (get_or l i 0 - 48) → value_from m (drop (i + 1) l) ≡ value_from 0 l
  unfolding value_from
  value-goes m h q =
      let k : m ≡ 10 * n + (get_or l i 0 - 48) = omega arith in
      rw (k, add-one) (rw (drop-cons l i 0) at e)

  pub value-over : i < length l → 2 ^ 64 ≤ n * 10 + (get_or l i 0 - 48) → None ≡ fitted (value_from 0 l)
  value-over h big =
      let s : max64 < value_from 0 l = omega (arith, value_grows (drop (i + 1) l) (n * 10 + (get_or l i 0 - 48)), value-goes _ h refl) in
      rw (lt-leb (value_from 0 l) max64 s)

  pub value-ends : length l ≤ i → n < 2 ^ 64 → Some n ≡ fitted (value_from 0 l)
  unfolding value_from
  value-ends h s =
      let v : n ≡ value_from 0 l = rw (drop_of_length-le l h) at e in
      rw (← v, le-leb n max64 (omega arith))

-- a number that is taken is at most the largest
pub taken-most : (most : ℕ) (w : List ℕ) (n : ℕ) → argument_of most w ≡ Ok n → n ≤ most
unfolding argument_of
taken-most most w n e = go (all is_digit w) (leb (value_from 0 w) most) refl e
  where
    go : (a b : Bool) → leb (value_from 0 w) most ≡ b → cond a (cond b (Ok (value_from 0 w)) (Err TooLarge)) (Err NoNumber) ≡ Ok n → n ≤ most
    go true true l h = let v : value_from 0 w ≡ n = cc in rw (← v) (leb-true (value_from 0 w) most l)
    go true false l h = let z : ◌≡◌ {A = ℕ} 0 1 = cc in absurd (omega arith)
    go false b l h = let z : ◌≡◌ {A = ℕ} 0 1 = cc in absurd (omega arith)

-- what the digits stand for, where 64 bits hold it and where they do not
fits-is : (n m : ℕ) → Some m ≡ fitted n → m ≡ n
fits-is n m e = go (leb n max64) e
  where
    go : (b : Bool) → Some m ≡ cond b (Some n) None → m ≡ n
    go true h = same_Some _ _ h
    go false h = absurd (none-some _ (sym h))

over-is : (n : ℕ) → None ≡ fitted n → max64 < n
over-is n e = go (leb n max64) refl e
  where
    go : (b : Bool) → leb n max64 ≡ b → None ≡ cond b (Some n) None → max64 < n
    go true l h = absurd (none-some _ h)
    go false l h = leb-false n max64 l

module _ (most : ℕ) (w : List ℕ) where
  pub no_digits : false ≡ all is_digit w → Err NoNumber ≡ argument_of most w
  unfolding argument_of
  no_digits e = rw (← e)

  module _ (e : true ≡ all is_digit w) where
    large : most < value_from 0 w → Err TooLarge ≡ argument_of most w
    unfolding argument_of
    large h = rw (← e, lt-leb (value_from 0 w) most h)

    pub too_many : None ≡ fitted (value_from 0 w) → most ≤ max64 → Err TooLarge ≡ argument_of most w
    too_many o h = large (omega (arith, over-is _ o))

    module _ (n : ℕ) (v : Some n ≡ fitted (value_from 0 w)) where
      pub above : most < n → Err TooLarge ≡ argument_of most w
      above h = large (rw (← fits-is _ n v) h)

      pub within : n ≤ most → Ok n ≡ argument_of most w
      unfolding argument_of
      within h = rw (← e, ← fits-is _ n v, le-leb n most h)
