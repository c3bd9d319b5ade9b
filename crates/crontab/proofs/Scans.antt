-- A text read byte by byte: separators, blanks, digits. Assumes nothing.
use mathlib.Core.Path.{◌≡◌, refl, sym, ap, ◌∙◌}
use mathlib.Core.Bool.{Bool, true, false, cond, not}
use mathlib.Core.List.{List, [], ◌∷◌}
use Prim.Native.Nat.{ℕ, suc, ◌+◌, ◌-◌, ◌≤◌, ◌<◌}
use native.Mathlib.Omega.{arith}
use borrow.Author.Tests.{ltb-true, ltb-false}
use lib.Dec.{leb, ltb}
use lib.ListN.{length, take, drop}
use Rattle.std.specs.Prelude.{Result, Ok, Err, Option, None, Some}
use Rattle.std.specs.List.{position_or_len}
use Rattle.std.specs.Option.{unwrap_or}
use Rattle.std.proofs.lemmas.List.{take_rest}
use Rattle.std.proofs.lemmas.List.Recursion.{is_position_or_len}
use Rattle.model.specs.Lists.{all}
use Rattle.model.specs.Digits.{is_digit, value_from}
use Rattle.model.specs.Crontab.{until, skip, is_blank, number_of, field, behind_first}
use Rattle.decimal.specs.declared.NotANumber.{NotANumber}
use Rattle.decimal.specs.declared.NotANumber.TheVariants.{NoNumber, TooLarge}
use Rattle.decimal.specs.Numbers.{argument_of}
use Rattle.crontab.specs.Scanned.{word_sized}

module _ (p : ℕ → Bool) where
  pub until-within : (l : List ℕ) → until p l ≤ length l
  unfolding until
  until-within [] = omega arith
  until-within (b ∷ bs) = go (p b) (until-within bs)
    where
      go : (t : Bool) → until p bs ≤ length bs → cond t 0 (suc (until p bs)) ≤ length (b ∷ bs)
      go true h = omega arith
      go false h = omega arith

  -- the first byte that does not pass
  pub skip-is : (l : List ℕ) → skip p l ≡ drop (until (λ b. not (p b)) l) l
  unfolding skip until
  skip-is [] = refl
  skip-is (b ∷ bs) = go (p b) (skip-is bs)
    where
      go : (t : Bool) → skip p bs ≡ drop (until (λ b. not (p b)) bs) bs → cond t (skip p bs) (b ∷ bs) ≡ drop (cond (not t) 0 (suc (until (λ b. not (p b)) bs))) (b ∷ bs)
      go true h = h
      go false h = refl

-- NUMBERS
pub number-empty : (l : List ℕ) → length l ≡ 0 → None ≡ word_sized (number_of l)
unfolding number_of
number-empty [] h = refl
number-empty (b ∷ bs) h = absurd (omega arith)

number-some : (l : List ℕ) → (length l ≡ 0 → ⊥) → number_of l ≡ cond (all is_digit l) (Some (value_from 0 l)) None
unfolding number_of
number-some [] h = absurd (h refl)
number-some (b ∷ bs) h = refl

-- a number that `decimal` reads
abbrev pub read_of : Result ℕ NotANumber → Option ℕ
read_of (Ok n) = Some n
read_of (Err e) = None

number-read : (l : List ℕ) → (length l ≡ 0 → ⊥) → read_of (argument_of 4294967295 l) ≡ word_sized (number_of l)
unfolding argument_of
number-read l h = rw (number-some l h) (go (all is_digit l))
  where
    most : (b : Bool) → read_of (cond b (Ok (value_from 0 l)) (Err TooLarge)) ≡ cond b (Some (value_from 0 l)) None
    most true = refl
    most false = refl

    go : (a : Bool) → read_of (cond a (cond (leb (value_from 0 l) 4294967295) (Ok (value_from 0 l)) (Err TooLarge)) (Err NoNumber)) ≡ word_sized (cond a (Some (value_from 0 l)) None)
    go true = most (leb (value_from 0 l) 4294967295)
    go false = refl

pub number-is : (l : List ℕ) (a : Result ℕ NotANumber) (n : Option ℕ) → (length l ≡ 0 → ⊥) → a ≡ argument_of 4294967295 l → read_of a ≡ n → n ≡ word_sized (number_of l)
number-is l a n h e q = sym q ∙ ap read_of e ∙ number-read l h

-- FIELDS
-- the first byte that passes, as `position` finds it
module _ (p : ℕ → Bool) (l : List ℕ) where
  until-first : until p l ≡ position_or_len p l
  unfolding until
  until-first = is_position_or_len (until p) p refl (λ x xs. go (p x) (until p xs)) l
    where
      go : (t : Bool) (n : ℕ) → cond t 0 (suc n) ≡ cond t 0 (1 + n)
      go true n = refl
      go false n = omega arith

  module _ {r : Option ℕ} (f : r ≡ cond (ltb (position_or_len p l) (length l)) (Some (position_or_len p l)) None) where
    pub place-or-end : unwrap_or r (length l) ≡ until p l
    place-or-end = go (ltb (until p l) (length l)) refl (rw (← until-first) at f)
      where
        go : (t : Bool) → ltb (until p l) (length l) ≡ t → r ≡ cond t (Some (until p l)) None → unwrap_or r (length l) ≡ until p l
        go true w e = rw e
        go false w e = rw e (omega (arith, ltb-false (until p l) (length l) w, until-within p l))

    pub place-some : (i : ℕ) → r ≡ Some i → (until p l < length l) × (i ≡ until p l)
    place-some i q = go (ltb (until p l) (length l)) refl (sym q ∙ (rw (← until-first) at f))
      where
        go : (t : Bool) → ltb (until p l) (length l) ≡ t → Some i ≡ cond t (Some (until p l)) None → (until p l < length l) × (i ≡ until p l)
        go true w e = (ltb-true (until p l) (length l) w, cc)
        go false w e = let z : ◌≡◌ {A = ℕ} 0 1 = cc in absurd (omega arith)

    pub place-none : r ≡ None → length l ≤ until p l
    place-none q = go (ltb (until p l) (length l)) refl (sym q ∙ (rw (← until-first) at f))
      where
        go : (t : Bool) → ltb (until p l) (length l) ≡ t → None ≡ cond t (Some (until p l)) None → length l ≤ until p l
        go true w e = let z : ◌≡◌ {A = ℕ} 0 1 = cc in absurd (omega arith)
        go false w e = ltb-false (until p l) (length l) w

-- the blanks behind the first field, counted in what is left of the line
pub behind-is : (l : List ℕ) {at : ℕ} → at ≡ until is_blank l → {r : Option ℕ} {n : ℕ}
    → (let rest = take (length l - at) (drop at l) in
    r ≡ cond (ltb (position_or_len (λ b. not (is_blank b)) rest) (length rest)) (Some (position_or_len (λ b. not (is_blank b)) rest)) None
    → n ≡ unwrap_or r (length rest) → take (length rest - n) (drop n rest) ≡ behind_first l)
unfolding behind_first
behind-is l {at = at} e {n = n} f q =
    let rest = take (length l - at) (drop at l) in
    let d : n ≡ until (λ b. not (is_blank b)) rest = q ∙ place-or-end (λ b. not (is_blank b)) rest f in
    take_rest rest n ∙ rw (d, ← skip-is is_blank rest, take_rest l at, e)

-- the loop that counts fields: field `left` of what is left is field k of the line
pub field-on : (l rest next : List ℕ) (k at : ℕ) → at < k → field (k - at) rest ≡ field k l → next ≡ behind_first rest → field (k - (at + 1)) next ≡ field k l
unfolding field
field-on l rest next k at h e b =
    let s : k - at ≡ suc (k - (at + 1)) = omega arith in
    rw b (rw s at e)

pub field-end : (l rest : List ℕ) (k at n : ℕ) → k ≤ at → field (k - at) rest ≡ field k l → n ≡ until is_blank rest → take n rest ≡ field k l
unfolding field
field-end l rest k at n h e q =
    let z : k - at ≡ 0 = omega arith in
    rw q (rw z at e)
