-- The numbers of activations. Assumes nothing.
use mathlib.Core.Path.{◌≡◌, refl, sym, ap, subst, ◌∙◌}
use mathlib.Core.Logic.{inl, inr}
use mathlib.Core.Bool.{Bool, true, false}
use mathlib.Core.List.{List}
use Prim.Native.Nat.{ℕ, suc, ◌+◌, ◌^◌, ◌≤◌, ◌<◌}
use native.Mathlib.Omega.{arith}
use lib.Dec.{leb, ltb, eqb}
use lib.ListN.{drop}
use borrow.Author.Tests.{ltb-true, ltb-false, le-leb, lt-leb, eqb-true, eqb-false}
use Rattle.std.specs.Prelude.{Option, None, Some}
use Rattle.std.specs.Option.{SomeIff}
use Rattle.std.proofs.lemmas.Bool.{and_parts}
use Rattle.words.specs.Saturating.{saturating_add, max64}
use Rattle.model.specs.Activate.{with_number}
use Rattle.model.specs.Codec.{wide}
use Rattle.model.specs.Layout.{row_fits, rows_fit}
use Rattle.model.specs.State as model
use Rattle.model.specs.State.{next_number}
use Rattle.model.proofs.RowLaws.{wide_laws}
use Rattle.rows.specs.Places.{laid, row_at}
use Rattle.state.specs.Cuts.{cut}
use Rattle.state.specs.Meaning.{part_sizes, last_part, beyond_part, place_of, part, meaning_of, base_in, last_in, beyond_in, OnlyBeyond, meaning, base, Sound, MeansSoundly}
use Rattle.state.proofs.Frame.{shaped, Changed, changed-laid, across, sound-by, part-is}
use Rattle.state.proofs.Records.{both_words, wide_fits}

-- the sum of a number and one, where it is one of 64 bits
pub one-more : (last number : ℕ) (o : Option ℕ) → o ≡ Some number → SomeIff o (last + 1 < 2 ^ 64) (last + 1) → (last < max64) × (number ≡ last + 1)
one-more last number o is h = let k = subst (λ (p : Option ℕ). SomeIff p (last + 1 < 2 ^ 64) (last + 1)) is h in (omega (arith, k.0), k.1)

pub no-more : (last : ℕ) (o : Option ℕ) → o ≡ None → SomeIff o (last + 1 < 2 ^ 64) (last + 1) → max64 ≤ last
no-more last o is h = go (ltb (last + 1) (2 ^ 64)) refl
  where
    go : (t : Bool) → ltb (last + 1) (2 ^ 64) ≡ t → max64 ≤ last
    go true e = absurd (subst (λ (p : Option ℕ). SomeIff p (last + 1 < 2 ^ 64) (last + 1)) is h (ltb-true (last + 1) (2 ^ 64) e))
    go false e = let k = ltb-false (last + 1) (2 ^ 64) e in omega arith

last-at : (w : List ℕ) → row_at wide w (place_of last_part) ≡ last_in (cut part_sizes w)
unfolding row_at
last-at w = sym (ap wide.get (part-is last_part (omega arith) w) ∙ both_words (drop (place_of last_part) w))

beyond-at : (w : List ℕ) → row_at wide w (place_of beyond_part) ≡ beyond_in (cut part_sizes w)
unfolding row_at
beyond-at w = sym (ap wide.get (part-is beyond_part (omega arith) w) ∙ both_words (drop (place_of beyond_part) w))

last-is : (w : List ℕ) → last_in (cut part_sizes w) + beyond_in (cut part_sizes w) ≡ (meaning w).last_number
unfolding meaning
last-is w = refl

-- where the last number has 64 bits, none was needed beyond them
pub none-beyond : (w : List ℕ) → Sound w → (meaning w).last_number ≤ max64 → beyond_in (cut part_sizes w) ≡ 0
none-beyond w s h = by s.parts.beyond
  where
    by : OnlyBeyond (cut part_sizes w) → beyond_in (cut part_sizes w) ≡ 0
    by (inl z) = z
    by (inr f) = omega (arith, last-is w)

module _ (w : List ℕ) (s : Sound w) where
  last-small : last_in (cut part_sizes w) ≤ max64
  unfolding rows_fit
  last-small =
      let p = part last_part w in
      let g = (wide_laws.writes p (and_parts (row_fits wide.cells p) true (s.parts.fit last_part (omega arith))).0).1 in
      let less = ltb-true (wide.get p) 18446744073709551616 g in
      omega arith

  -- the test for 32
  pub last_fits : (more : ℕ) → more ≡ row_at wide w (place_of beyond_part) → eqb more 0 ≡ leb (meaning w).last_number max64
  last_fits more b = go (eqb more 0) refl s.parts.beyond
    where
      is : more ≡ beyond_in (cut part_sizes w)
      is = b ∙ beyond-at w

      go : (t : Bool) → eqb more 0 ≡ t → OnlyBeyond (cut part_sizes w) → t ≡ leb (meaning w).last_number max64
      go true e o = let z = eqb-true more 0 e in sym (le-leb (meaning w).last_number max64 (omega (arith, is, last-is w, last-small)))
      go false e (inl z) = absurd (eqb-false more 0 e (is ∙ z))
      go false e (inr f) = let n = eqb-false more 0 e in sym (lt-leb (meaning w).last_number max64 (omega (arith, is, last-is w, f)))

  module _ (last : ℕ) (a : last ≡ row_at wide w (place_of last_part)) where
    abbrev taken : ℕ → model.Volatile
    taken n = with_number n (meaning w)

    -- below 2^64 - 1, and the number behind it
    whole : last < max64 → beyond_in (cut part_sizes w) ≡ 0
    whole h = by s.parts.beyond
      where
        by : OnlyBeyond (cut part_sizes w) → beyond_in (cut part_sizes w) ≡ 0
        by (inl z) = z
        by (inr f) = absurd (omega (arith, a ∙ last-at w, f))

    pub next-below : (number : ℕ) → (last < max64) × (number ≡ last + 1) → number ≡ next_number (meaning w).last_number
    unfolding saturating_add
    next-below number h = omega (arith, h.1, a ∙ last-at w, last-is w, whole h.0)

    takes-last : last < max64 → (w' : List ℕ) → w' ≡ laid w (place_of last_part) (wide.put (last + 1)) → MeansSoundly w' (base w) (with_number (suc (meaning w).last_number) (meaning w))
    unfolding cut meaning base
    takes-last h w' e =
        let q = wide_fits (last + 1) (omega arith) in
        let c : Changed w w' last_part (wide.put (last + 1)) = rw e (changed-laid last_part (omega arith) w (wide.put (last + 1)) (shaped w s) refl q.1) in
        let is : last ≡ last_in (cut part_sizes w) = a ∙ last-at w in
        let o = across w s in
        let n : wide.get (wide.put (last + 1)) + beyond_in (cut part_sizes w) ≡ suc (last_in (cut part_sizes w) + beyond_in (cut part_sizes w)) = rw q.0 (omega arith) in
        record { says = ap meaning_of c.cuts ∙ ap taken n; sound = sound-by w w' last_part (wide.put (last + 1)) c (o.0, o.1, o.2, o.3, o.4, o.5, inl (whole h)); based = ap base_in c.cuts }

    -- behind it
    pub takes-number : (number : ℕ) → (last < max64) × (number ≡ last + 1) → (w' : List ℕ) → w' ≡ laid w (place_of last_part) (wide.put number) → MeansSoundly w' (base w) (with_number (suc (meaning w).last_number) (meaning w))
    takes-number number h w' e = takes-last h.0 w' (e ∙ ap (λ (n : ℕ). laid w (place_of last_part) (wide.put n)) h.1)

    pub next-beyond : max64 ≤ last → max64 ≡ next_number (meaning w).last_number
    unfolding saturating_add
    next-beyond h = omega (arith, a ∙ last-at w, last-is w)

    module _ (more : ℕ) (b : more ≡ row_at wide w (place_of beyond_part)) where
      pub beyond-small : max64 ≤ last → (meaning w).last_number < max64 + max64 → more < max64
      beyond-small h l = omega (arith, a ∙ last-at w, b ∙ beyond-at w, last-is w)

      pub takes-beyond : max64 ≤ last → (meaning w).last_number < max64 + max64 → (w' : List ℕ) → w' ≡ laid w (place_of beyond_part) (wide.put (more + 1)) → MeansSoundly w' (base w) (with_number (suc (meaning w).last_number) (meaning w))
      unfolding cut meaning base
      takes-beyond h l w' e =
          let small = beyond-small h l in
          let q = wide_fits (more + 1) (omega arith) in
          let c : Changed w w' beyond_part (wide.put (more + 1)) = rw e (changed-laid beyond_part (omega arith) w (wide.put (more + 1)) (shaped w s) refl q.1) in
          let is : more ≡ beyond_in (cut part_sizes w) = b ∙ beyond-at w in
          let full : last_in (cut part_sizes w) ≡ max64 = let f = last-small in omega (arith, a ∙ last-at w) in
          let o = across w s in
          let n : last_in (cut part_sizes w) + wide.get (wide.put (more + 1)) ≡ suc (last_in (cut part_sizes w) + beyond_in (cut part_sizes w)) = rw q.0 (omega arith) in
          record { says = ap meaning_of c.cuts ∙ ap taken n; sound = sound-by w w' beyond_part (wide.put (more + 1)) c (o.0, o.1, o.2, o.3, o.4, o.5, inr full); based = ap base_in c.cuts }
