-- `flat::records::find_block` meets its contract: the first place that passes is that of the first record of the name. Assumes nothing.
use mathlib.Core.Path.{◌≡◌, refl, sym, ◌∙◌}
use mathlib.Core.Bool.{Bool, true, false, cond}
use mathlib.Core.List.{List, [], map}
use Prim.Native.Nat.{ℕ, zero, suc, ◌+◌, ◌/◌, ◌<◌}
use native.Mathlib.Numerals.{add-one}
use native.Mathlib.Omega.{arith}
use native.Mathlib.Decide.{dec_le}
use borrow.Author.Tests.{lt-ltb, le-ltb, ltb-true}
use borrow.Author.Rules.{rules}
use lib.Dec.{eqb, ltb}
use lib.ListN.{length}
use Rattle.std.specs.Prelude.{Option, None, Some}
use Rattle.std.specs.Option.{option_map}
use Rattle.std.specs.List.{range_with_len, position, position_or_len}
use Rattle.std.proofs.lemmas.Iterator.{YieldsList-from_range}
use Rattle.std.proofs.lemmas.Iterator.Search.{position_from_yields_List}
use Rattle.std.proofs.lemmas.List.FromFn.{length-range_with_len}
use Rattle.std.proofs.lemmas.Option.{none-some, same_Some}
use Rattle.model.specs.declared.Record.{Record}
use Rattle.model.specs.Lists.{find, up_from}
use Rattle.model.specs.Rules.{record_in}
use Rattle.model.specs.Flat.{block_named}
use Rattle.flat.proofs.records.find_block.Goals as goal

module _ (t : List ℕ) (name : ℕ) where
  abbrev named : ℕ → Bool
  named i = eqb (record_in t i).kind name

  abbrev first : ℕ → ℕ → ℕ
  first i n = position_or_len named (range_with_len i n)

  abbrev searched : ℕ → ℕ → Option Record
  searched i n = find (λ (r : Record). eqb r.kind name) (map (record_in t) (up_from i n))

  abbrev at_first : ℕ → ℕ → ℕ → Option Record
  at_first i n f = cond (ltb f n) (Some (record_in t (i + f))) None

  one-on : (i n f g : ℕ) → f ≡ suc g → at_first (suc i) n g ≡ at_first i (suc n) f
  one-on i n f g e =
      let z : i + suc g ≡ suc i + g = omega arith in
      elim (dec_le (suc g) n) [
        | yes h ↦ rw (e, z, lt-ltb g n h, lt-ltb (suc g) (suc n) (omega arith)) refl
        | no h ↦ rw (e, z, le-ltb g n (omega arith), le-ltb (suc g) (suc n) (omega arith)) refl
      ]

  at-once : (i n f : ℕ) → f ≡ 0 → Some (record_in t i) ≡ at_first i (suc n) f
  at-once i n f e = let z : i + 0 ≡ i = omega arith in rw (e, z, lt-ltb 0 (suc n) (omega arith)) refl

  found : (i n : ℕ) → searched i n ≡ at_first i n (first i n)
  found i zero = refl
  found i (suc n) = go (named i) refl (found (suc i) n)
    where
      go : (b : Bool) → named i ≡ b → searched (suc i) n ≡ at_first (suc i) n (first (suc i) n) → searched i (suc n) ≡ at_first i (suc n) (first i (suc n))
      go true e h =
          let s : searched i (suc n) ≡ Some (record_in t i) = rw e refl in
          let f : first i (suc n) ≡ 0 = rw e refl in
          s ∙ at-once i n (first i (suc n)) f
      go false e h =
          let s : searched i (suc n) ≡ searched (suc i) n = rw e refl in
          let f : first i (suc n) ≡ suc (first (suc i) n) = rw (e, add-one i) (omega arith) in
          s ∙ h ∙ one-on i n (first i (suc n)) (first (suc i) n) f

  at_cond : (b : Bool) (f : ℕ) → option_map (record_in t) (cond b (Some f) None) ≡ cond b (Some (record_in t (0 + f))) None
  at_cond true f = let z : 0 + f ≡ f = omega arith in rw z refl
  at_cond false f = refl

  below : (n f k : ℕ) (b : Bool) → ltb f n ≡ b → Some k ≡ cond b (Some f) None → k < n
  below n f k true h e = let q : k ≡ f = same_Some _ _ e in omega (arith, ltb-true f n h)
  below n f k false h e = absurd (none-some _ (sym e))

  module _ (r : Option ℕ) (p : r ≡ position named (range_with_len 0 (length t / 8))) where
    abbrev n : ℕ
    n = length t / 8

    place-is : r ≡ cond (ltb (first 0 n) n) (Some (first 0 n)) None
    place-is = rw (length-range_with_len 0 n) at p

    is : option_map (record_in t) r ≡ block_named [] t name
    unfolding block_named
    is = rw place-is (at_cond _ _ ∙ sym (found 0 n))

    inside : (k : ℕ) → r ≡ Some k → k < n
    inside k e = below n (first 0 n) k _ refl (sym e ∙ place-is)

pub returns : goal.returns
returns c =
    let t = c.args.blocks.now in
    let name = c.args.name in
    let n = length t / 8 in
    let p = position_from_yields_List (named t name) _ _ _ c.position.ensures.ran (YieldsList-from_range 0 n n refl (omega arith)) (λ x b q k. search rules) in
    record { result_value = is t name _ p; upper_bound = inside t name _ p }
