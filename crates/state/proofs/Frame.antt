-- One part of a state changes, and what the words mean with it. Assumes nothing.
use mathlib.Core.Path.{◌≡◌, refl, sym, ap, subst, ◌∙◌}
use mathlib.Core.Bool.{Bool, true, false}
use mathlib.Core.List.{List, [], map}
use Prim.Native.Nat.{ℕ, ◌+◌, ◌*◌, ◌≤◌, ◌<◌}
use native.Mathlib.Nat.{add-zero}
use native.Mathlib.Omega.{arith}
use lib.Dec.{eqb}
use lib.ListN.{length, get_or, take, drop, set, get_or-map}
use lib.Seq.{get_or-set_same, get_or-set_other, get_or-take, get_or-drop}
use borrow.Author.Tests.{eqb-true, eqb-false}
use borrow.Rule.Slice.PartMut.{put_mid}
use Rattle.model.specs.Layout.{Part, fixed, counted, size_of, part_fits}
use Rattle.model.specs.Codec.{Row, wide, maybe, most, rows_at}
use Rattle.model.specs.Lists.{all}
use Rattle.model.specs.Parts.{any, variable_row, timer_row, slot_row}
use Rattle.model.specs.State.{with_rest, with_enabled, with_last_activation, with_cycle_pos, with_vars, with_timers, with_every, with_prev_week_min, with_counters}
use Rattle.model.specs.Store.{variable_of, text_short}
use Rattle.model.specs.World.{is_one}
use Rattle.model.specs.declared.NamedTimer.{NamedTimer}
use Rattle.model.specs.declared.EverySlot.{EverySlot}
use Rattle.model.proofs.PartsLaws.{variable-laws, timer-laws, slot_laws}
use Rattle.model.proofs.RowLaws.{RowLaws}
use Rattle.rows.specs.Places.{laid}
use Rattle.rows.proofs.Writing.{laid-long}
use Rattle.state.specs.Cuts.{cut}
use Rattle.state.specs.Meaning.{state_parts, part_sizes, place_of, words_in, state_words, part, bits_part, activations_part, positions_part, variables_part, timers_part, slots_part, pending_part, week_part, counters_part, rules_in, stored_in, accepted_in, base_in, records_in, meaning_of, SoundOf, OnlyBeyond, unset_from, Below, meaning, base, rules_of, Sound, MeansSoundly, Holds, Counted}
use Rattle.state.proofs.Cutting.{cut-long, cut_at, cut-laid, piece-end, piece-long, part-laid, laid-within}
use Rattle.state.proofs.Typed.{holds-get, holds-fit, holds-long, holds-count, holds-few, fit-holds}

pub part-word : (a k : ℕ) (w : List ℕ) (i : ℕ) → i < k → get_or (take k (drop a w)) i 0 ≡ get_or w (a + i) 0
part-word a k w i h = get_or-take k (drop a w) i 0 h ∙ get_or-drop a w i 0

-- THE LAW OF THE LAYOUT -----------------------------------------------------------------------------------------------------------------------
-- the shape of each part
pub record Shaped (w : List ℕ) : Type 0 where
  pub long : length w ≡ state_words
  pub fit : (u : ℕ) → u < 15 → part_fits (get_or state_parts u (fixed 0 [])) (part u w) ≡ true

pub shaped : (w : List ℕ) → Sound w → Shaped w
shaped w s = record { long = s.long; fit = s.parts.fit }

-- w' is w with p as its part t
pub record Changed (w w' : List ℕ) (t : ℕ) (p : List ℕ) : Type 0 where
  pub cuts : cut part_sizes w' ≡ set (cut part_sizes w) t p
  pub shape : Shaped w'

fits-set : (ps : List (List ℕ)) (t : ℕ) (p : List ℕ) → t < length ps → ((u : ℕ) → u < 15 → part_fits (get_or state_parts u (fixed 0 [])) (get_or ps u []) ≡ true)
    → part_fits (get_or state_parts t (fixed 0 [])) p ≡ true → (u : ℕ) → u < 15 → part_fits (get_or state_parts u (fixed 0 [])) (get_or (set ps t p) u []) ≡ true
fits-set ps t p l f g u h = by (eqb u t) refl
  where
    by : (b : Bool) → eqb u t ≡ b → part_fits (get_or state_parts u (fixed 0 [])) (get_or (set ps t p) u []) ≡ true
    by true e =
        let q = eqb-true u t e in
        subst (λ (v : ℕ). part_fits (get_or state_parts v (fixed 0 [])) (get_or (set ps t p) v []) ≡ true) (sym q) (rw (get_or-set_same ps t p [] l) g)
    by false e = rw (get_or-set_other ps t u p [] (eqb-false u t e)) (f u h)

module _ (t : ℕ) (h : t < 15) where
  -- what is lent
  pub part-is : (w : List ℕ) → part t w ≡ take (words_in t) (drop (place_of t) w)
  part-is w = cut_at part_sizes w t h

  pub lent-long : (w : List ℕ) → length w ≡ state_words → length (take (words_in t) (drop (place_of t) w)) ≡ words_in t
  lent-long w l = piece-long part_sizes w t h (omega arith)

  pub part-long : (w : List ℕ) → length w ≡ state_words → length (part t w) ≡ words_in t
  part-long w l = ap length (part-is w) ∙ lent-long w l

  pub part_at : (w : List ℕ) (i : ℕ) → i < words_in t → get_or (part t w) i 0 ≡ get_or w (place_of t + i) 0
  part_at w i l = ap (λ (p : List ℕ). get_or p i 0) (part-is w) ∙ part-word (place_of t) (words_in t) w i l

  -- a part that is written
  pub changed-laid : (w p : List ℕ) → Shaped w → length p ≡ words_in t → part_fits (get_or state_parts t (fixed 0 [])) p ≡ true → Changed w (laid w (place_of t) p) t p
  changed-laid w p s l f =
      let end = piece-end part_sizes t h in
      let e : cut part_sizes (laid w (place_of t) p) ≡ set (cut part_sizes w) t p = cut-laid part_sizes w p t h l (omega (arith, s.long)) in
      record {
        cuts = e;
        shape =
            record {
              long = laid-long w (place_of t) p (omega (arith, s.long, end, l)) ∙ s.long;
              fit = λ u v. ap (λ (x : List (List ℕ)). part_fits (get_or state_parts u (fixed 0 [])) (get_or x u [])) e ∙ fits-set (cut part_sizes w) t p (rw (cut-long part_sizes w) h) s.fit f u v;
            };
      }

  -- a part that was lent
  pub changed-part : (w p : List ℕ) → Shaped w → length p ≡ words_in t → part_fits (get_or state_parts t (fixed 0 [])) p ≡ true → Changed w (put_mid (place_of t) (words_in t) w p) t p
  changed-part w p s l f = rw (part-laid w p (place_of t) (words_in t) l) (changed-laid w p s l f)

  -- words within a part
  pub changed-words : (w ys : List ℕ) (j : ℕ) → Shaped w → j + length ys ≤ words_in t → part_fits (get_or state_parts t (fixed 0 [])) (laid (part t w) j ys) ≡ true → Changed w (laid w (place_of t + j) ys) t (laid (part t w) j ys)
  changed-words w ys j s l f =
      let end = piece-end part_sizes t h in
      let long = part-long w s.long in
      let e : laid w (place_of t + j) ys ≡ laid w (place_of t) (laid (part t w) j ys) =
      laid-within w ys (place_of t) j (words_in t) (omega (arith, s.long, end)) l ∙ ap (λ (p : List ℕ). laid w (place_of t) (laid p j ys)) (sym (part-is w)) in
      subst (λ (y : List ℕ). Changed w y t (laid (part t w) j ys)) (sym e) (changed-laid w (laid (part t w) j ys) s (laid-long (part t w) j ys (rw long l) ∙ long) f)

-- the words of a table that are lent
module _ {A : Type 0} (r : Row A) (laws : RowLaws r) (t n : ℕ) (h : t < 15) (is : get_or state_parts t (fixed 0 []) ≡ counted n r.cells) where
  table-words : words_in t ≡ 1 + n * length r.cells
  table-words = get_or-map size_of state_parts t (fixed 0 []) ∙ ap size_of is

  pub table-part : (w : List ℕ) → Sound w → Counted n r (part t w)
  table-part w s = fit-holds r laws n (part t w) (subst (λ (x : Part). part_fits x (part t w) ≡ true) is (s.parts.fit t h)) (part-long t h w s.long ∙ table-words)

  pub table-lent : (w : List ℕ) → Sound w → Counted n r (take (words_in t) (drop (place_of t) w))
  table-lent w s = rw (part-is t h w) at (table-part w s)

  -- its count, and its row i, where they stand
  pub table-count : (w : List ℕ) → Sound w → get_or w (place_of t) 0 ≡ length ((most n r).get (part t w))
  table-count w s =
      let e : place_of t + 0 ≡ place_of t = add-zero (place_of t) in
      ap (λ (i : ℕ). get_or w i 0) (sym e) ∙ sym (part_at t h w 0 (rw table-words (omega arith))) ∙ holds-count r laws n (part t w) ((most n r).get (part t w)) (table-part w s)

  pub table-few : (w : List ℕ) → Sound w → length ((most n r).get (part t w)) ≤ n
  table-few w s = holds-few r laws n (part t w) ((most n r).get (part t w)) (table-part w s)

  -- and come back
  pub table-back : (w p : List ℕ) (l : List A) → Sound w → Holds n r p l → Changed w (put_mid (place_of t) (words_in t) w p) t p
  table-back w p l s g = changed-part t h w p (shaped w s) (holds-long r laws n p l g ∙ sym table-words) (rw is (holds-fit r laws n p l g))

  -- and that are written
  pub table-laid : (w p : List ℕ) (l : List A) → Sound w → Holds n r p l → Changed w (laid w (place_of t) p) t p
  table-laid w p l s g = changed-laid t h w p (shaped w s) (holds-long r laws n p l g ∙ sym table-words) (rw is (holds-fit r laws n p l g))

-- WHAT THE WORDS MEAN WITH IT -----------------------------------------------------------------------------------------------------------------
-- the facts that are not of one part alone, or not of its shape
abbrev pub Across : List (List ℕ) → Type 0
Across ps =
    (stored_in ps ≤ get_or (get_or ps pending_part []) 0 0)
    × Below (accepted_in ps) (drop (stored_in ps) (records_in ps))
    × (all text_short ((most 16 variable_row).get (get_or ps variables_part [])) ≡ true)
    × (unset_from (rules_in ps) 1 (get_or ps bits_part []) ≡ true)
    × (unset_from (rules_in ps) 3 (get_or ps activations_part []) ≡ true)
    × (unset_from (rules_in ps) 2 (get_or ps positions_part []) ≡ true)
    × OnlyBeyond ps

pub across : (w : List ℕ) → Sound w → Across (cut part_sizes w)
across w s = (s.parts.stored, s.parts.offsets, s.parts.texts, s.parts.bits, s.parts.activations, s.parts.positions, s.parts.beyond)

pub sound-of : (w : List ℕ) (ps : List (List ℕ)) → cut part_sizes w ≡ ps → Shaped w → Across ps → Sound w
sound-of w ps e h a =
    record {
      long = h.long;
      parts =
          subst SoundOf (sym e)
          (record {
            fit = λ u v. sym (ap (λ (x : List (List ℕ)). part_fits (get_or state_parts u (fixed 0 [])) (get_or x u [])) e) ∙ h.fit u v;
            stored = a.0;
            offsets = a.1;
            texts = a.2;
            bits = a.3;
            activations = a.4;
            positions = a.5;
            beyond = a.6;
          });
    }

pub sound-by : (w w' : List ℕ) (t : ℕ) (p : List ℕ) → (c : Changed w w' t p) → Across (set (cut part_sizes w) t p) → Sound w'
sound-by w w' t p c a = sound-of w' (set (cut part_sizes w) t p) c.cuts c.shape a

module _ (w w' p : List ℕ) (s : Sound w) where
  pub bits-changed : Changed w w' bits_part p → unset_from (rules_of w) 1 p ≡ true → MeansSoundly w' (base w) (with_rest (with_enabled (map is_one (take (rules_of w) p)) (meaning w).rest) (meaning w))
  unfolding cut meaning base rules_of
  bits-changed c u =
      let a = across w s in
      record { says = ap meaning_of c.cuts; sound = sound-by w w' bits_part p c (a.0, a.1, a.2, u, a.4, a.5, a.6); based = ap base_in c.cuts }

  pub activations-changed : Changed w w' activations_part p → unset_from (rules_of w) 3 p ≡ true → MeansSoundly w' (base w) (with_rest (with_last_activation (take (rules_of w) (rows_at (maybe wide) 64 p)) (meaning w).rest) (meaning w))
  unfolding cut meaning base rules_of
  activations-changed c u =
      let a = across w s in
      record { says = ap meaning_of c.cuts; sound = sound-by w w' activations_part p c (a.0, a.1, a.2, a.3, u, a.5, a.6); based = ap base_in c.cuts }

  pub positions-changed : Changed w w' positions_part p → unset_from (rules_of w) 2 p ≡ true → MeansSoundly w' (base w) (with_rest (with_cycle_pos (take (rules_of w) (rows_at (maybe any) 64 p)) (meaning w).rest) (meaning w))
  unfolding cut meaning base rules_of
  positions-changed c u =
      let a = across w s in
      record { says = ap meaning_of c.cuts; sound = sound-by w w' positions_part p c (a.0, a.1, a.2, a.3, a.4, u, a.6); based = ap base_in c.cuts }

  pub variables-changed : (l : List (ℕ × (ℕ × ℕ))) → Changed w w' variables_part p → Holds 16 variable_row p l → all text_short l ≡ true → MeansSoundly w' (base w) (with_rest (with_vars (map variable_of l) (meaning w).rest) (meaning w))
  unfolding cut meaning base
  variables-changed l c h short =
      let a = across w s in
      let g = holds-get variable_row variable-laws 16 p l h in
      record {
        says = ap meaning_of c.cuts ∙ ap (λ (z : List (ℕ × (ℕ × ℕ))). with_rest (with_vars (map variable_of z) (meaning w).rest) (meaning w)) g;
        sound = sound-by w w' variables_part p c (a.0, a.1, rw g short, a.3, a.4, a.5, a.6);
        based = ap base_in c.cuts;
      }

  pub timers-changed : (l : List NamedTimer) → Changed w w' timers_part p → Holds 16 timer_row p l → MeansSoundly w' (base w) (with_rest (with_timers l (meaning w).rest) (meaning w))
  unfolding cut meaning base
  timers-changed l c h =
      record {
        says = ap meaning_of c.cuts ∙ ap (λ (z : List NamedTimer). with_rest (with_timers z (meaning w).rest) (meaning w)) (holds-get timer_row timer-laws 16 p l h);
        sound = sound-by w w' timers_part p c (across w s);
        based = ap base_in c.cuts;
      }

  pub slots-changed : (l : List EverySlot) → Changed w w' slots_part p → Holds 64 slot_row p l → MeansSoundly w' (base w) (with_rest (with_every l (meaning w).rest) (meaning w))
  unfolding cut meaning base
  slots-changed l c h =
      record {
        says = ap meaning_of c.cuts ∙ ap (λ (z : List EverySlot). with_rest (with_every z (meaning w).rest) (meaning w)) (holds-get slot_row slot_laws 64 p l h);
        sound = sound-by w w' slots_part p c (across w s);
        based = ap base_in c.cuts;
      }

  pub week-changed : Changed w w' week_part p → MeansSoundly w' (base w) (with_rest (with_prev_week_min ((maybe any).get p) (meaning w).rest) (meaning w))
  unfolding cut meaning base
  week-changed c = record { says = ap meaning_of c.cuts; sound = sound-by w w' week_part p c (across w s); based = ap base_in c.cuts }

  pub counters-changed : Changed w w' counters_part p → MeansSoundly w' (base w) (with_rest (with_counters p (meaning w).rest) (meaning w))
  unfolding cut meaning base
  counters-changed c = record { says = ap meaning_of c.cuts; sound = sound-by w w' counters_part p c (across w s); based = ap base_in c.cuts }
