-- What is kept for each rule: its bit, its last activation, its cycle position. Assumes nothing.
use mathlib.Core.Path.{◌≡◌, refl, sym, ap, subst, ◌∙◌}
use mathlib.Core.Bool.{Bool, true, false, cond, not, ◌&&◌, ◌||◌}
use mathlib.Core.List.{List, [], ◌∷◌, map}
use Rattle.std.specs.Prelude.{Option, None}
use Prim.Native.Nat.{ℕ, zero, suc, ◌+◌, ◌-◌, ◌*◌, ◌≤◌, ◌<◌}
use native.Mathlib.Omega.{arith}
use lib.Dec.{eqb, leb, ltb}
use lib.ListN.{length, get_or, take, drop, set, length-take, get_or-eq_default}
use lib.Seq.{get_or-take, set_out, take-set-lt, take-take}
use borrow.Author.Tests.{leb-true, ltb-true, ltb-false}
use Rattle.std.proofs.lemmas.List.{take-map}
use Rattle.std.proofs.lemmas.Bool.{and_parts}
use Rattle.model.specs.Layout.{fixed, row_fits, rows_fit, zeros, up_to}
use Rattle.model.specs.Codec.{Row, word, wide, maybe, rows_at}
use Rattle.model.specs.Parts.{any}
use Rattle.model.specs.State.{is_enabled, last_activation_at, cycle_pos_at, with_rest, with_enabled, with_last_activation, with_cycle_pos}
use Rattle.model.specs.Store.{bit_of}
use Rattle.model.specs.World.{is_one}
use Rattle.model.proofs.PartsLaws.{any_laws}
use Rattle.model.proofs.RowLaws.{RowLaws, word_laws, wide_laws, maybe-laws, word_blank, wide-blank}
use Rattle.model.proofs.StoreLaws.{bit-back}
use Rattle.rows.specs.Places.{laid, row_at}
use Rattle.rows.specs.Rows.{bool_row}
use Rattle.state.specs.Meaning.{state_parts, place_of, part, bits_part, activations_part, positions_part, rules_part, unset_from, meaning, base, rules_of, Sound, MeansSoundly}
use Rattle.state.specs.Named.{kept_for, kept_laid}
use Rattle.state.proofs.Frame.{Changed, part-long, bits-changed, activations-changed, positions-changed}
use Rattle.state.proofs.Good.{maybe-roomy, wide-roomy, any-roomy, words-laid, are_words}
use Rattle.state.proofs.Fixed.{fixed-at, fixed-set, rows_set, set_long, set-rows, set-behind, one_at}

-- HOW MANY RULES THERE ARE --------------------------------------------------------------------------------------------------------------------
at_most : (m : ℕ) (p : List ℕ) → rows_fit 1 (up_to m ∷ []) p ≡ true → get_or p 0 0 ≤ m
unfolding rows_fit row_fits zeros
at_most m [] e = omega arith
at_most m (x ∷ p) e = leb-true x m (and_parts (leb x m) _ (and_parts (leb x m && (not (eqb x 0) || true)) true (and_parts _ _ e).0).0).0

module _ (w : List ℕ) (s : Sound w) where
  pub rules-few : rules_of w ≤ 64
  unfolding rules_of
  rules-few = at_most 64 (part rules_part w) (s.parts.fit rules_part (omega arith))

  pub rules-at : row_at any w (place_of rules_part) ≡ rules_of w
  unfolding rules_of row_at
  rules-at = one_at (word 64) (word_laws 64) rules_part (omega arith) refl w s

-- LISTS OF WHICH THE FIRST SO MANY COUNT ------------------------------------------------------------------------------------------------------
module _ {A : Type 0} (l : List A) (m i : ℕ) where
  pub at-below : (d : A) → i < m → get_or (take m l) i d ≡ get_or l i d
  at-below d h = get_or-take m l i d h

  pub at-past : (d : A) → m ≤ i → d ≡ get_or (take m l) i d
  at-past d h = sym (get_or-eq_default (take m l) d {n = i} (simp length-take (omega arith)))

  pub set_past : (x : A) → m ≤ i → take m l ≡ set (take m l) i x
  set_past x h = sym (set_out (take m l) i x (simp length-take (omega arith)))

-- BITS ----------------------------------------------------------------------------------------------------------------------------------------
bit-there : (b : Bool) → is_one (bit_of b) ≡ b
bit-there true = refl
bit-there false = refl

pub bool-good : (b : Bool) → bool_row.good b ≡ true
bool-good true = refl
bool-good false = refl

bool-laws : RowLaws bool_row
bool-laws =
    record {
      long = λ b. refl;
      reads = λ b rest g. let q = (word_laws 1).reads (bit_of b) rest g in (bit-there b, q.1);
      writes =
          λ w f.
          let q = (word_laws 1).writes w f in
          let e = bit-back (get_or w 0 0) q.1 in
          (ap (λ (x : ℕ). x ∷ drop 1 w) e ∙ q.0, bool-good (is_one (get_or w 0 0)));
    }

-- the bits are the words, and what they say
bools-are : (n : ℕ) (p : List ℕ) → n ≤ length p → rows_at bool_row n p ≡ map is_one (take n p)
unfolding rows_at
bools-are zero p h = refl
bools-are (suc n) [] h = absurd (omega arith)
bools-are (suc n) (x ∷ p) h = ap (λ (l : List Bool). is_one x ∷ l) (bools-are n p (omega arith))

-- the bits that count are the first rows
bits_are : (m : ℕ) (p : List ℕ) → m ≤ 64 → 64 ≤ length p → map is_one (take m p) ≡ take m (rows_at bool_row 64 p)
bits_are m p h l = sym (ap (take m) (bools-are 64 p l) ∙ take-map is_one m (take 64 p) ∙ ap (map is_one) (take-take m 64 p h))

-- OPTIONS -------------------------------------------------------------------------------------------------------------------------------------
abbrev maybe-wide : Row (Option ℕ)
maybe-wide = maybe wide

abbrev maybe-any : Row (Option ℕ)
maybe-any = maybe any

wide-option-laws : RowLaws maybe-wide
wide-option-laws = maybe-laws wide_laws wide-blank

pub any-option-laws : RowLaws maybe-any
any-option-laws = maybe-laws any_laws (word_blank 4294967295)

-- words that were written are words, so that the value has room in them
module _ (w w' : List ℕ) (k : ℕ) (words : (i : ℕ) → get_or w' i 0 < 4294967296) where
  good-64 : (o : Option ℕ) → w' ≡ laid w k (maybe-wide.put o) → maybe-wide.good o ≡ true
  good-64 o e = (maybe-roomy wide-roomy).fits o (words-laid w k (maybe-wide.put o) w' e (are_words w' words))

  pub good-32 : (o : Option ℕ) → w' ≡ laid w k (maybe-any.put o) → maybe-any.good o ≡ true
  good-32 o e = (maybe-roomy any-roomy).fits o (words-laid w k (maybe-any.put o) w' e (are_words w' words))

-- ROWS FOR EACH RULE --------------------------------------------------------------------------------------------------------------------------
module _ {A : Type 0} (r : Row A) (laws : RowLaws r) (t : ℕ) (h : t < 15) (is : get_or state_parts t (fixed 0 []) ≡ fixed 64 r.cells) (w : List ℕ) (s : Sound w) where
  abbrev kept : List A
  kept = take (rules_of w) (rows_at r 64 (part t w))

  kept_at : (i : ℕ) (d : A) → i < rules_of w → row_at r w (place_of t + i * length r.cells) ≡ get_or kept i d
  kept_at i d b = let m = rules-few w s in fixed-at r laws t 64 h is w s i d (omega arith) ∙ sym (at-below (rows_at r 64 (part t w)) (rules_of w) i d b)

  module _ (i : ℕ) (x : A) (b : i < rules_of w) (g : r.good x ≡ true) where
    in_all : i < 64
    in_all = let m = rules-few w s in omega arith

    written-long : length (rows_set r t 64 w i x) ≡ 64 * length r.cells
    written-long = set_long r laws t 64 h is w s i x in_all g

    kept-changes : (w' : List ℕ) → w' ≡ laid w (place_of t + i * length r.cells) (r.put x) → Changed w w' t (rows_set r t 64 w i x)
    kept-changes = fixed-set r laws t 64 h is w s i x in_all g

    kept_set : take (rules_of w) (rows_at r 64 (rows_set r t 64 w i x)) ≡ set kept i x
    kept_set = ap (take (rules_of w)) (set-rows r laws t 64 h is w s i x in_all g) ∙ take-set-lt (rules_of w) (rows_at r 64 (part t w)) i x b

    kept-unset : unset_from (rules_of w) (length r.cells) (part t w) ≡ true → unset_from (rules_of w) (length r.cells) (rows_set r t 64 w i x) ≡ true
    kept-unset u = ap (zeros ((64 - rules_of w) * length r.cells)) (set-behind r laws t 64 h is w s i x in_all g (rules_of w) b) ∙ u

-- BITS, ACTIVATIONS, POSITIONS ----------------------------------------------------------------------------------------------------------------
module _ (w : List ℕ) (s : Sound w) (i : ℕ) where
  enabled-is : (meaning w).rest.enabled ≡ take (rules_of w) (rows_at bool_row 64 (part bits_part w))
  unfolding meaning rules_of
  enabled-is = bits_are (rules_of w) (part bits_part w) (rules-few w s) (omega (arith, part-long bits_part (omega arith) w s.long))

  one_word : place_of bits_part + i * 1 ≡ place_of bits_part + i
  one_word = omega arith

  pub bit_at : i < rules_of w → row_at bool_row w (place_of bits_part + i) ≡ is_enabled (meaning w).rest i
  unfolding is_enabled
  bit_at h =
      ap (row_at bool_row w) (sym one_word) ∙ kept_at bool_row bool-laws bits_part (omega arith) refl w s i false h
      ∙ ap (λ (l : List Bool). get_or l i false) (sym enabled-is)

  pub bit-none : rules_of w ≤ i → false ≡ is_enabled (meaning w).rest i
  unfolding is_enabled
  bit-none h = at-past (rows_at bool_row 64 (part bits_part w)) (rules_of w) i false h ∙ ap (λ (l : List Bool). get_or l i false) (sym enabled-is)

  pub bit-put : (w' : List ℕ) (on : Bool) → i < rules_of w → w' ≡ laid w (place_of bits_part + i) (bool_row.put on)
      → MeansSoundly w' (base w) (with_rest (with_enabled (set (meaning w).rest.enabled i on) (meaning w).rest) (meaning w))
  bit-put w' on h e =
      let g = bool-good on in
      let p = rows_set bool_row bits_part 64 w i on in
      let c = kept-changes bool_row bool-laws bits_part (omega arith) refl w s i on h g w' (e ∙ ap (λ (k : ℕ). laid w k (bool_row.put on)) (sym one_word)) in
      let long = written-long bool_row bool-laws bits_part (omega arith) refl w s i on h g in
      let q : map is_one (take (rules_of w) p) ≡ set (meaning w).rest.enabled i on =
      bits_are (rules_of w) p (rules-few w s) (omega (arith, long)) ∙ kept_set bool_row bool-laws bits_part (omega arith) refl w s i on h g ∙ ap (λ (l : List Bool). set l i on) (sym enabled-is) in
      subst (λ (l : List Bool). MeansSoundly w' (base w) (with_rest (with_enabled l (meaning w).rest) (meaning w))) q
      (bits-changed w w' p s c (kept-unset bool_row bool-laws bits_part (omega arith) refl w s i on h g (unfold rules_of in s.parts.bits)))

  pub bit_past : (on : Bool) → rules_of w ≤ i → MeansSoundly w (base w) (with_rest (with_enabled (set (meaning w).rest.enabled i on) (meaning w).rest) (meaning w))
  bit_past on h =
      let q : (meaning w).rest.enabled ≡ set (meaning w).rest.enabled i on =
      enabled-is ∙ set_past (rows_at bool_row 64 (part bits_part w)) (rules_of w) i on h ∙ ap (λ (l : List Bool). set l i on) (sym enabled-is) in
      record { says = ap (λ (l : List Bool). with_rest (with_enabled l (meaning w).rest) (meaning w)) q; sound = s; based = refl }

  -- activations
  activations-are : (meaning w).rest.last_activation ≡ take (rules_of w) (rows_at maybe-wide 64 (part activations_part w))
  unfolding meaning rules_of
  activations-are = refl

  activation-at : (x : Option ℕ) → i < rules_of w → x ≡ row_at maybe-wide w (place_of activations_part + i * 3) → x ≡ last_activation_at (meaning w).rest i
  unfolding last_activation_at row_at
  activation-at x h e =
      e ∙ kept_at maybe-wide wide-option-laws activations_part (omega arith) refl w s i None h ∙ ap (λ (l : List (Option ℕ)). get_or l i None) (sym activations-are)

  activation-none : rules_of w ≤ i → None ≡ last_activation_at (meaning w).rest i
  unfolding last_activation_at
  activation-none h =
      at-past (rows_at maybe-wide 64 (part activations_part w)) (rules_of w) i None h ∙ ap (λ (l : List (Option ℕ)). get_or l i None) (sym activations-are)

  activation-put : (w' : List ℕ) (x : Option ℕ) → i < rules_of w → ((j : ℕ) → get_or w' j 0 < 4294967296) → w' ≡ laid w (place_of activations_part + i * 3) (maybe-wide.put x)
      → MeansSoundly w' (base w) (with_rest (with_last_activation (set (meaning w).rest.last_activation i x) (meaning w).rest) (meaning w))
  activation-put w' x h words e =
      let g = good-64 w w' (place_of activations_part + i * 3) words x e in
      let p = rows_set maybe-wide activations_part 64 w i x in
      let c = kept-changes maybe-wide wide-option-laws activations_part (omega arith) refl w s i x h g w' e in
      let q : take (rules_of w) (rows_at maybe-wide 64 p) ≡ set (meaning w).rest.last_activation i x =
      kept_set maybe-wide wide-option-laws activations_part (omega arith) refl w s i x h g ∙ ap (λ (l : List (Option ℕ)). set l i x) (sym activations-are) in
      subst (λ (l : List (Option ℕ)). MeansSoundly w' (base w) (with_rest (with_last_activation l (meaning w).rest) (meaning w))) q
      (activations-changed w w' p s c (kept-unset maybe-wide wide-option-laws activations_part (omega arith) refl w s i x h g (unfold rules_of in s.parts.activations)))

  activation-past : (o : Option ℕ) → rules_of w ≤ i → MeansSoundly w (base w) (with_rest (with_last_activation (set (meaning w).rest.last_activation i o) (meaning w).rest) (meaning w))
  activation-past o h =
      let q : (meaning w).rest.last_activation ≡ set (meaning w).rest.last_activation i o =
      activations-are ∙ set_past (rows_at maybe-wide 64 (part activations_part w)) (rules_of w) i o h ∙ ap (λ (l : List (Option ℕ)). set l i o) (sym activations-are) in
      record { says = ap (λ (l : List (Option ℕ)). with_rest (with_last_activation l (meaning w).rest) (meaning w)) q; sound = s; based = refl }

  -- positions
  positions-are : (meaning w).rest.cycle_pos ≡ take (rules_of w) (rows_at maybe-any 64 (part positions_part w))
  unfolding meaning rules_of
  positions-are = refl

  position_at : (x : Option ℕ) → i < rules_of w → x ≡ row_at maybe-any w (place_of positions_part + i * 2) → x ≡ cycle_pos_at (meaning w).rest i
  unfolding cycle_pos_at
  position_at x h e =
      e ∙ kept_at maybe-any any-option-laws positions_part (omega arith) refl w s i None h ∙ ap (λ (l : List (Option ℕ)). get_or l i None) (sym positions-are)

  position-none : rules_of w ≤ i → None ≡ cycle_pos_at (meaning w).rest i
  unfolding cycle_pos_at
  position-none h =
      at-past (rows_at maybe-any 64 (part positions_part w)) (rules_of w) i None h ∙ ap (λ (l : List (Option ℕ)). get_or l i None) (sym positions-are)

  position-put : (w' : List ℕ) (x : Option ℕ) → i < rules_of w → ((j : ℕ) → get_or w' j 0 < 4294967296) → w' ≡ laid w (place_of positions_part + i * 2) (maybe-any.put x)
      → MeansSoundly w' (base w) (with_rest (with_cycle_pos (set (meaning w).rest.cycle_pos i x) (meaning w).rest) (meaning w))
  position-put w' x h words e =
      let g = good-32 w w' (place_of positions_part + i * 2) words x e in
      let p = rows_set maybe-any positions_part 64 w i x in
      let c = kept-changes maybe-any any-option-laws positions_part (omega arith) refl w s i x h g w' e in
      let q : take (rules_of w) (rows_at maybe-any 64 p) ≡ set (meaning w).rest.cycle_pos i x =
      kept_set maybe-any any-option-laws positions_part (omega arith) refl w s i x h g ∙ ap (λ (l : List (Option ℕ)). set l i x) (sym positions-are) in
      subst (λ (l : List (Option ℕ)). MeansSoundly w' (base w) (with_rest (with_cycle_pos l (meaning w).rest) (meaning w))) q
      (positions-changed w w' p s c (kept-unset maybe-any any-option-laws positions_part (omega arith) refl w s i x h g (unfold rules_of in s.parts.positions)))

  position_past : (o : Option ℕ) → rules_of w ≤ i → MeansSoundly w (base w) (with_rest (with_cycle_pos (set (meaning w).rest.cycle_pos i o) (meaning w).rest) (meaning w))
  position_past o h =
      let q : (meaning w).rest.cycle_pos ≡ set (meaning w).rest.cycle_pos i o =
      positions-are ∙ set_past (rows_at maybe-any 64 (part positions_part w)) (rules_of w) i o h ∙ ap (λ (l : List (Option ℕ)). set l i o) (sym positions-are) in
      record { says = ap (λ (l : List (Option ℕ)). with_rest (with_cycle_pos l (meaning w).rest) (meaning w)) q; sound = s; based = refl }

  pub activation-kept : (x : Option ℕ) → x ≡ kept_for wide 2 w (place_of activations_part) i → x ≡ last_activation_at (meaning w).rest i
  unfolding kept_for
  activation-kept x e = by (ltb i (rules_of w)) refl e
    where
      by : (b : Bool) → ltb i (rules_of w) ≡ b → x ≡ cond b (row_at (maybe wide) w (place_of activations_part + i * 3)) None → x ≡ last_activation_at (meaning w).rest i
      by true f e = activation-at x (ltb-true i (rules_of w) f) e
      by false f e = e ∙ activation-none (ltb-false i (rules_of w) f)

  pub activation-laid : (w' : List ℕ) (x : Option ℕ) → ((j : ℕ) → get_or w' j 0 < 4294967296) → w' ≡ kept_laid wide 2 w (place_of activations_part) i x
      → MeansSoundly w' (base w) (with_rest (with_last_activation (set (meaning w).rest.last_activation i x) (meaning w).rest) (meaning w))
  unfolding kept_laid
  activation-laid w' x words e = by (ltb i (rules_of w)) refl e
    where
      by : (b : Bool) → ltb i (rules_of w) ≡ b → w' ≡ cond b (laid w (place_of activations_part + i * 3) ((maybe wide).put x)) w → MeansSoundly w' (base w) (with_rest (with_last_activation (set (meaning w).rest.last_activation i x) (meaning w).rest) (meaning w))
      by true f e = activation-put w' x (ltb-true i (rules_of w) f) words e
      by false f e = subst (λ (u : List ℕ). MeansSoundly u (base w) (with_rest (with_last_activation (set (meaning w).rest.last_activation i x) (meaning w).rest) (meaning w))) (sym e) (activation-past x (ltb-false i (rules_of w) f))

  pub position-kept : (x : Option ℕ) → x ≡ kept_for any 1 w (place_of positions_part) i → x ≡ cycle_pos_at (meaning w).rest i
  unfolding kept_for
  position-kept x e = by (ltb i (rules_of w)) refl e
    where
      by : (b : Bool) → ltb i (rules_of w) ≡ b → x ≡ cond b (row_at (maybe any) w (place_of positions_part + i * 2)) None → x ≡ cycle_pos_at (meaning w).rest i
      by true f e = position_at x (ltb-true i (rules_of w) f) e
      by false f e = e ∙ position-none (ltb-false i (rules_of w) f)

  pub position-laid : (w' : List ℕ) (x : Option ℕ) → ((j : ℕ) → get_or w' j 0 < 4294967296) → w' ≡ kept_laid any 1 w (place_of positions_part) i x
      → MeansSoundly w' (base w) (with_rest (with_cycle_pos (set (meaning w).rest.cycle_pos i x) (meaning w).rest) (meaning w))
  unfolding kept_laid
  position-laid w' x words e = by (ltb i (rules_of w)) refl e
    where
      by : (b : Bool) → ltb i (rules_of w) ≡ b → w' ≡ cond b (laid w (place_of positions_part + i * 2) ((maybe any).put x)) w → MeansSoundly w' (base w) (with_rest (with_cycle_pos (set (meaning w).rest.cycle_pos i x) (meaning w).rest) (meaning w))
      by true f e = position-put w' x (ltb-true i (rules_of w) f) words e
      by false f e = subst (λ (u : List ℕ). MeansSoundly u (base w) (with_rest (with_cycle_pos (set (meaning w).rest.cycle_pos i x) (meaning w).rest) (meaning w))) (sym e) (position_past x (ltb-false i (rules_of w) f))
