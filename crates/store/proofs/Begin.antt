-- What a store says of n rules, as the words of a state, part by part. Assumes nothing.
use mathlib.Core.Path.{◌≡◌, refl, sym, ap, subst, ◌∙◌}
use mathlib.Core.Logic.{inl}
use mathlib.Core.Bool.{true}
use mathlib.Core.List.{List, [], ◌∷◌, map, append-nil}
use Rattle.std.specs.Prelude.{None}
use Prim.Native.Nat.{ℕ, ◌+◌, ◌*◌, ◌≤◌}
use native.Mathlib.Nat.{add-zero}
use native.Mathlib.Omega.{arith}
use lib.Dec.{leb, eqb}
use lib.ListN.{length, get_or, take, drop, length-append, drop_of_length-le}
use lib.Seq.{take_at, drop_at}
use borrow.Author.Tests.{leb-true, ltb-true, eqb-true}
use Rattle.std.proofs.lemmas.Bool.{and_from, and_parts}
use Rattle.model.specs.Layout.{row_fits, rows_fit}
use Rattle.model.specs.Codec.{Row, word, wide, maybe, all, most, words_of, all_good}
use Rattle.model.specs.Lists.{flatten}
use Rattle.model.specs.Lists as lists
use Rattle.model.specs.Parts.{any, bit, variable_row, timer_row, slot_row, Changing, changing_part}
use Rattle.model.specs.Parts as parts
use Rattle.model.specs.Store.{filled, variable_of, text_short, volatile_in}
use Rattle.model.specs.World.{is_one}
use Rattle.model.proofs.PartsLaws.{any_laws, variable-laws, timer-laws, slot_laws}
use Rattle.model.proofs.RowLaws.{RowLaws, word_laws, wide_laws, wide-blank, word_blank, maybe-laws, rows_long, rows-reads}
use Rattle.state.specs.Cuts.{cut, sum}
use Rattle.state.specs.Meaning.{pending_row, state_parts, part_sizes, pending_part, stored_part, state_words, accepted_in, meaning_of, SoundOf, Below, meaning, accepted, stored_count, pending_count, AllNumbered}
use Rattle.state.proofs.Numbers.{numbered-all}
use Rattle.state.proofs.Typed.{holds-get, holds-fit, holds-long}
use Rattle.state.proofs.Blank.{fits_all, fit_at}
use Rattle.state.proofs.Records.{pending-laws, word_fits}
use Rattle.store.proofs.RuleRows.{ruled-long, ruled-fit, ruled-read, ruled-unset, ruled-take}
use Rattle.store.proofs.Wider.{word-wider, maybe-wider, pending-wider, good-wider, most-good}

-- pieces, one behind the other
pub cut-flat : (ps : List (List ℕ)) → cut (map length ps) (flatten ps) ≡ ps
unfolding cut
cut-flat [] = refl
cut-flat (p ∷ ps) = rw (take_at p (flatten ps) (length p) refl, drop_at p (flatten ps) (length p) refl, cut-flat ps)

flat-long : (ps : List (List ℕ)) → length (flatten ps) ≡ sum (map length ps)
flat-long [] = refl
flat-long (p ∷ ps) = length-append p (flatten ps) ∙ ap (λ (n : ℕ). length p + n) (flat-long ps)

-- ROWS ----------------------------------------------------------------------------------------------------------------------------------------
pub any-words : (l : List ℕ) → words_of any l ≡ l
unfolding words_of
any-words [] = refl
any-words (x ∷ l) = ap (λ (t : List ℕ). x ∷ t) (any-words l)

pub bit-words : (l : List ℕ) → words_of bit l ≡ l
unfolding words_of
bit-words [] = refl
bit-words (x ∷ l) = ap (λ (t : List ℕ). x ∷ t) (bit-words l)

-- one row alone
one-fit : {A : Type 0} (r : Row A) → RowLaws r → (a : A) → r.good a ≡ true → rows_fit 1 r.cells (r.put a) ≡ true
unfolding rows_fit
one-fit r laws a g = let f : row_fits r.cells (r.put a) ≡ true = rw append-nil at (laws.reads a [] g).1 in and_from _ _ f refl

one-get : {A : Type 0} (r : Row A) → RowLaws r → (a : A) → r.good a ≡ true → r.get (r.put a) ≡ a
one-get r laws a g = rw append-nil at (laws.reads a [] g).0

pub positions-laws : RowLaws (maybe any)
positions-laws = maybe-laws any_laws (word_blank 4294967295)

pub activations-laws : RowLaws (maybe wide)
activations-laws = maybe-laws wide_laws wide-blank

-- WHAT IS GOOD ----------------------------------------------------------------------------------------------------------------------------------
pub record Good (m : Changing) : Type 0 where
  pub bits_long : length m.bits ≡ 64
  pub bits : all_good bit m.bits ≡ true
  pub activations_long : length m.activations ≡ 64
  pub activations : all_good (maybe wide) m.activations ≡ true
  pub positions_long : length m.positions ≡ 64
  pub positions : all_good (maybe any) m.positions ≡ true
  pub variables : (most 16 variable_row).good m.variables ≡ true
  pub timers : (most 16 timer_row).good m.timers ≡ true
  pub slots : (most 64 slot_row).good m.slots ≡ true
  pub pending : (most 32 pending_row).good m.pending ≡ true
  pub week : (maybe any).good m.prev_week_min ≡ true
  pub next : wide.good m.next ≡ true
  pub last : wide.good m.last_number ≡ true
  pub counters_long : length m.counters ≡ 12
  pub counters : all_good any m.counters ≡ true

pub good_of : (m : Changing) → changing_part.good m ≡ true → Good m
unfolding changing_part
good_of m g =
    let (b, g₁) = and_parts ((all 64 bit).good m.bits) _ g in
    let (a, g₂) = and_parts ((all 64 (maybe wide)).good m.activations) _ g₁ in
    let (p, g₃) = and_parts ((all 64 (maybe (word 15))).good m.positions) _ g₂ in
    let (v, g₄) = and_parts ((most 16 variable_row).good m.variables) _ g₃ in
    let (t, g₅) = and_parts ((most 16 timer_row).good m.timers) _ g₄ in
    let (s, g₆) = and_parts ((most 64 slot_row).good m.slots) _ g₅ in
    let (c, g₇) = and_parts ((most 32 parts.pending_row).good m.pending) _ g₆ in
    let (w, g₈) = and_parts ((maybe (word 10079)).good m.prev_week_min) _ g₇ in
    let (n, g₉) = and_parts (wide.good m.next) _ g₈ in
    let (l, k) = and_parts (wide.good m.last_number) ((all 12 any).good m.counters) g₉ in
    let (bl, bg) = and_parts (eqb (length m.bits) 64) (all_good bit m.bits) b in
    let (al, ag) = and_parts (eqb (length m.activations) 64) (all_good (maybe wide) m.activations) a in
    let (pl, pg) = and_parts (eqb (length m.positions) 64) (all_good (maybe (word 15)) m.positions) p in
    let (kl, kg) = and_parts (eqb (length m.counters) 12) (all_good any m.counters) k in
    record {
      bits_long = eqb-true _ _ bl;
      bits = bg;
      activations_long = eqb-true _ _ al;
      activations = ag;
      positions_long = eqb-true _ _ pl;
      positions = good-wider (maybe (word 15)) (maybe any) (maybe-wider (word-wider 15 4294967295 (omega arith))) m.positions pg;
      variables = v;
      timers = t;
      slots = s;
      pending = most-good parts.pending_row pending_row pending-wider 32 m.pending c;
      week = (maybe-wider (word-wider 10079 4294967295 (omega arith))).good m.prev_week_min w;
      next = n;
      last = l;
      counters_long = eqb-true _ _ kl;
      counters = kg;
    }

-- THE PARTS -------------------------------------------------------------------------------------------------------------------------------------
abbrev pub pieces : ℕ → Changing → List (List ℕ)
pieces n m =
    words_of bit (filled 64 0 (take n m.bits))
    ∷ words_of (maybe wide) (filled 64 None (take n m.activations))
    ∷ words_of (maybe any) (filled 64 None (take n m.positions))
    ∷ (most 16 variable_row).put m.variables
    ∷ (most 16 timer_row).put m.timers
    ∷ (most 64 slot_row).put m.slots
    ∷ (most 32 pending_row).put m.pending
    ∷ (maybe any).put m.prev_week_min
    ∷ wide.put m.next
    ∷ wide.put m.last_number
    ∷ words_of any m.counters
    ∷ (length m.pending ∷ [])
    ∷ wide.put 0
    ∷ wide.put 0
    ∷ (n ∷ [])
    ∷ []

module _ (m : Changing) (g : Good m) (n : ℕ) (h : n ≤ 64) where
  rows_words : {A : Type 0} (r : Row A) → RowLaws r → (l : List A) (k : ℕ) → length l ≡ k → length (words_of r l) ≡ k * length r.cells
  rows_words r laws l k e = rows_long r laws l ∙ ap (λ (x : ℕ). x * length r.cells) e

  lengths : map length (pieces n m) ≡ part_sizes
  lengths =
      let a = rows_words bit (word_laws 1) _ 64 (ruled-long bit (word_laws 1) 0 refl refl n h m.bits g.bits_long) in
      let b = rows_words (maybe wide) activations-laws _ 64 (ruled-long (maybe wide) activations-laws None refl refl n h m.activations g.activations_long) in
      let c = rows_words (maybe any) positions-laws _ 64 (ruled-long (maybe any) positions-laws None refl refl n h m.positions g.positions_long) in
      let v = holds-long variable_row variable-laws 16 _ m.variables (record { words = refl; good = g.variables }) in
      let t = holds-long timer_row timer-laws 16 _ m.timers (record { words = refl; good = g.timers }) in
      let s = holds-long slot_row slot_laws 64 _ m.slots (record { words = refl; good = g.slots }) in
      let p = holds-long pending_row pending-laws 32 _ m.pending (record { words = refl; good = g.pending }) in
      let w = positions-laws.long m.prev_week_min in
      let k = rows_words any any_laws m.counters 12 g.counters_long in
      λ i. a i ∷ b i ∷ c i ∷ v i ∷ t i ∷ s i ∷ p i ∷ w i ∷ 2 ∷ 2 ∷ k i ∷ 1 ∷ 2 ∷ 2 ∷ 1 ∷ []

  pub pieces-long : length (flatten (pieces n m)) ≡ state_words
  pieces-long = flat-long (pieces n m) ∙ ap sum lengths

  variables-are : (most 16 variable_row).get ((most 16 variable_row).put m.variables) ≡ m.variables
  variables-are = holds-get variable_row variable-laws 16 _ m.variables (record { words = refl; good = g.variables })

  records-are : (most 32 pending_row).get ((most 32 pending_row).put m.pending) ≡ m.pending
  records-are = holds-get pending_row pending-laws 32 _ m.pending (record { words = refl; good = g.pending })

  fit : fits_all state_parts (pieces n m) ≡ true
  fit =
      and_from _ _ (ruled-fit bit (word_laws 1) 0 refl refl n h m.bits g.bits_long g.bits)
      (and_from _ _ (ruled-fit (maybe wide) activations-laws None refl refl n h m.activations g.activations_long g.activations)
      (and_from _ _ (ruled-fit (maybe any) positions-laws None refl refl n h m.positions g.positions_long g.positions)
      (and_from _ _ (holds-fit variable_row variable-laws 16 _ m.variables (record { words = refl; good = g.variables }))
      (and_from _ _ (holds-fit timer_row timer-laws 16 _ m.timers (record { words = refl; good = g.timers }))
      (and_from _ _ (holds-fit slot_row slot_laws 64 _ m.slots (record { words = refl; good = g.slots }))
      (and_from _ _ (holds-fit pending_row pending-laws 32 _ m.pending (record { words = refl; good = g.pending }))
      (and_from _ _ (one-fit (maybe any) positions-laws m.prev_week_min g.week)
      (and_from _ _ (one-fit wide wide_laws m.next g.next)
      (and_from _ _ (one-fit wide wide_laws m.last_number g.last)
      (and_from _ _ counters-fit (and_from _ _ (word_fits 32 (length m.pending) few) (and_from _ _ (one-fit wide wide_laws 0 refl) (and_from _ _ (one-fit wide wide_laws 0 refl) (and_from _ _ (word_fits 64 n h) refl))))))))))))))
    where
      few : length m.pending ≤ 32
      few = leb-true _ _ (and_parts (leb (length m.pending) 32) (all_good pending_row m.pending) g.pending).0

      counters-fit : rows_fit 12 any.cells (words_of any m.counters) ≡ true
      counters-fit =
          ap (λ (k : ℕ). rows_fit k any.cells (words_of any m.counters)) (sym g.counters_long)
          ∙ (rw append-nil at (rows-reads any any_laws m.counters [] g.counters).1)

  none-behind : Below 0 (drop (length m.pending) m.pending)
  none-behind = rw (drop_of_length-le m.pending {i = length m.pending} (omega arith)) tt

  sound-pieces : lists.all text_short m.variables ≡ true → SoundOf (pieces n m)
  sound-pieces texts =
      record {
        fit = fit_at state_parts (pieces n m) fit;
        stored = omega arith;
        offsets = rw (one-get wide wide_laws 0 refl, records-are) none-behind;
        texts = rw variables-are texts;
        bits = ruled-unset bit (word_laws 1) 0 refl refl n h m.bits g.bits_long;
        activations = ruled-unset (maybe wide) activations-laws None refl refl n h m.activations g.activations_long;
        positions = ruled-unset (maybe any) positions-laws None refl refl n h m.positions g.positions_long;
        beyond = inl (one-get wide wide_laws 0 refl);
      }

  says-pieces : meaning_of (pieces n m) ≡ volatile_in n m
  says-pieces =
      let b : take n (words_of bit (filled 64 0 (take n m.bits))) ≡ take n m.bits = ap (take n) (bit-words (filled 64 0 (take n m.bits))) ∙ ruled-take bit (word_laws 1) 0 refl refl n h m.bits g.bits_long in
      let a = ruled-read (maybe wide) activations-laws None refl refl n h m.activations g.activations_long g.activations in
      let c = ruled-read (maybe any) positions-laws None refl refl n h m.positions g.positions_long g.positions in
      let t = holds-get timer_row timer-laws 16 _ m.timers (record { words = refl; good = g.timers }) in
      let s = holds-get slot_row slot_laws 64 _ m.slots (record { words = refl; good = g.slots }) in
      let w = one-get (maybe any) positions-laws m.prev_week_min g.week in
      let base = one-get wide wide_laws m.next g.next in
      let p = numbered-all (wide.get (wide.put m.next)) (length m.pending) _ (omega (arith, ap length records-are)) ∙ records-are in
      let x : wide.get (wide.put m.next) + wide.get (wide.put 0) ≡ m.next = rw (base, one-get wide wide_laws 0 refl) (add-zero m.next) in
      let y : wide.get (wide.put m.last_number) + wide.get (wide.put 0) ≡ m.last_number = rw (one-get wide wide_laws m.last_number g.last, one-get wide wide_laws 0 refl) (add-zero m.last_number) in
      λ i.
      record {
        rest =
            record {
              enabled = map is_one (b i);
              last_activation = a i;
              cycle_pos = c i;
              vars = map variable_of (variables-are i);
              timers = t i;
              every = s i;
              prev_week_min = w i;
              counters = any-words m.counters i;
            };
        pending = p i;
        next = x i;
        last_number = y i;
      }

  -- the words of the parts, one behind the other
  pub begun : lists.all text_short m.variables ≡ true → (v : List ℕ) → length v ≡ state_words → v ≡ flatten (pieces n m) → AllNumbered v (volatile_in n m)
  unfolding meaning accepted stored_count pending_count
  begun texts v l e =
      let c : cut part_sizes v ≡ pieces n m = (λ i. cut (sym lengths i) (e i)) ∙ cut-flat (pieces n m) in
      record {
        says = ap meaning_of c ∙ says-pieces;
        sound = record { long = l; parts = subst SoundOf (sym c) (sound-pieces texts) };
        stored = ap (λ (ps : List (List ℕ)). get_or (get_or ps stored_part []) 0 0) c ∙ sym (ap (λ (ps : List (List ℕ)). get_or (get_or ps pending_part []) 0 0) c);
        none_accepted = ap accepted_in c ∙ one-get wide wide_laws 0 refl;
        last_fits = let less = ltb-true m.last_number 18446744073709551616 g.last in omega arith;
      }
