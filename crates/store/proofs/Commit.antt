-- The words of a state in which every record holds its number are the words that the layout writes for what they mean: so a call is committed
-- by copying them back. Assumes nothing.
use mathlib.Core.Path.{◌≡◌, refl, sym, ap, ◌∙◌}
use mathlib.Core.Bool.{true}
use mathlib.Core.List.{List, [], ◌∷◌, ◌++◌, map, append-nil}
use Rattle.std.specs.Prelude.{None}
use Prim.Native.Nat.{ℕ, zero, suc, ◌+◌, ◌≤◌}
use native.Mathlib.Nat.{add-zero}
use native.Mathlib.Omega.{arith}
use lib.Dec.{leb}
use lib.ListN.{length, take, drop, drop_of_length-le}
use lib.Seq.{length-take-le}
use borrow.Author.Tests.{leb-true}
use Rattle.std.proofs.lemmas.Bool.{and_parts}
use Rattle.words.specs.Saturating.{max64}
use Rattle.model.specs.Layout.{rows_fit, row_fits, up_to}
use Rattle.model.specs.declared.Cell.{Cell}
use Rattle.model.specs.Codec.{Row, word, wide, maybe, most, words_of, all_good, rows_at}
use Rattle.model.specs.Lists.{flatten}
use Rattle.model.specs.Parts.{any, bit, variable_row, timer_row, slot_row, changing_part}
use Rattle.model.specs.Parts as parts
use Rattle.model.specs.Store.{changing_of, filled, bit_of, variable_of, variable_row_of}
use Rattle.model.specs.World.{is_one}
use Rattle.model.proofs.PartsLaws.{variable-laws, timer-laws, slot_laws}
use Rattle.model.proofs.RowLaws.{RowLaws, word_laws, wide_laws, rows-writes}
use Rattle.rows.specs.Places.{laid}
use Rattle.model.proofs.StoreLaws.{bits_back, rows_back}
use Rattle.state.specs.Cuts.{cut}
use Rattle.state.specs.Meaning.{pending_row, part_sizes, part, bits_part, activations_part, positions_part, variables_part, timers_part, slots_part, pending_part, week_part, next_part, last_part, counters_part, rules_part, rules_in, stored_in, records_in, base_in, meaning, accepted, stored_count, pending_count, Sound, AllNumbered}
use Rattle.state.proofs.Cutting.{cut-first}
use Rattle.state.proofs.Frame.{part-long, table-part}
use Rattle.state.proofs.Numbers.{numbered-all}
use Rattle.state.proofs.Records.{pending-laws}
use Rattle.state.proofs.TakingNumbers.{none-beyond}
use Rattle.state.proofs.Typed.{holds-count}
use Rattle.store.specs.Places.{state_place, changing_words}
use Rattle.store.specs.Volatile.{Wrote}
use Rattle.store.proofs.Begin.{any-words, activations-laws, positions-laws}
use Rattle.store.proofs.RuleRows.{unset-ruled, good-take}
use Rattle.store.proofs.Wider.{word-wider, maybe-wider, pending-wider, words-wider, most-wider}

-- one row alone
one-row : {A : Type 0} (r : Row A) → RowLaws r → (p : List ℕ) → rows_fit 1 r.cells p ≡ true → length p ≡ length r.cells → p ≡ r.put (r.get p)
unfolding rows_fit
one-row r laws p f l =
    let w = (laws.writes p (and_parts (row_fits r.cells p) true f).0).0 in
    let z : drop (length r.cells) p ≡ [] = drop_of_length-le p {i = length r.cells} (omega arith) in
    sym w ∙ ap (λ (x : List ℕ). r.put (r.get p) ++ x) z ∙ append-nil (r.put (r.get p))

one-fits : (cs : List Cell) (p : List ℕ) → rows_fit 1 cs p ≡ true → row_fits cs p ≡ true
unfolding rows_fit
one-fits cs p f = (and_parts (row_fits cs p) true f).0

bit-rows : (n : ℕ) (p : List ℕ) → length p ≡ n → rows_at bit n p ≡ p
unfolding rows_at
bit-rows zero [] e = refl
bit-rows zero (x ∷ p) e = absurd (omega arith)
bit-rows (suc n) [] e = absurd (omega arith)
bit-rows (suc n) (x ∷ p) e = ap (λ (l : List ℕ). x ∷ l) (bit-rows n p (omega arith))

eleven : (v : List ℕ) → flatten (take 11 (cut part_sizes v)) ≡ part 0 v ++ (part 1 v ++ (part 2 v ++ (part 3 v ++ (part 4 v ++ (part 5 v ++ (part 6 v ++ (part 7 v ++ (part 8 v ++ (part 9 v ++ (part 10 v ++ []))))))))))
unfolding cut
eleven v = refl

-- THE PARTS -------------------------------------------------------------------------------------------------------------------------------------
module _ (v : List ℕ) (s : Sound v) where
  abbrev n : ℕ
  n = rules_in (cut part_sizes v)

  few : n ≤ 64
  few = leb-true _ _ ((word_laws 64).writes (part rules_part v) (one-fits (up_to 64 ∷ []) (part rules_part v) (s.parts.fit rules_part (omega arith)))).1

  bits_are : part bits_part v ≡ words_of bit (filled 64 0 (map bit_of (map is_one (take n (part bits_part v)))))
  bits_are =
      let p = part bits_part v in
      let f = s.parts.fit bits_part (omega arith) in
      let l = part-long bits_part (omega arith) v s.long in
      let g : rows_at bit 64 p ≡ p = bit-rows 64 p l in
      let good : all_good bit p ≡ true = ap (all_good bit) (sym g) ∙ (rows-writes bit (word_laws 1) 64 p f).1 in
      unset-ruled bit (word_laws 1) 0 refl refl n few p l f s.parts.bits
      ∙ ap (λ (x : List ℕ). words_of bit (filled 64 0 (take n x))) g
      ∙ ap (λ (x : List ℕ). words_of bit (filled 64 0 x)) (sym (bits_back (take n p) (good-take bit (word_laws 1) 0 refl refl n p good)))

  activations-are : part activations_part v ≡ words_of (maybe wide) (filled 64 None (take n (rows_at (maybe wide) 64 (part activations_part v))))
  activations-are =
      unset-ruled (maybe wide) activations-laws None refl refl n few (part activations_part v) (part-long activations_part (omega arith) v s.long) (s.parts.fit activations_part (omega arith)) s.parts.activations

  positions-are : part positions_part v ≡ words_of (maybe (word 15)) (filled 64 None (take n (rows_at (maybe any) 64 (part positions_part v))))
  positions-are =
      unset-ruled (maybe any) positions-laws None refl refl n few (part positions_part v) (part-long positions_part (omega arith) v s.long) (s.parts.fit positions_part (omega arith)) s.parts.positions
      ∙ sym (words-wider (maybe (word 15)) (maybe any) (maybe-wider (word-wider 15 4294967295 (omega arith))) (filled 64 None (take n (rows_at (maybe any) 64 (part positions_part v)))))

  variables-are : part variables_part v ≡ (most 16 variable_row).put (map variable_row_of (map variable_of ((most 16 variable_row).get (part variables_part v))))
  variables-are =
      let h = table-part variable_row variable-laws variables_part 16 (omega arith) refl v s in
      let l = (most 16 variable_row).get (part variables_part v) in
      h.words ∙ ap (most 16 variable_row).put (sym (rows_back l (and_parts (leb (length l) 16) (all_good variable_row l) h.good).1))

  -- every record holds its number, none was accepted, and the last activation number has 64 bits
  module _ (numbers : stored_count v ≡ pending_count v) (none-new : accepted v ≡ 0) (last_Fits : (meaning v).last_number ≤ max64) where
    pending-are : part pending_part v ≡ (most 32 parts.pending_row).put (meaning v).pending
    unfolding meaning stored_count pending_count
    pending-are =
        let h = table-part pending_row pending-laws pending_part 32 (omega arith) refl v s in
        let l = records_in (cut part_sizes v) in
        let c = holds-count pending_row pending-laws 32 (part pending_part v) l h in
        h.words
        ∙ ap (most 32 pending_row).put (sym (numbered-all (base_in (cut part_sizes v)) (stored_in (cut part_sizes v)) l (omega (arith, c, numbers))))
        ∙ sym (most-wider parts.pending_row pending_row pending-wider 32 (meaning v).pending)

    week-are : part week_part v ≡ (maybe (word 10079)).put ((maybe any).get (part week_part v))
    week-are =
        one-row (maybe any) positions-laws (part week_part v) (s.parts.fit week_part (omega arith)) (part-long week_part (omega arith) v s.long)
        ∙ sym ((maybe-wider (word-wider 10079 4294967295 (omega arith))).put ((maybe any).get (part week_part v)))

    next-is : part next_part v ≡ wide.put (meaning v).next
    unfolding meaning accepted
    next-is =
        one-row wide wide_laws (part next_part v) (s.parts.fit next_part (omega arith)) (part-long next_part (omega arith) v s.long)
        ∙ ap wide.put (sym (ap (λ (x : ℕ). wide.get (part next_part v) + x) none-new ∙ add-zero (wide.get (part next_part v))))

    last-is : part last_part v ≡ wide.put (meaning v).last_number
    unfolding meaning
    last-is =
        one-row wide wide_laws (part last_part v) (s.parts.fit last_part (omega arith)) (part-long last_part (omega arith) v s.long)
        ∙ ap wide.put (sym (ap (λ (x : ℕ). wide.get (part last_part v) + x) (none-beyond v s last_Fits) ∙ add-zero (wide.get (part last_part v))))

    pub committed : take changing_words v ≡ changing_part.put (changing_of (meaning v))
    unfolding meaning changing_part
    committed =
        let timers = (table-part timer_row timer-laws timers_part 16 (omega arith) refl v s).words in
        let slots = (table-part slot_row slot_laws slots_part 64 (omega arith) refl v s).words in
        let counters : part counters_part v ++ [] ≡ words_of any (part counters_part v) = append-nil (part counters_part v) ∙ sym (any-words (part counters_part v)) in
        sym (cut-first part_sizes v 11) ∙ eleven v ∙ whole bits_are activations-are positions-are variables-are timers slots pending-are week-are next-is last-is counters
      where
        whole : {a b c d e f g h i k l a' b' c' d' e' f' g' h' i' k' l' : List ℕ} → a ≡ a' → b ≡ b' → c ≡ c' → d ≡ d' → e ≡ e' → f ≡ f' → g ≡ g' → h ≡ h' → i ≡ i' → k ≡ k' → l ≡ l'
            → a ++ (b ++ (c ++ (d ++ (e ++ (f ++ (g ++ (h ++ (i ++ (k ++ l))))))))) ≡ a' ++ (b' ++ (c' ++ (d' ++ (e' ++ (f' ++ (g' ++ (h' ++ (i' ++ (k' ++ l')))))))))
        whole o p q r s t u v x y z = λ k. o k ++ (p k ++ (q k ++ (r k ++ (s k ++ (t k ++ (u k ++ (v k ++ (x k ++ (y k ++ z k)))))))))

pub wrote : (w v w' : List ℕ) → AllNumbered v (meaning v) → w' ≡ laid w state_place (take changing_words v) → Wrote w (meaning v) w'
wrote w v w' a e =
    let c = committed v a.sound a.stored a.none_accepted a.last_fits in
    record {
      placed = e ∙ ap (laid w state_place) c;
      long = ap length (sym c) ∙ length-take-le changing_words v (omega (arith, a.sound.long));
    }
