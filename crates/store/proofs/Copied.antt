-- The words that a state begins with are the store's. Assumes nothing.
use mathlib.Core.Path.{◌≡◌, refl, sym, ap, ◌∙◌}
use mathlib.Core.List.{List, ◌++◌, append_assoc, append-nil}
use Rattle.std.specs.Prelude.{None}
use Prim.Native.Nat.{ℕ, ◌+◌, ◌-◌, ◌*◌, ◌≤◌}
use native.Mathlib.Nat.{mul-one}
use native.Mathlib.Omega.{arith}
use lib.ListN.{length, take, drop, replicate, length-append, length-drop, drop_of_length-le}
use lib.Seq.{take_at, drop_at, drop-drop, length-take-le}
use Rattle.words.specs.Pairs.{low_of, high_of}
use Rattle.model.specs.Layout.{sizes}
use Rattle.model.specs.Codec.{word, wide, maybe, most, words_of}
use Rattle.model.specs.Lists.{flatten}
use Rattle.model.specs.Parts.{any, bit, variable_row, timer_row, slot_row, Changing, loaded_part, changing_part, layout}
use Rattle.model.specs.Parts as parts
use Rattle.model.specs.Store.{filled, volatile_in}
use Rattle.model.proofs.PartsLaws.{pending-laws, loaded-laws, changing-laws, layout-laws}
use Rattle.model.proofs.RowLaws.{word_laws, rows_long}
use Rattle.rows.specs.Places.{row_at, laid}
use Rattle.rows.proofs.Writing.{lays, and-then}
use Rattle.state.specs.Meaning.{pending_row, place_of, bits_part, activations_part, positions_part, variables_part, stored_part, accepted_part, rules_part, state_words, AllNumbered}
use Rattle.store.specs.Places.{set_words, state_place, activations_place, positions_place, variables_place, pending_place, changing_words}
use Rattle.store.specs.Set.{loaded_in}
use Rattle.store.specs.Volatile.{changing_in, Readable, first_of}
use Rattle.store.proofs.Parts.{pending-at, table-long, good-loaded, good-changing}
use Rattle.store.proofs.RuleRows.{words-ruled, ruled-long}
use Rattle.store.proofs.Stored.{loaded-size, changing-size}
use Rattle.store.proofs.Wider.{word-wider, maybe-wider, pending-wider, words-wider, most-wider}
use Rattle.store.proofs.Begin.{Good, good_of, activations-laws, positions-laws, pieces, pieces-long, begun}

all_laid : (v x : List ℕ) → length x ≡ length v → laid v 0 x ≡ x
unfolding laid
all_laid v x e = ap (λ (y : List ℕ). x ++ y) (drop_of_length-le v {i = 0 + length x} (omega arith)) ∙ append-nil x

-- lists that stand one behind the other from place k on
module _ (a b c d rest w : List ℕ) (k : ℕ) (e : drop k w ≡ (a ++ (b ++ (c ++ d))) ++ rest) where
  tail : drop k w ≡ a ++ (b ++ (c ++ (d ++ rest)))
  tail = e ∙ simp append_assoc

  behind : (n : ℕ) (x y : List ℕ) (j : ℕ) → drop j w ≡ x ++ y → length x ≡ n → drop (j + n) w ≡ y
  behind n x y j q l = sym (drop-drop n j w) ∙ ap (drop n) q ∙ drop_at x y n l

  first-is : (n : ℕ) → length a ≡ n → take n (drop k w) ≡ a
  first-is n l = ap (take n) tail ∙ take_at a (b ++ (c ++ (d ++ rest))) n l

  second_is : (n m : ℕ) → length a ≡ n → length b ≡ m → take m (drop (k + n) w) ≡ b
  second_is n m l l₁ = ap (take m) (behind n a _ k tail l) ∙ take_at b (c ++ (d ++ rest)) m l₁

  third-is : (n m o : ℕ) → length a ≡ n → length b ≡ m → length c ≡ o → take o (drop (k + n + m) w) ≡ c
  third-is n m o l l₁ l₂ = ap (take o) (behind m b _ (k + n) (behind n a _ k tail l) l₁) ∙ take_at c (d ++ rest) o l₂

  fourth-is : (n m o p : ℕ) → length a ≡ n → length b ≡ m → length c ≡ o → length d ≡ p → take p (drop (k + n + m + o) w) ≡ d
  fourth-is n m o p l l₁ l₂ l₃ = ap (take p) (behind o c _ (k + n + m) (behind m b _ (k + n) (behind n a _ k tail l) l₁) l₂) ∙ take_at d rest p l₃

-- variables and what stands behind them
abbrev others : Changing → List ℕ
others m =
    (most 16 variable_row).put m.variables
    ++ ((most 16 timer_row).put m.timers
    ++ ((most 64 slot_row).put m.slots
    ++ ((most 32 parts.pending_row).put m.pending
    ++ ((maybe (word 10079)).put m.prev_week_min ++ (wide.put m.next ++ (wide.put m.last_number ++ words_of any m.counters))))))

module _ (w : List ℕ) (r : Readable w) where
  abbrev m : Changing
  m = changing_in w

  good : Good m
  good = good_of m (good-changing w r.fit)

  -- the words of what calls change
  words-at : drop state_place w ≡ changing_part.put m ++ (replicate 2645 0 ++ drop (sizes layout.parts) w)
  unfolding layout changing_in
  words-at =
      let p = layout.get w in
      let l = loaded_part.put p.set in
      let c = changing_part.put p.changing in
      let z : List ℕ = replicate 2645 0 in
      let e = drop (sizes layout.parts) w in
      let a : drop 2 w ≡ (l ++ (c ++ z)) ++ e = ap (drop 2) (sym (layout-laws.writes w r.fit).0) in
      let long = loaded-laws.long p.set (unfold loaded_in in good-loaded w r.fit) ∙ loaded-size in
      let t : (l ++ (c ++ z)) ++ e ≡ l ++ (c ++ (z ++ e)) = simp append_assoc in
      sym (drop-drop set_words 2 w) ∙ ap (drop set_words) (a ∙ t) ∙ drop_at l (c ++ (z ++ e)) set_words long

  -- in four groups, and what stands behind them
  abbrev bits : List ℕ
  bits = words_of bit m.bits

  abbrev activations : List ℕ
  activations = words_of (maybe wide) m.activations

  abbrev positions : List ℕ
  positions = words_of (maybe (word 15)) m.positions

  abbrev behind-all : List ℕ
  behind-all = replicate 2645 0 ++ drop (sizes layout.parts) w

  groups-at : drop state_place w ≡ (bits ++ (activations ++ (positions ++ others m))) ++ behind-all
  unfolding changing_part
  groups-at = words-at

  module _ (n : ℕ) (h : n ≤ 64) where
    bits-long : length bits ≡ 64
    bits-long = rows_long bit (word_laws 1) m.bits ∙ rw good.bits_long

    activations-long : length activations ≡ 192
    activations-long = rows_long (maybe wide) activations-laws m.activations ∙ rw good.activations_long

    -- the places of the code, and what stands there
    bits-words : first_of n (take (activations_place - state_place) (drop state_place w)) ≡ words_of bit (filled 64 0 (take n m.bits))
    bits-words =
        ap (first_of n) (first-is bits activations positions (others m) behind-all w state_place groups-at 64 bits-long)
        ∙ ap (λ (k : ℕ). first_of k bits) (sym (mul-one n))
        ∙ words-ruled bit (word_laws 1) 0 refl refl n h m.bits good.bits_long

    activations-words : first_of (n * 3) (take (positions_place - activations_place) (drop activations_place w)) ≡ words_of (maybe wide) (filled 64 None (take n m.activations))
    activations-words =
        ap (first_of (n * 3)) (second_is bits activations positions (others m) behind-all w state_place groups-at 64 192 bits-long activations-long)
        ∙ words-ruled (maybe wide) activations-laws None refl refl n h m.activations good.activations_long

    positions-same : words_of (maybe (word 15)) m.positions ≡ words_of (maybe any) m.positions
    positions-same = words-wider (maybe (word 15)) (maybe any) (maybe-wider (word-wider 15 4294967295 (omega arith))) m.positions

    positions-long : length positions ≡ 128
    positions-long = ap length positions-same ∙ rows_long (maybe any) positions-laws m.positions ∙ rw good.positions_long

    positions-words : first_of (n * 2) (take (variables_place - positions_place) (drop positions_place w)) ≡ words_of (maybe any) (filled 64 None (take n m.positions))
    positions-words =
        ap (first_of (n * 2)) (third-is bits activations positions (others m) behind-all w state_place groups-at 64 192 128 bits-long activations-long positions-long ∙ positions-same)
        ∙ words-ruled (maybe any) positions-laws None refl refl n h m.positions good.positions_long

    others-long : length (others m) ≡ changing_words - place_of variables_part
    unfolding changing_part
    others-long =
        let whole = changing-laws.long m (good-changing w r.fit) ∙ changing-size in
        let e = length-append bits (activations ++ (positions ++ others m)) in
        let f = length-append activations (positions ++ others m) in
        let g = length-append positions (others m) in
        omega (arith, whole, e, f, g, bits-long, activations-long, positions-long)

    others-words : take (state_place + changing_words - variables_place) (drop variables_place w) ≡ others m
    others-words = fourth-is bits activations positions (others m) behind-all w state_place groups-at 64 192 128 (changing_words - place_of variables_part) bits-long activations-long positions-long others-long

    pending-count : row_at any w pending_place ≡ length m.pending
    pending-count = sym (ap length (pending-at w) ∙ table-long parts.pending_row pending-laws (row_at any w pending_place) w (pending_place + 1))

    -- the parts behind the rules, one by one
    pieces_are : words_of bit (filled 64 0 (take n m.bits))
        ++ (words_of (maybe wide) (filled 64 None (take n m.activations))
        ++ (words_of (maybe any) (filled 64 None (take n m.positions))
        ++ (others m ++ (any.put (length m.pending) ++ (replicate 4 0 ++ any.put n))))) ≡ flatten (pieces n m)
    unfolding low_of high_of
    pieces_are =
        let p = most-wider parts.pending_row pending_row pending-wider 32 m.pending in
        let k = (maybe-wider (word-wider 10079 4294967295 (omega arith))).put m.prev_week_min in
        let front : List ℕ → List ℕ = λ (x : List ℕ). words_of bit (filled 64 0 (take n m.bits)) ++ (words_of (maybe wide) (filled 64 None (take n m.activations)) ++ (words_of (maybe any) (filled 64 None (take n m.positions)) ++ x)) in
        (λ i. front (((most 16 variable_row).put m.variables ++ ((most 16 timer_row).put m.timers ++ ((most 64 slot_row).put m.slots ++ (p i ++ (k i ++ (wide.put m.next ++ (wide.put m.last_number ++ words_of any m.counters))))))) ++ (any.put (length m.pending) ++ (replicate 4 0 ++ any.put n))))
        ∙ ap front (regroup ((most 16 variable_row).put m.variables) ((most 16 timer_row).put m.timers) ((most 64 slot_row).put m.slots) ((most 32 pending_row).put m.pending) ((maybe any).put m.prev_week_min) (wide.put m.next) (wide.put m.last_number) (words_of any m.counters) (any.put (length m.pending) ++ (replicate 4 0 ++ any.put n)))
      where
        regroup : (a b c d e f g h i : List ℕ) → (a ++ (b ++ (c ++ (d ++ (e ++ (f ++ (g ++ h))))))) ++ i ≡ a ++ (b ++ (c ++ (d ++ (e ++ (f ++ (g ++ (h ++ i)))))))
        regroup a b c d e f g h i = simp append_assoc

    -- the code's writes, in order
    module _ (v v₁ v₂ v₃ v₄ v₅ v₆ v₇ : List ℕ) (count : ℕ) (long : length v ≡ state_words) where
      pub copied : v₁ ≡ laid v (place_of bits_part) (first_of n (take (activations_place - state_place) (drop state_place w)))
          → v₂ ≡ laid v₁ (place_of activations_part) (first_of (n * 3) (take (positions_place - activations_place) (drop activations_place w)))
          → v₃ ≡ laid v₂ (place_of positions_part) (first_of (n * 2) (take (variables_place - positions_place) (drop positions_place w)))
          → v₄ ≡ laid v₃ (place_of variables_part) (take (state_place + changing_words - variables_place) (drop variables_place w))
          → count ≡ row_at any w pending_place
          → v₅ ≡ laid v₄ (place_of stored_part) (any.put count)
          → v₆ ≡ laid v₅ (place_of accepted_part) (replicate 4 0)
          → v₇ ≡ laid v₆ (place_of rules_part) (any.put n)
          → AllNumbered v₇ (volatile_in n m)
      copied e₁ e₂ e₃ e₄ k e₅ e₆ e₇ =
          let a = words_of bit (filled 64 0 (take n m.bits)) in
          let b = words_of (maybe wide) (filled 64 None (take n m.activations)) in
          let c = words_of (maybe any) (filled 64 None (take n m.positions)) in
          let d = others m in
          let la : length a ≡ 64 = rows_long bit (word_laws 1) (filled 64 0 (take n m.bits)) ∙ rw (ruled-long bit (word_laws 1) 0 refl refl n h m.bits good.bits_long) in
          let lb : length b ≡ 192 = rows_long (maybe wide) activations-laws (filled 64 None (take n m.activations)) ∙ rw (ruled-long (maybe wide) activations-laws None refl refl n h m.activations good.activations_long) in
          let lc : length c ≡ 128 = rows_long (maybe any) positions-laws (filled 64 None (take n m.positions)) ∙ rw (ruled-long (maybe any) positions-laws None refl refl n h m.positions good.positions_long) in
          let ld = others-long in
          let f₁ : v₁ ≡ laid v 0 a = e₁ ∙ ap (laid v 0) bits-words in
          let f₂ : v₂ ≡ laid v₁ (place_of activations_part) b = e₂ ∙ ap (laid v₁ (place_of activations_part)) activations-words in
          let f₃ : v₃ ≡ laid v₂ (place_of positions_part) c = e₃ ∙ ap (laid v₂ (place_of positions_part)) positions-words in
          let f₄ : v₄ ≡ laid v₃ (place_of variables_part) d = e₄ ∙ ap (laid v₃ (place_of variables_part)) others-words in
          let f₅ : v₅ ≡ laid v₄ (place_of stored_part) (any.put (length m.pending)) = e₅ ∙ ap (λ (x : ℕ). laid v₄ (place_of stored_part) (any.put x)) (k ∙ pending-count) in
          let whole : v₇ ≡ laid v 0 (flatten (pieces n m)) =
          and-then v v₁ v₇ 0 (place_of activations_part) a _ (omega arith) (omega arith) f₁
          (λ l₁. and-then v₁ v₂ v₇ (place_of activations_part) (place_of positions_part) b _ (omega arith) (omega arith) f₂
          (λ l₂. and-then v₂ v₃ v₇ (place_of positions_part) (place_of variables_part) c _ (omega arith) (omega arith) f₃
          (λ l₃. and-then v₃ v₄ v₇ (place_of variables_part) (place_of stored_part) d _ (omega arith) (omega arith) f₄
          (λ l₄. and-then v₄ v₅ v₇ (place_of stored_part) (place_of accepted_part) (any.put (length m.pending)) _ (omega arith) refl f₅
          (λ l₅. lays v₅ v₆ v₇ (place_of accepted_part) (place_of rules_part) (replicate 4 0) (any.put n) (omega arith) refl e₆ e₇)))))
          ∙ ap (laid v 0) pieces_are in
          let size = pieces-long m good n h in
          let is : v₇ ≡ flatten (pieces n m) = whole ∙ all_laid v (flatten (pieces n m)) (omega arith) in
          begun m good n h r.texts v₇ (ap length is ∙ size) is

-- A PART OF A STORE THAT IS LENT --------------------------------------------------------------------------------------------------------------
module _ (w : List ℕ) (n : ℕ) (same : n ≡ state_words) (a b k m : ℕ) (up : a ≤ b) (within : b ≤ length w) (room : k + (b - a) ≤ state_words) (few : m ≤ b - a) where
  lent-long : length (take (b - a) (drop a w)) ≡ b - a
  lent-long = length-take-le (b - a) (drop a w) (rw (length-drop a w) (omega arith))

  pub lent_fits : (k + length (take (b - a) (drop a w)) ≤ n) × (m ≤ length (take (b - a) (drop a w)))
  lent_fits = (rw (lent-long, same) room, rw lent-long few)

-- the first m words of a list, and zeros behind them
module _ (v v₁ v₂ p : List ℕ) (k m : ℕ) (room : k + length p ≤ length v) (few : m ≤ length p) where
  pub first-put : v₁ ≡ laid v k (take m p) → v₂ ≡ laid v₁ (k + m) (replicate (length p - m) 0) → v₂ ≡ laid v k (first_of m p)
  first-put e f = lays v v₁ v₂ k (k + m) (take m p) (replicate (length p - m) 0) (omega arith) (rw (length-take-le m p few)) e f
