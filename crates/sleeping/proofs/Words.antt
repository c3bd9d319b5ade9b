-- The words of stores that agree but for the last time and the previous week minute.
use mathlib.Core.Path.{◌≡◌, refl, ap, sym, ◌∙◌}
use Prim.Native.Nat.{ℕ, ◌+◌, ◌-◌, ◌^◌, ◌<◌, ◌≤◌}
use native.Mathlib.Omega.{arith}
use mathlib.Core.Bool.{Bool, true, false, ◌&&◌}
use mathlib.Core.List.{List, ◌++◌}
use Rattle.std.specs.Prelude.{Option, None, Some}
use lib.Dec.{leb, ltb, eqb}
use lib.ListN.{length, get_or, get_or-append, get_or-eq_default}
use lib.Seq.{get_or-append-add}
use borrow.Author.Tests.{ltb-true, ltb-false, le-leb}
use Rattle.std.proofs.lemmas.Bool.{and_parts, or_parts}
use Rattle.model.specs.Layout.{sizes}
use Rattle.model.specs.Codec.{word, wide, maybe, all_good, all, most}
use Rattle.model.specs.Parts.{bit, variable_row, timer_row, slot_row, pending_row, Loaded, Changing, changing_part, loaded_part, layout}
use Rattle.model.specs.State.{Store}
use Rattle.model.specs.Store.{loaded_of, changing_of, parts_of, write, Keeps}
use Rattle.model.proofs.RowLaws.{word_laws, wide_laws, maybe-laws, word_blank, wide-blank}
use Rattle.model.proofs.CodecLaws.{all_laws, most-laws}
use Rattle.model.proofs.PartsLaws.{variable-laws, timer-laws, slot_laws, pending-laws, loaded-laws, changing-laws}
use Rattle.ledger.proofs.ListLaws.{by}
use Rattle.sleeping.specs.Sleeping.{with_times}
use Rattle.sleeping.specs.OnWords.{minute_at, is_time_word}

-- equal wherever a test fails
record Apart (P : ℕ → Bool) (xs ys : List ℕ) : Type 0 where
  at : (i : ℕ) → P i ≡ false → get_or xs i 0 ≡ get_or ys i 0

same : (P : ℕ → Bool) (xs : List ℕ) → Apart P xs xs
same P xs = record { at = λ i h. refl }

-- the test holds at all their places
hidden : (P : ℕ → Bool) (n : ℕ) (xs ys : List ℕ) → length xs ≡ n → length ys ≡ n → ((i : ℕ) → P i ≡ false → n ≤ i) → Apart P xs ys
hidden P n xs ys e f far =
    record {
      at = λ i h.
          let le = far i h in
          let a : length xs ≤ i = omega arith in
          let b : length ys ≤ i = omega arith in
          get_or-eq_default xs 0 a ∙ sym (get_or-eq_default ys 0 b);
    }

behind : (xs zs : List ℕ) (n i : ℕ) → length xs ≡ n → n ≤ i → get_or (xs ++ zs) i 0 ≡ get_or zs (i - n) 0
behind xs zs n i e le =
    let q : i ≡ length xs + (i - n) = omega arith in
    ap (λ k. get_or (xs ++ zs) k 0) q ∙ get_or-append-add xs zs (i - n) 0

chain : (P : ℕ → Bool) (n : ℕ) (xs ys zs us : List ℕ) → length xs ≡ n → length ys ≡ n → Apart P xs ys → Apart (λ i. P (n + i)) zs us → Apart P (xs ++ zs) (ys ++ us)
chain P n xs ys zs us e f a b =
    record {
      at = λ i h.
          by (ltb i n)
          (λ t.
          let lt = ltb-true i n t in
          let p : i < length xs = omega arith in
          let q : i < length ys = omega arith in
          get_or-append xs zs 0 i p ∙ a.at i h ∙ sym (get_or-append ys us 0 i q))
          (λ t.
          let le = ltb-false i n t in
          let q : n + (i - n) ≡ i = omega arith in
          behind xs zs n i e le ∙ b.at (i - n) (ap P q ∙ h) ∙ sym (behind ys us n i f le));
    }

-- the same words in front
front : (P : ℕ → Bool) (n : ℕ) (xs zs us : List ℕ) → length xs ≡ n → Apart (λ i. P (n + i)) zs us → Apart P (xs ++ zs) (xs ++ us)
front P n xs zs us e b = chain P n xs xs zs us e e (same P xs) b

-- THE TWO PLACES ------------------------------------------------------------------------------------------------------------------
last-hidden : (i : ℕ) → is_time_word i ≡ false → 2 ≤ i
unfolding is_time_word
last-hidden i h = ltb-false i 2 (or_parts (ltb i 2) (leb minute_at i && ltb i (2 + minute_at)) h).0

minute-hidden : (i : ℕ) → is_time_word (minute_at + i) ≡ false → 2 ≤ i
unfolding is_time_word
minute-hidden i h =
    let a = (or_parts (ltb (minute_at + i) 2) (leb minute_at (minute_at + i) && ltb (minute_at + i) (2 + minute_at)) h).1 in
    let b : leb minute_at (minute_at + i) ≡ true = le-leb minute_at (minute_at + i) (omega arith) in
    let c : ltb (minute_at + i) (2 + minute_at) ≡ false = rw b at a in
    let d = ltb-false (minute_at + i) (2 + minute_at) c in
    omega arith

-- THE WORDS OF A STORE --------------------------------------------------------------------------------------------------------------
abbrev with_min : Option ℕ → Changing → Changing
with_min k m =
    record { bits = m.bits; activations = m.activations; positions = m.positions; variables = m.variables; timers = m.timers; slots = m.slots; pending = m.pending; prev_week_min = k; next = m.next; last_number = m.last_number; counters = m.counters }

changing-apart : (P : ℕ → Bool) (k : Option ℕ) (m : Changing) → changing_part.good m ≡ true
    → ((i : ℕ) → P (64 + (192 + (128 + (65 + (49 + (321 + (481 + i))))))) ≡ false → 2 ≤ i)
    → Apart P (changing_part.put (with_min k m)) (changing_part.put m)
unfolding changing_part sizes
changing-apart P k m g far =
    let g1 = and_parts (eqb (length m.bits) 64 && all_good bit m.bits) _ g in
    let g2 = and_parts (eqb (length m.activations) 64 && all_good (maybe wide) m.activations) _ g1.1 in
    let g3 = and_parts (eqb (length m.positions) 64 && all_good (maybe (word 15)) m.positions) _ g2.1 in
    let g4 = and_parts (leb (length m.variables) 16 && all_good variable_row m.variables) _ g3.1 in
    let g5 = and_parts (leb (length m.timers) 16 && all_good timer_row m.timers) _ g4.1 in
    let g6 = and_parts (leb (length m.slots) 64 && all_good slot_row m.slots) _ g5.1 in
    let g7 = and_parts (leb (length m.pending) 32 && all_good pending_row m.pending) _ g6.1 in
    front P 64 ((all 64 bit).put m.bits) _ _ ((all_laws 64 (word_laws 1)).long m.bits g1.0)
    (front _ 192 ((all 64 (maybe wide)).put m.activations) _ _ ((all_laws 64 (maybe-laws wide_laws wide-blank)).long m.activations g2.0)
    (front _ 128 ((all 64 (maybe (word 15))).put m.positions) _ _ ((all_laws 64 (maybe-laws (word_laws 15) (word_blank 15))).long m.positions g3.0)
    (front _ 65 ((most 16 variable_row).put m.variables) _ _ ((most-laws 16 variable-laws).long m.variables g4.0)
    (front _ 49 ((most 16 timer_row).put m.timers) _ _ ((most-laws 16 timer-laws).long m.timers g5.0)
    (front _ 321 ((most 64 slot_row).put m.slots) _ _ ((most-laws 64 slot_laws).long m.slots g6.0)
    (front _ 481 ((most 32 pending_row).put m.pending) _ _ ((most-laws 32 pending-laws).long m.pending g7.0)
    (chain _ 2 ((maybe (word 10079)).put k) ((maybe (word 10079)).put m.prev_week_min) _ _ (minute-long k) (minute-long m.prev_week_min)
    (hidden _ 2 _ _ (minute-long k) (minute-long m.prev_week_min) far)
    (same _ _))))))))
  where
    minute-long : (o : Option ℕ) → length ((maybe (word 10079)).put o) ≡ 2
    minute-long None = refl
    minute-long (Some x) = refl

loaded-long : (l : Loaded) → loaded_part.good l ≡ true → length (loaded_part.put l) ≡ 12419
unfolding sizes loaded_part
loaded-long l g = loaded-laws.long l g

changing-long : (m : Changing) → changing_part.good m ≡ true → length (changing_part.put m) ≡ 1318
unfolding sizes changing_part
changing-long m g = changing-laws.long m g

changing-good : (s : Store) → Keeps s → changing_part.good (changing_of s.vol) ≡ true
unfolding parts_of layout
changing-good s h =
    let g = and_parts (ltb s.now (2 ^ 64)) _ h.room in
    let l = and_parts (loaded_part.good (loaded_of s.loaded)) _ g.1 in
    (and_parts (changing_part.good (changing_of s.vol)) true l.1).0

loaded-good : (s : Store) → Keeps s → loaded_part.good (loaded_of s.loaded) ≡ true
unfolding parts_of layout
loaded-good s h = let g = and_parts (ltb s.now (2 ^ 64)) _ h.room in (and_parts (loaded_part.good (loaded_of s.loaded)) _ g.1).0

pub write-apart : (t : ℕ) (k : Option ℕ) (s : Store) → Keeps s → Keeps (with_times t k s) → (i : ℕ) → is_time_word i ≡ false → get_or (write (with_times t k s)) i 0 ≡ get_or (write s) i 0
unfolding write parts_of layout
write-apart t k s h h' =
    (chain is_time_word 2 (wide.put t) (wide.put s.now) _ _ refl refl (hidden is_time_word 2 _ _ refl refl last-hidden)
    (front _ 12419 (loaded_part.put (loaded_of s.loaded)) _ _ (loaded-long (loaded_of s.loaded) (loaded-good s h))
    (chain _ 1318 (changing_part.put (with_min k (changing_of s.vol))) (changing_part.put (changing_of s.vol)) _ _ (changing-long _ (changing-good (with_times t k s) h')) (changing-long _ (changing-good s h))
    (changing-apart _ k (changing_of s.vol) (changing-good s h) (λ i q. minute-hidden i (ap is_time_word (omega arith) ∙ q)))
    (same _ _)))).at
