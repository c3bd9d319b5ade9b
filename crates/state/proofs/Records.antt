-- The pending records of a state. Assumes nothing.
use mathlib.Core.Path.{◌≡◌, refl, sym, ap, subst, ◌∙◌}
use mathlib.Core.Bool.{Bool, true, false, not, or-true}
use mathlib.Core.List.{List, [], ◌∷◌, ◌++◌, map}
use Prim.Native.Nat.{ℕ, zero, suc, ◌+◌, ◌-◌, ◌≤◌, ◌<◌}
use native.Mathlib.Omega.{arith}
use native.Mathlib.Numerals.{add-one}
use lib.Dec.{leb, eqb}
use lib.ListN.{length, get_or, take, drop, set, replicate, length-append, length-map, length-take, take-append-drop}
use lib.Seq.{drop-append-le, drop-append_seam, get_or-take}
use borrow.Author.Tests.{le-leb, lt-leb, lt-ltb}
use borrow.Rule.Slice.PartMut.{put_mid}
use Rattle.std.proofs.lemmas.List.{take-map}
use Rattle.std.proofs.lemmas.Bool.{and_from}
use Rattle.words.specs.Pairs.{low_of, high_of}
use Rattle.words.specs.Saturating.{saturating_add, max64}
use Rattle.words.proofs.Laws.{joined_words}
use Rattle.model.specs.Layout.{row_fits, rows_fit, zeros, up_to}
use Rattle.model.specs.Codec.{Row, wide, most, rows_at, words_of, all_good}
use Rattle.model.specs.Parts.{any, pending_is}
use Rattle.model.specs.Parts as parts
use Rattle.model.specs.State as model
use Rattle.model.specs.State.{with_rest, bump_by, is_full, strike, continuations_dropped, continuations_scheduled}
use Rattle.model.specs.Lists.{keep}
use Rattle.model.specs.Exec as exec
use Rattle.model.specs.Wheel.{not_due}
use Rattle.model.specs.declared.Pending.{Pending}
use Rattle.state.specs.declared.pending.Continuation.{Continuation}
use Rattle.model.proofs.RowLaws.{RowLaws, wide_laws, ⊗-laws, as_row_laws, pad-laws}
use Rattle.model.proofs.PartsLaws.{any_laws, jump-laws}
use Rattle.rows.specs.Places.{laid, row_at, table_at}
use Rattle.rows.proofs.Writing.{one_set}
use Rattle.state.specs.Cuts.{cut, rows_in, table_of, passes, is_other, is_later, Fits, Table}
use Rattle.state.specs.Meaning.{pending_row, part_sizes, pending_part, next_part, stored_part, accepted_part, place_of, words_in, meaning_of, base_in, stored_in, accepted_in, records_in, numbered, offset_from, Below, meaning, base, accepted, stored_count, pending_count, Sound, Means, MeansSoundly, Holds, Counted}
use Rattle.state.specs.Selection.{records_at}
use Rattle.state.specs.Pending.{later_than, with_next, with_record, kept_by, closed_up, ClosesUp, due_times, emptied, Schedules}
use Rattle.state.proofs.Closing.{keep_append}
use Rattle.state.proofs.Tables.{to-come}
use Rattle.state.proofs.Numbers.{numbered-length, numbered-all, numbered-joins, keep-numbered, below-append, below_more, below-keep}
use Rattle.state.proofs.Typed.{keep-rows, few-keep, holds_rows, holds-keep, holds-get, holds-count, holds-few, holds_fits, holds-table}
use Rattle.state.proofs.Held.{table-read}
use Rattle.state.proofs.Frame.{shaped, Changed, changed-laid, table-lent, table-back, table-laid, across, sound-of, sound-by, part-is, part_at, part-word}
use Rattle.state.proofs.Follows.{means, follows, next-is}

pub pending-laws : RowLaws pending_row
pending-laws =
    as_row_laws pending_is (⊗-laws wide_laws (⊗-laws wide_laws (⊗-laws any_laws (⊗-laws any_laws (⊗-laws any_laws (⊗-laws jump-laws (⊗-laws any_laws (⊗-laws any_laws (⊗-laws wide_laws (pad-laws 1))))))))))

unfoldable pub records : List ℕ → List Pending
records w = records_in (cut part_sizes w)

module _ (w : List ℕ) (s : Sound w) where
  abbrev lent : List ℕ
  lent = take (words_in pending_part) (drop (place_of pending_part) w)

  pub records-lent : Counted 32 pending_row lent
  records-lent = table-lent pending_row pending-laws pending_part 32 (omega arith) refl w s

  pub records-are : (most 32 pending_row).get lent ≡ records w
  unfolding records
  records-are = ap (most 32 pending_row).get (sym (part-is pending_part (omega arith) w))

  pub records-hold : Holds 32 pending_row lent (records w)
  records-hold = rw records-are at records-lent

  pub records-fit : Fits 15 lent
  records-fit = holds_fits pending_row pending-laws 32 _ _ records-hold (omega arith) (omega arith) (omega arith)

  pub records-table : Table 15 lent
  records-table = holds-table pending_row pending-laws 32 _ _ records-hold (omega arith) (omega arith) (omega arith)

  lent-count : get_or lent 0 0 ≡ get_or w (place_of pending_part) 0
  lent-count = part-word (place_of pending_part) (words_in pending_part) w 0 (omega arith)

  pub records-count : get_or w (place_of pending_part) 0 ≡ length (records w)
  records-count = sym lent-count ∙ holds-count pending_row pending-laws 32 _ _ records-hold

  pub records-few : get_or w (place_of pending_part) 0 ≤ 32
  records-few = rw records-count (holds-few pending_row pending-laws 32 _ _ records-hold)

  pub pending-length : length (meaning w).pending ≡ get_or w (place_of pending_part) 0
  unfolding meaning records
  pending-length = numbered-length (base_in (cut part_sizes w)) (stored_in (cut part_sizes w)) (records_in (cut part_sizes w)) ∙ sym records-count

  pub lent_length : get_or lent 0 0 ≡ length (meaning w).pending
  lent_length = lent-count ∙ sym pending-length

  pub stored_at : get_or w (place_of stored_part) 0 ≡ stored_in (cut part_sizes w)
  stored_at = sym (part_at stored_part (omega arith) w 0 (omega arith))

  stored-few : stored_in (cut part_sizes w) ≤ length (records w)
  stored-few = omega (arith, s.parts.stored, records-count, part_at pending_part (omega arith) w 0 (omega arith))

  pub stored-within : get_or w (place_of stored_part) 0 ≤ get_or lent 0 0
  stored-within = omega (arith, stored_at, stored-few, records-count, lent-count)

  -- other records
  pub records-changed : (w' p : List ℕ) (l : List Pending) → Changed w w' pending_part p → Holds 32 pending_row p l → stored_in (cut part_sizes w) ≤ length l
      → Below (accepted_in (cut part_sizes w)) (drop (stored_in (cut part_sizes w)) l)
      → MeansSoundly w' (base w) (record { rest = (meaning w).rest; pending = numbered (base w) (stored_in (cut part_sizes w)) l; next = (meaning w).next; last_number = (meaning w).last_number })
  unfolding cut meaning base
  records-changed w' p l c h a b =
      let g = holds-get pending_row pending-laws 32 p l h in
      let k = holds-count pending_row pending-laws 32 p l h in
      let q = across w s in
      record {
        says = ap meaning_of c.cuts ∙ ap (λ (x : List Pending). record { rest = (meaning w).rest; pending = numbered (base w) (stored_in (cut part_sizes w)) x; next = (meaning w).next; last_number = (meaning w).last_number }) g;
        sound = sound-by w w' pending_part p c (rw k a, rw g b, q.2, q.3, q.4, q.5, q.6);
        based = ap base_in c.cuts;
      }

  -- one more
  pub records-join : (p : List ℕ) (x : Pending) → x.seq < accepted w → Holds 32 pending_row p ((most 32 pending_row).get lent ++ (x ∷ []))
      → MeansSoundly (put_mid (place_of pending_part) (words_in pending_part) w p) (base w) (with_record (base w) x (meaning w))
  unfolding accepted records meaning base
  records-join p x less h =
      let l : List Pending = records_in (cut part_sizes w) in
      let st : ℕ = stored_in (cut part_sizes w) in
      let h' : Holds 32 pending_row p (l ++ (x ∷ [])) = rw records-are at h in
      let c = table-back pending_row pending-laws pending_part 32 (omega arith) refl w p _ s h' in
      let n = stored-few in
      let m : length (l ++ (x ∷ [])) ≡ length l + 1 = length-append l (x ∷ []) in
      let b : Below (accepted w) (drop st (l ++ (x ∷ []))) = rw (drop-append-le st l (x ∷ []) n) (below-append (accepted w) (drop st l) (x ∷ []) s.parts.offsets (less, tt)) in
      subst (λ (y : List Pending). MeansSoundly (put_mid (place_of pending_part) (words_in pending_part) w p) (base w) (record { rest = (meaning w).rest; pending = y; next = (meaning w).next; last_number = (meaning w).last_number })) (numbered-joins (base w) st l x n)
      (records-changed _ p (l ++ (x ∷ [])) c h' (omega arith) b)

-- A NUMBER IS GIVEN ---------------------------------------------------------------------------------------------------------------------------
pub both_words : (w : List ℕ) → wide.get (take 2 w) ≡ wide.get w
both_words w = rw (get_or-take 2 w 0 0 (omega arith), get_or-take 2 w 1 0 (omega arith))

pub accepted-at : (w : List ℕ) → row_at wide w (place_of accepted_part) ≡ accepted w
unfolding accepted row_at
accepted-at w = sym (ap wide.get (part-is accepted_part (omega arith) w) ∙ both_words (drop (place_of accepted_part) w))

pub next-at : (w : List ℕ) → row_at wide w (place_of next_part) ≡ base w
unfolding base row_at
next-at w = sym (ap wide.get (part-is next_part (omega arith) w) ∙ both_words (drop (place_of next_part) w))

-- a number of two words is written as a part
pub wide_fits : (x : ℕ) → x ≤ max64 → (wide.get (wide.put x) ≡ x) × (rows_fit 1 wide.cells (wide.put x) ≡ true)
unfolding rows_fit
wide_fits x h = let q = wide_laws.reads x [] (lt-ltb x 18446744073709551616 (omega arith)) in (q.0, and_from _ _ q.1 refl)

pub word_fits : (m x : ℕ) → x ≤ m → rows_fit 1 (up_to m ∷ []) (x ∷ []) ≡ true
unfolding rows_fit row_fits zeros
word_fits m x h = and_from _ _ (and_from _ _ (and_from _ _ (le-leb x m h) (or-true (not (eqb x 0)))) refl) refl

pub accepts-one : (w w' : List ℕ) (k : ℕ) → Sound w → k ≡ accepted w → k < max64 → w' ≡ laid w (place_of accepted_part) (wide.put (k + 1))
    → MeansSoundly w' (base w) (with_next (meaning w)) × (accepted w' ≡ suc k)
unfolding cut meaning base accepted
accepts-one w w' k s e less b =
    let q = wide_fits (k + 1) (omega arith) in
    let a = across w s in
    let c : Changed w w' accepted_part (wide.put (k + 1)) = rw b (changed-laid accepted_part (omega arith) w (wide.put (k + 1)) (shaped w s) refl q.1) in
    let r : wide.get (wide.put (k + 1)) ≡ suc k = q.0 ∙ add-one k in
    let more : Below (wide.get (wide.put (k + 1))) (drop (stored_in (cut part_sizes w)) (records_in (cut part_sizes w))) = rw (q.0, e) (below_more (accepted w) (drop (stored_in (cut part_sizes w)) (records_in (cut part_sizes w))) s.parts.offsets) in
    let next_one : base w + wide.get (wide.put (k + 1)) ≡ suc (base w + accepted w) = rw (r, ← e) (omega arith) in (
      record {
        says = ap meaning_of c.cuts ∙ ap (λ (x : ℕ). record { rest = (meaning w).rest; pending = (meaning w).pending; next = x; last_number = (meaning w).last_number }) next_one;
        sound = sound-by w w' accepted_part (wide.put (k + 1)) c (a.0, more, a.2, a.3, a.4, a.5, a.6);
        based = ap base_in c.cuts;
      },
      ap accepted_in c.cuts ∙ r,
    )

module _ (w : List ℕ) (s : Sound w) (time : ℕ) (x : Continuation) where
  full_is : is_full (meaning w) ≡ leb 32 (get_or w (place_of pending_part) 0)
  unfolding is_full
  full_is = ap (leb 32) (pending-length w s)

  pub scheduled : (w₁ w₂ w₃ : List ℕ) (seq due : ℕ) → get_or w (place_of pending_part) 0 < 32 → due ≡ saturating_add max64 time x.ms → Means w₁ (base w) (with_next (meaning w)) → seq ≡ accepted w
      → let p : Pending = record { rule = x.rule; point = x.point; due = due; budget = x.budget; trigger = x.trigger; seq = seq; number = x.number } in
      Means w₂ (base w₁) (with_record (base w₁) p (meaning w₁)) → Means w₃ (base w₂) (with_rest (bump_by continuations_scheduled 1 (meaning w₂).rest) (meaning w₂)) → Schedules w time x w₃ 0
  unfolding exec.schedule exec.accepted
  scheduled w₁ w₂ w₃ seq due h d m₁ q m₂ m₃ e j t r k n =
      let p : Pending = record { rule = x.rule; point = x.point; due = due; budget = x.budget; trigger = x.trigger; seq = seq; number = x.number } in
      let room : is_full (meaning w) ≡ false = full_is ∙ lt-leb 32 (get_or w (place_of pending_part) 0) h in
      let b : base w₁ ≡ base w = m₁.based in
      let m₂' : Means w₂ (base w₁) (with_record (base w) p (meaning w₁)) = subst (λ (a : ℕ). Means w₂ (base w₁) (with_record a p (meaning w₁))) b m₂ in
      let two = follows (with_record (base w) p) w₁ w₂ (base w) (with_next (meaning w)) m₁ m₂' in
      let three = follows (λ v. with_rest (bump_by continuations_scheduled 1 v.rest) v) w₂ w₃ (base w) _ two m₃ in
      let numbers : base w + seq ≡ (meaning w).next = rw q (next-is w) in
      let f : ℕ → ℕ → model.Volatile = λ d n. record {
        rest = bump_by continuations_scheduled 1 (meaning w).rest;
        pending = (meaning w).pending ++ (record { rule = x.rule; point = x.point; due = d; budget = x.budget; trigger = x.trigger; seq = n; number = x.number } ∷ []);
        next = suc (meaning w).next;
        last_number = (meaning w).last_number;
      } in
      let four : Means w₃ (base w) (f (saturating_add max64 time x.ms) (meaning w).next) =
      subst (λ (n : ℕ). Means w₃ (base w) (f (saturating_add max64 time x.ms) n)) numbers (subst (λ (a : ℕ). Means w₃ (base w) (f a (base w + seq))) d three) in
      rw (room, t, r, k, n) (four, refl)

  pub dropped-one : (w₁ : List ℕ) → 32 ≤ get_or w (place_of pending_part) 0 → Means w₁ (base w) (with_rest (bump_by continuations_dropped 1 (meaning w).rest) (meaning w)) → Schedules w time x w₁ 2
  unfolding exec.schedule exec.dropped
  dropped-one w₁ h m e j t r k n =
      let room : is_full (meaning w) ≡ true = full_is ∙ le-leb 32 (get_or w (place_of pending_part) 0) h in
      rw room (m, refl)

-- RECORDS THAT LEAVE --------------------------------------------------------------------------------------------------------------------------
-- of those that pass, the ones among the first records stand in front
in-front : (p : Pending → Bool) (k : ℕ) (l : List Pending) → keep p l ≡ keep p (take k l) ++ keep p (drop k l)
in-front p k l = sym (ap (keep p) (take-append-drop k l)) ∙ keep_append p (take k l) (drop k l)

-- a test of words behind the number is the same of an offset
abbrev pub PastNumber : (List ℕ → Bool) → Type 0
PastNumber test = (n : ℕ) (c : Pending) → kept_by test (offset_from n c) ≡ kept_by test c

behind_two : (a b c d : ℕ) (l : List ℕ) (at : ℕ) → 2 ≤ at → drop at (a ∷ b ∷ l) ≡ drop at (c ∷ d ∷ l)
behind_two a b c d l zero h = absurd (omega arith)
behind_two a b c d l (suc zero) h = absurd (omega arith)
behind_two a b c d l (suc (suc at)) h = refl

pub past_number : {A : Type 0} (r : Row A) (at : ℕ) (test : A → Bool) → 2 ≤ at → PastNumber (passes r at test)
unfolding row_at
past_number r at test h n c = ap (λ (l : List ℕ). test (r.get l)) (behind_two (low_of (n + c.seq)) (high_of (n + c.seq)) (low_of c.seq) (high_of c.seq) (drop 2 (pending_row.put c)) at h)

module _ (w : List ℕ) (s : Sound w) (test : List ℕ → Bool) where
  abbrev mine : List ℕ
  mine = take (words_in pending_part) (drop (place_of pending_part) w)

  abbrev st : ℕ
  st = stored_in (cut part_sizes w)

  front-is : length (keep test (take (get_or w (place_of stored_part) 0) (rows_in 15 mine))) ≡ length (keep (kept_by test) (take st (records w)))
  front-is =
      let h = holds_rows pending_row pending-laws 32 _ _ (records-hold w s) in
      ap (λ (x : List (List ℕ)). length (keep test (take (get_or w (place_of stored_part) 0) x))) h
      ∙ ap (λ (k : ℕ). length (keep test (take k (map pending_row.put (records w))))) (stored_at w s)
      ∙ ap (λ (x : List (List ℕ)). length (keep test x)) (take-map pending_row.put st (records w))
      ∙ ap length (keep-rows pending_row pending-laws 32 test (kept_by test) (λ a. refl) (take st (records w)))
      ∙ simp length-map

  pub front-small : (front : ℕ) → front ≡ length (keep test (take (get_or w (place_of stored_part) 0) (rows_in 15 mine))) → front ≤ 32
  front-small front e =
      let k = few-keep pending_row pending-laws 32 test (kept_by test) (λ a. refl) (take st (records w)) in
      let t : length (take st (records w)) ≤ length (records w) = simp length-take (omega arith) in
      omega (arith, e ∙ front-is, k, holds-few pending_row pending-laws 32 _ _ (records-hold w s))

  module _ (past : PastNumber test) where
    closes : (p w₁ w₂ : List ℕ) (front : ℕ) → p ≡ table_of (length mine - 1) (keep test (rows_in 15 mine))
        → front ≡ length (keep test (take (get_or w (place_of stored_part) 0) (rows_in 15 mine))) → w₁ ≡ put_mid (place_of pending_part) (words_in pending_part) w p → w₂ ≡ set w₁ (place_of stored_part) front
        → MeansSoundly w₂ (base w) (closed_up test (meaning w))
    unfolding cut meaning base records
    closes p w₁ w₂ front e f e₁ e₂ =
        let l : List Pending = records_in (cut part_sizes w) in
        let q : Pending → Bool = kept_by test in
        let h : Holds 32 pending_row p (keep q l) = holds-keep pending_row pending-laws 32 test q (λ a. refl) mine p l (records-hold w s) e in
        let k : front ≡ length (keep q (take st l)) = f ∙ front-is in
        let g = holds-get pending_row pending-laws 32 p (keep q l) h in
        let n = holds-count pending_row pending-laws 32 p (keep q l) h in
        let m = holds-few pending_row pending-laws 32 p (keep q l) h in
        let split = in-front q st l in
        let sizes = ap length split ∙ length-append (keep q (take st l)) (keep q (drop st l)) in
        let c₁ : Changed w w₁ pending_part p = rw e₁ (table-back pending_row pending-laws pending_part 32 (omega arith) refl w p _ s h) in
        let z : w₂ ≡ laid w₁ (place_of stored_part) (front ∷ []) = e₂ ∙ one_set w₁ (place_of stored_part) front (omega (arith, c₁.shape.long)) in
        let c₂ : Changed w₁ w₂ stored_part (front ∷ []) = rw z (changed-laid stored_part (omega arith) w₁ (front ∷ []) c₁.shape refl (word_fits 32 front (omega arith))) in
        let cuts : cut part_sizes w₂ ≡ set (set (cut part_sizes w) pending_part p) stored_part (front ∷ []) = c₂.cuts ∙ ap (λ (ps : List (List ℕ)). set ps stored_part (front ∷ [])) c₁.cuts in
        let num : numbered (base w) front ((most 32 pending_row).get p) ≡ keep q (numbered (base w) st l) = rw (g, k) (sym (keep-numbered (base w) q (past (base w)) st l)) in
        let seam : drop front (keep q l) ≡ keep q (drop st l) = rw (k, split) (drop-append_seam (keep q (take st l)) (keep q (drop st l))) in
        let below : Below (accepted_in (cut part_sizes w)) (drop front ((most 32 pending_row).get p)) = rw (g, seam) (below-keep _ q (drop st l) s.parts.offsets) in
        let a = across w s in
        record {
          says = ap meaning_of cuts ∙ ap (λ (x : List Pending). record { rest = (meaning w).rest; pending = x; next = (meaning w).next; last_number = (meaning w).last_number }) num;
          sound = sound-of w₂ _ cuts c₂.shape (omega arith, below, a.2, a.3, a.4, a.5, a.6);
          based = ap base_in cuts;
        }

    -- how many are left
    left-count : (left : ℕ) → left ≡ length (keep test (rows_in 15 mine)) → left ≡ length (keep (kept_by test) (meaning w).pending)
    unfolding meaning base records
    left-count left e =
        let l : List Pending = records_in (cut part_sizes w) in
        e ∙ ap (λ (x : List (List ℕ)). length (keep test x)) (holds_rows pending_row pending-laws 32 _ _ (records-hold w s))
        ∙ ap length (keep-rows pending_row pending-laws 32 test (kept_by test) (λ a. refl) l)
        ∙ (let m : length (map pending_row.put (keep (kept_by test) l)) ≡ length (keep (kept_by test) l) = simp length-map in m)
        ∙ sym (ap length (keep-numbered (base w) (kept_by test) (past (base w)) st l) ∙ numbered-length (base w) _ (keep (kept_by test) l))

    pub left-few : (left : ℕ) → left ≡ length (keep test (rows_in 15 mine)) → left ≤ get_or w (place_of pending_part) 0
    left-few left e = omega (arith, left-count left e, few-keep pending_row pending-laws 32 test (kept_by test) (λ a. refl) (meaning w).pending, pending-length w s)

    pub closes-up : (p w₁ w₂ : List ℕ) (front left : ℕ) → p ≡ table_of (length mine - 1) (keep test (rows_in 15 mine))
        → front ≡ length (keep test (take (get_or w (place_of stored_part) 0) (rows_in 15 mine))) → left ≡ length (keep test (rows_in 15 mine))
        → w₁ ≡ put_mid (place_of pending_part) (words_in pending_part) w p → w₂ ≡ set w₁ (place_of stored_part) front → ClosesUp test w w₂ (get_or w (place_of pending_part) 0 - left)
    closes-up p w₁ w₂ front left e f g e₁ e₂ = (closes p w₁ w₂ front e f e₁ e₂, omega (arith, left-count left g, left-few left g, pending-length w s))

pub strikes : (w w₁ w₂ : List ℕ) (rule gone : ℕ) → ClosesUp (passes any 4 (is_other rule)) w w₁ gone
    → Means w₂ (base w₁) (with_rest (bump_by continuations_dropped gone (meaning w₁).rest) (meaning w₁)) → Means w₂ (base w) (strike rule (meaning w))
unfolding strike row_at
strikes w w₁ w₂ rule gone c m =
    let left : List Pending = keep (kept_by (passes any 4 (is_other rule))) (meaning w).pending in
    let e : gone ≡ length (meaning w).pending - length left = omega (arith, c.1) in
    subst (λ (x : ℕ). Means w₂ (base w) (with_rest (bump_by continuations_dropped x (meaning w).rest) (closed_up (passes any 4 (is_other rule)) (meaning w)))) e
    (follows (λ v. with_rest (bump_by continuations_dropped gone v.rest) v) w₁ w₂ (base w) _ (means c.0) m)

pub keep_same : {A : Type 0} (p q : A → Bool) → ((c : A) → p c ≡ q c) → (l : List A) → keep p l ≡ keep q l
keep_same p q e [] = refl
keep_same p q e (c ∷ l) = rw (e c, keep_same p q e l)

pub due-leaves : (w w₁ : List ℕ) (time gone : ℕ) → ClosesUp (passes wide 2 (is_later time)) w w₁ gone → MeansSoundly w₁ (base w) (not_due time (meaning w))
unfolding not_due row_at
due-leaves w w₁ time gone c =
    subst (λ (l : List Pending). MeansSoundly w₁ (base w) (record { rest = (meaning w).rest; pending = l; next = (meaning w).next; last_number = (meaning w).last_number }))
    (keep_same (kept_by (passes wide 2 (is_later time))) (later_than time) (λ p. ap (is_later time) (joined_words p.due) ∙ to-come time p.due) (meaning w).pending) c.0

-- ALL LEAVE -------------------------------------------------------------------------------------------------------------------------------------
pub none-stored : (w : List ℕ) → Sound w → (meaning w).pending ≡ [] → stored_count w ≡ pending_count w
unfolding stored_count pending_count
none-stored w s e =
    let None : get_or w (place_of pending_part) 0 ≡ 0 = sym (pending-length w s) ∙ ap length e in
    omega (arith, None, s.parts.stored, part_at pending_part (omega arith) w 0 (omega arith))

pub all-leave : (w w₁ w₂ : List ℕ) → Sound w → w₁ ≡ laid w (place_of pending_part) (replicate (words_in pending_part) 0) → w₂ ≡ set w₁ (place_of stored_part) 0
    → MeansSoundly w₂ (base w) (record { rest = (meaning w).rest; pending = []; next = (meaning w).next; last_number = (meaning w).last_number })
unfolding cut meaning base words_of all_good rows_at numbered
all-leave w w₁ w₂ s e₁ e₂ =
    let h : Holds 32 pending_row (replicate (words_in pending_part) 0) [] = record { words = refl; good = refl } in
    let c₁ : Changed w w₁ pending_part (replicate (words_in pending_part) 0) = rw e₁ (table-laid pending_row pending-laws pending_part 32 (omega arith) refl w _ _ s h) in
    let e : w₂ ≡ laid w₁ (place_of stored_part) (0 ∷ []) = e₂ ∙ one_set w₁ (place_of stored_part) 0 (omega (arith, c₁.shape.long)) in
    let c₂ : Changed w₁ w₂ stored_part (0 ∷ []) = rw e (changed-laid stored_part (omega arith) w₁ (0 ∷ []) c₁.shape refl (word_fits 32 0 (omega arith))) in
    let cuts : cut part_sizes w₂ ≡ set (set (cut part_sizes w) pending_part (replicate (words_in pending_part) 0)) stored_part (0 ∷ []) = c₂.cuts ∙ ap (λ (ps : List (List ℕ)). set ps stored_part (0 ∷ [])) c₁.cuts in
    let a = across w s in
    record { says = ap meaning_of cuts; sound = sound-of w₂ _ cuts c₂.shape (omega arith, tt, a.2, a.3, a.4, a.5, a.6); based = ap base_in cuts }

pub all-dropped : (w w₁ w₂ : List ℕ) (n : ℕ) → Sound w → Sound w₂ → n ≡ get_or w (place_of pending_part) 0 → Means w₁ (base w) (record { rest = (meaning w).rest; pending = []; next = (meaning w).next; last_number = (meaning w).last_number })
    → Means w₂ (base w₁) (with_rest (bump_by continuations_dropped n (meaning w₁).rest) (meaning w₁)) → Means w₂ (base w) (emptied (meaning w)) × (stored_count w₂ ≡ pending_count w₂)
all-dropped w w₁ w₂ n s s₂ e m₁ m₂ =
    let m : Means w₂ (base w) (emptied (meaning w)) =
    subst (λ (x : ℕ). Means w₂ (base w) (with_rest (bump_by continuations_dropped x (meaning w).rest) (record { rest = (meaning w).rest; pending = []; next = (meaning w).next; last_number = (meaning w).last_number }))) (e ∙ sym (pending-length w s))
    (follows (λ v. with_rest (bump_by continuations_dropped n v.rest) v) w₁ w₂ (base w) _ m₁ m₂) in
    (m, none-stored w₂ s₂ (ap (λ (v : model.Volatile). v.pending) m.says))

-- WHAT IS DUE -----------------------------------------------------------------------------------------------------------------------------------
-- the rows of the layout are read as those of a state
rows_same : (n : ℕ) (w : List ℕ) → rows_at parts.pending_row n w ≡ rows_at pending_row n w
unfolding rows_at
rows_same zero w = refl
rows_same (suc n) w = ap (λ (l : List Pending). pending_row.get w ∷ l) (rows_same n (drop 15 w))

pub records-read : (w : List ℕ) → Sound w → stored_count w ≡ pending_count w → (n : ℕ) → n ≡ get_or w (place_of pending_part) 0 → records_at n w ≡ (meaning w).pending
unfolding records_at table_at stored_count pending_count meaning records
records-read w s all n e =
    let read : table_at pending_row n w (place_of pending_part + 1) ≡ records w = ap (λ (i : ℕ). table_at pending_row i w (place_of pending_part + 1)) e ∙ table-read pending_row pending-laws 32 w (place_of pending_part) (words_in pending_part) (records w) (records-hold w s) in
    let few : length (records w) ≤ stored_in (cut part_sizes w) = omega (arith, all, records-count w s, part_at pending_part (omega arith) w 0 (omega arith)) in
    rows_same n (drop (place_of pending_part + 1) w) ∙ read ∙ sym (numbered-all (base_in (cut part_sizes w)) (stored_in (cut part_sizes w)) (records w) few)

-- those that are counted in the words are those of the words
pub rows-counted : (w : List ℕ) → table_at parts.pending_row (get_or w (place_of pending_part) 0) w (place_of pending_part + 1) ≡ records_at (pending_count w) w
unfolding records_at pending_count
rows-counted w = ap (λ (n : ℕ). table_at parts.pending_row n w (place_of pending_part + 1)) (sym (part_at pending_part (omega arith) w 0 (omega arith)))

-- their numbers do not change their times
times-offset : (b : ℕ) (ps : List Pending) → due_times (map (offset_from b) ps) ≡ due_times ps
times-offset b [] = refl
times-offset b (p ∷ ps) = ap (λ (l : List ℕ). p.due ∷ l) (times-offset b ps)

times-numbered : (b n : ℕ) (ps : List Pending) → due_times (numbered b n ps) ≡ due_times ps
unfolding numbered
times-numbered b zero ps = times-offset b ps
times-numbered b (suc n) [] = refl
times-numbered b (suc n) (p ∷ ps) = ap (λ (l : List ℕ). p.due ∷ l) (times-numbered b n ps)

pub times-read : (w : List ℕ) → Sound w → (l : List Pending) → l ≡ table_at parts.pending_row (get_or w (place_of pending_part) 0) w (place_of pending_part + 1) → due_times l ≡ due_times (meaning w).pending
unfolding table_at meaning records
times-read w s l e =
    let k = place_of pending_part in
    let read = table-read pending_row pending-laws 32 w k (words_in pending_part) (records w) (records-hold w s) in
    ap due_times (e ∙ rows_same (get_or w k 0) (drop (k + 1) w) ∙ read) ∙ sym (times-numbered (base_in (cut part_sizes w)) (stored_in (cut part_sizes w)) (records w))
