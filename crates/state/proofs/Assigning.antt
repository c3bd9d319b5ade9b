-- The records of a call get their numbers. Assumes nothing.
use Prim.Native.Nat.{ℕ, zero, suc, ◌+◌, ◌-◌, ◌*◌, ◌^◌, ◌≤◌, ◌<◌}
use native.Mathlib.Nat.{add-zero}
use native.Mathlib.Numerals.{add-one}
use native.Mathlib.Omega.{arith}
use mathlib.Core.Bool.{Bool, true, false}
use mathlib.Core.Path.{◌≡◌, refl, sym, ap, subst, ◌∙◌}
use mathlib.Core.List.{List, [], ◌∷◌, ◌++◌}
use lib.Dec.{leb}
use lib.ListN.{length, take, drop, get_or, set, length-set, length-take, length-drop, drop_of_length-le}
use lib.Seq.{take-suc, drop-set-lt, get_or-drop, length-take-le}
use borrow.Author.Tests.{leb-true, leb-false, le-leb, lt-leb}
use borrow.Rule.Slice.PartMut.{put_mid}
use Rattle.words.specs.Saturating.{max64}
use Rattle.std.proofs.lemmas.List.{take_more_set}
use Rattle.std.proofs.lemmas.Grind.{drop_more_same}
use Rattle.model.specs.Codec.{wide, most}
use Rattle.model.specs.State as model
use Rattle.model.specs.declared.Pending.{Pending}
use Rattle.rows.specs.Places.{laid, row_at}
use Rattle.state.specs.Cuts.{cut, Words}
use Rattle.state.specs.Meaning.{pending_row, part_sizes, pending_part, next_part, stored_part, accepted_part, place_of, words_in, meaning_of, accepted_in, numbered, offset_from, Below, meaning, base, accepted, stored_count, pending_count, Sound, AllNumbered, Holds, Counted}
use Rattle.rows.proofs.Writing.{one_set}
use Rattle.state.proofs.Closing.{at_rest}
use Rattle.state.proofs.Numbers.{numbered-all, numbered-joins}
use Rattle.state.proofs.Typed.{holds-get, holds-count, holds-few, holds-long, holds-set}
use Rattle.state.proofs.Good.{words-laid, pending-roomy}
use Rattle.state.proofs.Held.{row_read, row_stays, laid-first}
use Rattle.state.proofs.Frame.{Changed, changed-laid, table-back, across, sound-of, part_at}
use Rattle.state.proofs.Follows.{next-is}
use Rattle.state.proofs.Records.{pending-laws, records, records-are, stored_at, accepted-at, next-at, wide_fits, word_fits}

-- ---- the test for 31
module _ (a b m : ℕ) (h : b ≤ m) where
  moved_by : (t : Bool) → leb (b + a) m ≡ t → leb a (m - b) ≡ t
  moved_by true e = let f = leb-true (b + a) m e in le-leb a (m - b) (omega arith)
  moved_by false e = let f = leb-false (b + a) m e in lt-leb a (m - b) (omega arith)

  sum_fits : leb a (m - b) ≡ leb (b + a) m
  sum_fits = moved_by (leb (b + a) m) refl

next-sum : (w : List ℕ) (a b : ℕ) → a ≡ row_at wide w (place_of accepted_part) → b ≡ row_at wide w (place_of next_part) → b + a ≡ (meaning w).next
next-sum w a b e f = rw (e, f, accepted-at w, next-at w) (next-is w)

pub next_fits : (w : List ℕ) (a b : ℕ) → a ≡ row_at wide w (place_of accepted_part) → b ≡ row_at wide w (place_of next_part) → b ≤ max64 → leb a (max64 - b) ≡ leb (meaning w).next max64
next_fits w a b e f h = sum_fits a b max64 h ∙ ap (λ (n : ℕ). leb n max64) (next-sum w a b e f)

-- ---- the loop over a list: the first i have their numbers
numbers_stay : (base n : ℕ) (ps : List Pending) → numbered base n (take n ps) ≡ take n ps
numbers_stay base n ps = numbered-all base n (take n ps) (simp length-take (omega arith))

-- an offset is below the number of records accepted
below_at : (n : ℕ) (ps : List Pending) (k : ℕ) (d : Pending) → Below n ps → k < length ps → (get_or ps k d).seq < n
below_at n [] k d b h = absurd (omega arith)
below_at n (p ∷ ps) zero d b h = b.0
below_at n (p ∷ ps) (suc k) d b h = below_at n ps k d b.1 (omega arith)

pub record Numbering (base stored : ℕ) (a₀ a : List Pending) (i : ℕ) : Type 0 where
  pub long : length a ≡ length a₀
  pub done : take i a ≡ numbered base stored (take i a₀)
  pub rest : drop i a ≡ drop i a₀

module _ (base stored : ℕ) where
  numbering-none : (a : List Pending) → Numbering base stored a a stored
  numbering-none a = record { long = refl; done = sym (numbers_stay base stored a); rest = refl }

  module _ (a₀ a : List Pending) (i : ℕ) (d : Pending) (inv : Numbering base stored a₀ a i) where
    offset-below : (accepted : ℕ) → Below accepted (drop stored a₀) → stored ≤ i → i < length a₀ → (get_or a i d).seq < accepted
    offset-below accepted b f h =
        let left = length-drop stored a₀ in
        let place : stored + (i - stored) ≡ i = omega arith in
        let at : get_or (drop stored a₀) (i - stored) d ≡ get_or a₀ i d = get_or-drop stored a₀ (i - stored) d ∙ rw place in
        rw (at_rest a₀ a i d inv.rest, ← at) (below_at accepted (drop stored a₀) (i - stored) d b (omega arith))

    numbering-more : stored ≤ i → i < length a → Numbering base stored a₀ (set a i (offset_from base (get_or a i d))) (i + 1)
    numbering-more f h =
        let same = at_rest a₀ a i d inv.rest in
        let room : i < length a₀ = omega (arith, inv.long) in
        let size = length-take-le i a₀ (omega arith) in
        let one : take (i + 1) a₀ ≡ take i a₀ ++ (get_or a₀ i d ∷ []) = rw add-one (take-suc a₀ i d room) in
        record {
          long = length-set a i _ ∙ inv.long;
          done =
              take_more_set a i _ h
              ∙ rw (inv.done, same) (sym (ap (numbered base stored) one ∙ numbered-joins base stored (take i a₀) (get_or a₀ i d) (omega arith)));
          rest = drop-set-lt (i + 1) a i _ (omega arith) ∙ drop_more_same a a₀ i inv.rest;
        }

-- ---- the same over the rows of a table
abbrev get : List ℕ → List Pending
get = (most 32 pending_row).get

pub record Numbers (next stored : ℕ) (t₀ t : List ℕ) (i : ℕ) : Type 0 where
  pub counted : Counted 32 pending_row t
  pub numbering : Numbering next stored (get t₀) (get t) i

module _ (next stored : ℕ) (t₀ : List ℕ) (start : Counted 32 pending_row t₀) where
  pub numbers-none : Numbers next stored t₀ t₀ stored
  numbers-none = record { counted = start; numbering = numbering-none next stored (get t₀) }

  module _ (t : List ℕ) (i n : ℕ) (v : Numbers next stored t₀ t i) (few : n ≡ get_or t₀ 0 0) where
    numbers-length : length (get t) ≡ n
    numbers-length = v.numbering.long ∙ sym (few ∙ holds-count pending_row pending-laws 32 t₀ (get t₀) start)

    pub numbers-long : length t ≡ words_in pending_part
    numbers-long = holds-long pending_row pending-laws 32 t (get t) v.counted

    module _ (offset : ℕ) (from : stored ≤ i) (less : i < n) (e : offset ≡ row_at wide t (1 + i * 15)) where
      abbrev old : Pending
      old = get_or (get t) i (row_at pending_row t (1 + i * 15))

      within : i < length (get t)
      within = rw numbers-length less

      offset-is : offset ≡ old.seq
      unfolding row_at
      offset-is = e ∙ ap (λ (p : Pending). p.seq) (row_read pending_row pending-laws 32 t (get t) i (row_at pending_row t (1 + i * 15)) v.counted within)

      pub offset-small : (accepted : ℕ) → Below accepted (drop stored (get t₀)) → offset < accepted
      offset-small accepted b =
          let long = v.numbering.long in
          rw offset-is (offset-below next stored (get t₀) (get t) i (row_at pending_row t (1 + i * 15)) v.numbering accepted b from (rw long at within))

      pub numbers_more : (t₁ : List ℕ) → t₁ ≡ laid t (1 + i * 15) (wide.put (next + offset)) → Words t₁ → Numbers next stored t₀ t₁ (i + 1)
      numbers_more t₁ b words =
          let k : ℕ = 1 + i * 15 in
          let x : Pending = offset_from next old in
          let room = holds-few pending_row pending-laws 32 t (get t) v.counted in
          let below : k ≤ length t = omega (arith, numbers-long, numbers-length) in
          let row : t₁ ≡ laid t k (pending_row.put x) =
          b ∙ ap (λ (o : ℕ). laid t k (wide.put (next + o))) offset-is
          ∙ ap (λ (y : List ℕ). laid y k (wide.put (next + old.seq))) (sym (row_stays pending_row pending-laws 32 t (get t) i (row_at pending_row t k) v.counted within))
          ∙ laid-first t (wide.put old.seq) (drop 2 (pending_row.put old)) (wide.put (next + old.seq)) k below refl in
          let h = holds-set pending_row pending-laws 32 t t₁ (get t) x i v.counted within (pending-roomy.fits x (words-laid t k (pending_row.put x) t₁ row words)) row in
          let g = holds-get pending_row pending-laws 32 t₁ (set (get t) i x) h in
          record {
            counted = subst (Holds 32 pending_row t₁) (sym g) h;
            numbering = subst (λ (l : List Pending). Numbering next stored (get t₀) l (i + 1)) (sym g) (numbering-more next stored (get t₀) (get t) i (row_at pending_row t k) v.numbering from within);
          }

below-more : (a b : ℕ) (ps : List Pending) → a ≤ b → Below a ps → Below b ps
below-more a b [] h x = tt
below-more a b (p ∷ ps) h x = (omega (arith, x.0), below-more a b ps h x.1)

-- ---- the words of a state
module _ (w : List ℕ) (s : Sound w) (next acc : ℕ) (n : next ≡ row_at wide w (place_of next_part)) (a : acc ≡ row_at wide w (place_of accepted_part)) where
  abbrev lent : List ℕ
  lent = take (words_in pending_part) (drop (place_of pending_part) w)

  pub next_small : leb (meaning w).next max64 ≡ true → next + acc ≤ max64
  next_small h = leb-true (next + acc) max64 (ap (λ (x : ℕ). leb x max64) (next-sum w acc next a n) ∙ h)

  offsets-below : Below acc (drop (get_or w (place_of stored_part) 0) ((most 32 pending_row).get lent))
  unfolding records accepted
  offsets-below = rw (a, accepted-at w, stored_at w s, records-are w s) s.parts.offsets

  -- no number that is given wraps
  pub offsets-small : leb (meaning w).next max64 ≡ true → Below (2 ^ 64 - next) (drop (get_or w (place_of stored_part) 0) ((most 32 pending_row).get lent))
  offsets-small h = below-more acc (2 ^ 64 - next) _ (omega (arith, next_small h)) offsets-below

  module _ (fits : leb (meaning w).next max64 ≡ true) (last_Fits : (meaning w).last_number ≤ max64) (p w₁ w₂ w₃ w₄ : List ℕ) (count : ℕ)
      (h : Holds 32 pending_row p (numbered next (get_or w (place_of stored_part) 0) ((most 32 pending_row).get lent))) (e₁ : w₁ ≡ put_mid (place_of pending_part) (words_in pending_part) w p) where
    lent_back : Changed w w₁ pending_part p
    lent_back = rw e₁ (table-back pending_row pending-laws pending_part 32 (omega arith) refl w p _ s h)

    same-records : numbered next (get_or w (place_of stored_part) 0) ((most 32 pending_row).get lent) ≡ (meaning w).pending
    unfolding records meaning base
    same-records = rw (n, next-at w, stored_at w s, records-are w s)

    count-is : get_or w₁ (place_of pending_part) 0 ≡ length (meaning w).pending
    unfolding cut
    count-is =
        sym (part_at pending_part (omega arith) w₁ 0 (omega arith)) ∙ ap (λ (ps : List (List ℕ)). get_or (get_or ps pending_part []) 0 0) lent_back.cuts
        ∙ holds-count pending_row pending-laws 32 p _ h ∙ ap length same-records

    pub all-numbered : count ≡ get_or w₁ (place_of pending_part) 0 → w₂ ≡ set w₁ (place_of stored_part) count → w₃ ≡ laid w₂ (place_of next_part) (wide.put (next + acc)) → w₄ ≡ laid w₃ (place_of accepted_part) (wide.put 0)
        → AllNumbered w₄ (meaning w)
    unfolding cut meaning stored_count pending_count accepted
    all-numbered e e₂ e₃ e₄ =
        let l : List Pending = (meaning w).pending in
        let h' : Holds 32 pending_row p l = rw same-records at h in
        let g = holds-get pending_row pending-laws 32 p l h' in
        let m = holds-count pending_row pending-laws 32 p l h' in
        let few = holds-few pending_row pending-laws 32 p l h' in
        let k : count ≡ length l = e ∙ count-is in
        let q = wide_fits (next + acc) (next_small fits) in
        let z = wide_fits 0 (omega arith) in
        let e₂' : w₂ ≡ laid w₁ (place_of stored_part) (count ∷ []) = e₂ ∙ one_set w₁ (place_of stored_part) count (omega (arith, lent_back.shape.long)) in
        let c₂ : Changed w₁ w₂ stored_part (count ∷ []) = rw e₂' (changed-laid stored_part (omega arith) w₁ (count ∷ []) lent_back.shape refl (word_fits 32 count (omega arith))) in
        let c₃ : Changed w₂ w₃ next_part (wide.put (next + acc)) = rw e₃ (changed-laid next_part (omega arith) w₂ (wide.put (next + acc)) c₂.shape refl q.1) in
        let c₄ : Changed w₃ w₄ accepted_part (wide.put 0) = rw e₄ (changed-laid accepted_part (omega arith) w₃ (wide.put 0) c₃.shape refl z.1) in
        let ps : List (List ℕ) = set (set (set (set (cut part_sizes w) pending_part p) stored_part (count ∷ [])) next_part (wide.put (next + acc))) accepted_part (wide.put 0) in
        let cuts : cut part_sizes w₄ ≡ ps =
        c₄.cuts ∙ ap (λ (x : List (List ℕ)). set x accepted_part (wide.put 0)) (c₃.cuts ∙ ap (λ (x : List (List ℕ)). set x next_part (wide.put (next + acc))) (c₂.cuts ∙ ap (λ (x : List (List ℕ)). set x stored_part (count ∷ [])) lent_back.cuts)) in
        let end : drop count ((most 32 pending_row).get p) ≡ [] = rw g (drop_of_length-le l {i = count} (omega arith)) in
        let num : numbered (wide.get (wide.put (next + acc))) count ((most 32 pending_row).get p) ≡ l = rw g (numbered-all (wide.get (wide.put (next + acc))) count l (omega arith)) in
        let number : wide.get (wide.put (next + acc)) + wide.get (wide.put 0) ≡ (meaning w).next = rw (q.0, z.0, add-zero) (next-sum w acc next a n) in
        let f : List Pending → ℕ → model.Volatile = λ x i. record { rest = (meaning w).rest; pending = x; next = i; last_number = (meaning w).last_number } in
        let o = across w s in
        record {
          says = ap meaning_of cuts ∙ (λ i. f (num i) (number i));
          sound = sound-of w₄ ps cuts c₄.shape (omega arith, rw end tt, o.2, o.3, o.4, o.5, o.6);
          stored = ap (λ (x : List (List ℕ)). get_or (get_or x stored_part []) 0 0) cuts ∙ k ∙ sym m ∙ sym (ap (λ (x : List (List ℕ)). get_or (get_or x pending_part []) 0 0) cuts);
          none_accepted = ap accepted_in cuts ∙ z.0;
          last_fits = last_Fits;
        }
