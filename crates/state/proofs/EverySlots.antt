-- The Every slots. Assumes nothing.
use mathlib.Core.Path.{◌≡◌, refl, sym, ap, subst, ◌∙◌}
use mathlib.Core.List.{List, [], map}
use Prim.Native.Nat.{ℕ, ◌+◌, ◌*◌, ◌≤◌, ◌<◌}
use native.Mathlib.Omega.{arith}
use lib.ListN.{length, get_or, take, drop, set, replicate}
use lib.Seq.{take_all}
use borrow.Rule.Slice.PartMut.{put_mid}
use Rattle.model.specs.Codec.{most, words_of, all_good}
use Rattle.model.specs.Parts.{slot_row, slot_is}
use Rattle.model.specs.State.{with_rest, with_every}
use Rattle.model.specs.Wheel.{moved}
use Rattle.model.specs.declared.EverySlot.{EverySlot}
use Rattle.model.proofs.PartsLaws.{slot_laws}
use Rattle.rows.specs.Places.{laid, row_at, table_at}
use Rattle.state.specs.Meaning.{Sound, MeansSoundly, Holds, Counted, meaning, base, slots_part, place_of, words_in}
use Rattle.state.proofs.Typed.{holds-get, holds-count, holds-few, holds-long, holds-set}
use Rattle.state.specs.Cuts.{Words}
use Rattle.state.proofs.Good.{Roomy, words-laid, any-roomy, wide-roomy, ⊗-roomy, as-roomy}
use Rattle.state.proofs.Mapped.{Mapped, mapped-none, mapped-more, mapped-all}
use Rattle.state.proofs.Held.{table-read, row_read}
use Rattle.state.proofs.Frame.{part-is, part-word, table-lent, table-back, table-laid, slots-changed}

pub slot-roomy : Roomy slot_row
slot-roomy = as-roomy slot_is (⊗-roomy any-roomy (⊗-roomy any-roomy (⊗-roomy any-roomy wide-roomy)))

-- ONE AFTER THE OTHER ---------------------------------------------------------------------------------------------------------------------------
abbrev get : List ℕ → List EverySlot
get = (most 64 slot_row).get

-- the first i have moved on
pub record Moves (time : ℕ) (t₀ t : List ℕ) (i : ℕ) : Type 0 where
  pub counted : Counted 64 slot_row t
  pub mapped : Mapped (moved time) (get t₀) (get t) i

module _ (time : ℕ) (t₀ : List ℕ) where
  pub moves-none : Counted 64 slot_row t₀ → Moves time t₀ t₀ 0
  moves-none h = record { counted = h; mapped = mapped-none (moved time) (get t₀) }

  module _ (t : List ℕ) (i n : ℕ) (v : Moves time t₀ t i) (few : n ≡ get_or t₀ 0 0) (start : Counted 64 slot_row t₀) where
    moves-length : length (get t) ≡ n
    moves-length = v.mapped.long ∙ sym (few ∙ holds-count slot_row slot_laws 64 t₀ (get t₀) start)

    pub moves_long : length t ≡ words_in slots_part
    moves_long = holds-long slot_row slot_laws 64 t (get t) v.counted

    pub moves_more : (t₁ : List ℕ) (x y : EverySlot) → i < n → x ≡ row_at slot_row t (1 + i * 5) → y ≡ moved time x → Words t₁ → t₁ ≡ laid t (1 + i * 5) (slot_row.put y) → Moves time t₀ t₁ (i + 1)
    moves_more t₁ x y k e f words b =
        let less : i < length (get t) = rw moves-length k in
        let there : x ≡ get_or (get t) i x = e ∙ row_read slot_row slot_laws 64 t (get t) i x v.counted less in
        let h = holds-set slot_row slot_laws 64 t t₁ (get t) y i v.counted less (slot-roomy.fits y (words-laid t (1 + i * 5) (slot_row.put y) t₁ b words)) b in
        let g = holds-get slot_row slot_laws 64 t₁ (set (get t) i y) h in
        record {
          counted = subst (Holds 64 slot_row t₁) (sym g) h;
          mapped = subst (λ (l : List EverySlot). Mapped (moved time) (get t₀) l (i + 1)) (sym g) (mapped-more (moved time) (get t₀) (get t) i x y v.mapped less (f ∙ ap (moved time) there));
        }

    pub moves-all : i ≤ n → n ≤ i → Holds 64 slot_row t (map (moved time) (get t₀))
    moves-all a b =
        let e : take n (get t) ≡ map (moved time) (take n (get t₀)) = mapped-all (moved time) (get t₀) (get t) n i v.mapped a b in
        let long = moves-length in
        let l : take n (get t) ≡ get t = take_all n (get t) (omega arith) in
        let l₀ : take n (get t₀) ≡ get t₀ = take_all n (get t₀) (omega (arith, v.mapped.long)) in
        subst (Holds 64 slot_row t) (sym l ∙ e ∙ ap (map (moved time)) l₀) v.counted

-- THE SLOTS OF A STATE --------------------------------------------------------------------------------------------------------------------------
module _ (w : List ℕ) (s : Sound w) where
  abbrev lent : List ℕ
  lent = take (words_in slots_part) (drop (place_of slots_part) w)

  pub slots_lent : Counted 64 slot_row lent
  slots_lent = table-lent slot_row slot_laws slots_part 64 (omega arith) refl w s

  slots-are : (most 64 slot_row).get lent ≡ (meaning w).rest.every
  unfolding meaning
  slots-are = ap (most 64 slot_row).get (sym (part-is slots_part (omega arith) w))

  pub slots-hold : Holds 64 slot_row lent (meaning w).rest.every
  slots-hold = rw slots-are at slots_lent

  pub slots-count : get_or w (place_of slots_part) 0 ≡ length (meaning w).rest.every
  slots-count = sym (part-word (place_of slots_part) (words_in slots_part) w 0 (omega arith)) ∙ holds-count slot_row slot_laws 64 _ _ slots-hold

  pub slots-few : get_or w (place_of slots_part) 0 ≤ 64
  slots-few = rw slots-count (holds-few slot_row slot_laws 64 _ _ slots-hold)

  -- all that are read
  pub slots_read : (n : ℕ) (l : List EverySlot) → n ≡ get_or w (place_of slots_part) 0 → l ≡ table_at slot_row n w (place_of slots_part + 1) → l ≡ (meaning w).rest.every
  slots_read n l e f = f ∙ ap (λ (i : ℕ). table_at slot_row i w (place_of slots_part + 1)) e ∙ table-read slot_row slot_laws 64 w (place_of slots_part) (words_in slots_part) (meaning w).rest.every slots-hold

  -- the part comes back
  pub slots-back : (p : List ℕ) (l : List EverySlot) → Holds 64 slot_row p l → MeansSoundly (put_mid (place_of slots_part) (words_in slots_part) w p) (base w) (with_rest (with_every l (meaning w).rest) (meaning w))
  slots-back p l h = slots-changed w _ p s _ (table-back slot_row slot_laws slots_part 64 (omega arith) refl w p _ s h) h

  pub slots-moved : (p : List ℕ) (time : ℕ) → Holds 64 slot_row p (map (moved time) ((most 64 slot_row).get lent))
      → MeansSoundly (put_mid (place_of slots_part) (words_in slots_part) w p) (base w) (with_rest (with_every (map (moved time) (meaning w).rest.every) (meaning w).rest) (meaning w))
  slots-moved p time h = slots-back p (map (moved time) (meaning w).rest.every) (rw slots-are at h)

  -- none are left
  pub slots-none : (w₁ : List ℕ) → w₁ ≡ laid w (place_of slots_part) (replicate (words_in slots_part) 0) → MeansSoundly w₁ (base w) (with_rest (with_every [] (meaning w).rest) (meaning w))
  unfolding words_of all_good
  slots-none w₁ e =
      let h : Holds 64 slot_row (replicate (words_in slots_part) 0) [] = record { words = refl; good = refl } in
      rw e (slots-changed w _ _ s [] (table-laid slot_row slot_laws slots_part 64 (omega arith) refl w _ [] s h) h)
