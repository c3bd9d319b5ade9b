-- The 12 counters, and the minute of the week at the tick before. Assumes nothing.
use mathlib.Core.Path.{◌≡◌, refl, sym, ap, subst, ◌∙◌}
use mathlib.Core.Bool.{true, not, or-true}
use mathlib.Core.List.{List, [], ◌∷◌}
use Prim.Native.Nat.{ℕ, zero, suc, ◌+◌, ◌≤◌, ◌<◌}
use native.Mathlib.Omega.{arith}
use lib.Dec.{eqb}
use lib.ListN.{length, get_or, take, drop, set, length-set, length-drop}
use lib.Seq.{drop-drop}
use borrow.Author.Tests.{le-leb}
use Rattle.std.specs.Prelude.{Option}
use Rattle.std.proofs.lemmas.Bool.{and_from, and_parts}
use Rattle.words.specs.Saturating.{saturating_add, max32}
use Rattle.words.proofs.Laws.{add-at-most}
use Rattle.model.specs.State.{raised_at}
use Rattle.counters.specs.Counters.{counters_of}
use Rattle.counters.specs.declared.Counters.{Counters}
use Rattle.model.specs.Layout.{row_fits, rows_fit, zeros, up_to}
use Rattle.model.specs.Codec.{maybe, rows_at}
use Rattle.model.specs.Parts.{any}
use Rattle.model.specs.State.{with_rest, with_prev_week_min, bump_by}
use Rattle.rows.specs.Places.{laid, row_at, table_at}
use Rattle.state.specs.Meaning.{place_of, part, week_part, counters_part, meaning, base, Sound, MeansSoundly}
use Rattle.state.proofs.Frame.{shaped, part-is, part-long, changed-laid, counters-changed, week-changed}
use Rattle.state.proofs.Fixed.{one_at, one-read, one_set}
use Rattle.state.proofs.KeptForRules.{any-option-laws, good-32}

-- THE RECORD ----------------------------------------------------------------------------------------------------------------------------------
module _ (w : List ℕ) where
  table-cons : (n k j x : ℕ) (l : List ℕ) → j ≡ k + 1 → x ≡ row_at any w k → l ≡ table_at any n w j → x ∷ l ≡ table_at any (suc n) w k
  unfolding table_at row_at rows_at
  table-cons n k j x l e p q =
      let f : l ≡ rows_at any n (drop 1 (drop k w)) = q ∙ ap (rows_at any n) (ap (λ (m : ℕ). drop m w) e ∙ sym (drop-drop 1 k w)) in
      λ i. p i ∷ f i

  table-nil : (k : ℕ) → [] ≡ table_at any 0 w k
  unfolding table_at rows_at
  table-nil k = refl

  pub counters-are : (k : ℕ) (c : Counters)
      → c.activations_total ≡ row_at any w k
      → c.activations_dry ≡ row_at any w (k + 1)
      → c.suppressed_cooldown ≡ row_at any w (k + 2)
      → c.suppressed_disabled ≡ row_at any w (k + 3)
      → c.conditions_rejected ≡ row_at any w (k + 4)
      → c.partial_outcomes ≡ row_at any w (k + 5)
      → c.effects_emitted ≡ row_at any w (k + 6)
      → c.actions_failed ≡ row_at any w (k + 7)
      → c.continuations_scheduled ≡ row_at any w (k + 8)
      → c.continuations_fired ≡ row_at any w (k + 9)
      → c.continuations_dropped ≡ row_at any w (k + 10)
      → c.ticks_time_unsynced ≡ row_at any w (k + 11)
      → counters_of c ≡ table_at any 12 w k
  unfolding counters_of
  counters-are k c e₀ e₁ e₂ e₃ e₄ e₅ e₆ e₇ e₈ e₉ e₁₀ e₁₁ =
      table-cons 11 k (k + 1) _ _ refl e₀
      (table-cons 10 (k + 1) (k + 2) _ _ (omega arith) e₁
      (table-cons 9 (k + 2) (k + 3) _ _ (omega arith) e₂
      (table-cons 8 (k + 3) (k + 4) _ _ (omega arith) e₃
      (table-cons 7 (k + 4) (k + 5) _ _ (omega arith) e₄
      (table-cons 6 (k + 5) (k + 6) _ _ (omega arith) e₅
      (table-cons 5 (k + 6) (k + 7) _ _ (omega arith) e₆
      (table-cons 4 (k + 7) (k + 8) _ _ (omega arith) e₇
      (table-cons 3 (k + 8) (k + 9) _ _ (omega arith) e₈
      (table-cons 2 (k + 9) (k + 10) _ _ (omega arith) e₉
      (table-cons 1 (k + 10) (k + 11) _ _ (omega arith) e₁₀
      (table-cons 0 (k + 11) (k + 12) _ _ (omega arith) e₁₁ (table-nil (k + 12)))))))))))))

-- ONE COUNTER GOES UP -------------------------------------------------------------------------------------------------------------------------
-- rows of one word are their words
pub any-rows : (n : ℕ) (p : List ℕ) → n ≤ length p → rows_at any n p ≡ take n p
unfolding rows_at
any-rows zero p h = refl
any-rows (suc n) [] h = absurd (omega arith)
any-rows (suc n) (x ∷ p) h = ap (λ (l : List ℕ). x ∷ l) (any-rows n p (omega arith))

word_fits : (m n : ℕ) (w : List ℕ) (i x : ℕ) → rows_fit n (up_to m ∷ []) w ≡ true → x ≤ m → rows_fit n (up_to m ∷ []) (set w i x) ≡ true
unfolding rows_fit row_fits zeros
word_fits m zero w i x e h = refl
word_fits m (suc n) [] i x e h = e
word_fits m (suc n) (y ∷ w) zero x e h = and_from _ _ (and_from _ _ (and_from _ _ (le-leb x m h) (or-true (not (eqb x 0)))) refl) (and_parts (row_fits (up_to m ∷ []) (y ∷ w)) (rows_fit n (up_to m ∷ []) w) e).1
word_fits m (suc n) (y ∷ w) (suc i) x e h =
    let b = and_parts (row_fits (up_to m ∷ []) (y ∷ w)) (rows_fit n (up_to m ∷ []) w) e in
    and_from _ _ b.0 (word_fits m n w i x b.1 h)

pub bumped : (w w' c d : List ℕ) (which by : ℕ) → Sound w → c ≡ table_at any 12 w (place_of counters_part) → d ≡ raised_at which by c → w' ≡ laid w (place_of counters_part) d
    → MeansSoundly w' (base w) (with_rest (bump_by which by (meaning w).rest) (meaning w))
unfolding meaning bump_by table_at
bumped w w' c d which by s e f b =
    let p : List ℕ = part counters_part w in
    let long = part-long counters_part (omega arith) w s.long in
    let is : c ≡ p = e ∙ any-rows 12 (drop (place_of counters_part) w) (rw (length-drop (place_of counters_part) w) (omega (arith, s.long))) ∙ sym (part-is counters_part (omega arith) w) in
    let raised : d ≡ raised_at which by p = f ∙ ap (raised_at which by) is in
    let fit = word_fits 4294967295 12 p which (saturating_add max32 (get_or p which 0) by) (s.parts.fit counters_part (omega arith)) (add-at-most max32 (get_or p which 0) by) in
    let k : length (raised_at which by p) ≡ 12 = length-set p which (saturating_add max32 (get_or p which 0) by) ∙ long in
    let q : w' ≡ laid w (place_of counters_part) (raised_at which by p) = b ∙ ap (laid w (place_of counters_part)) raised in
    counters-changed w w' (raised_at which by p) s (rw q (changed-laid counters_part (omega arith) w (raised_at which by p) (shaped w s) k fit))

-- THE MINUTE OF THE WEEK ----------------------------------------------------------------------------------------------------------------------
module _ (w : List ℕ) (s : Sound w) where
  pub week-at : (x : Option ℕ) → x ≡ row_at (maybe any) w (place_of week_part) → x ≡ (meaning w).rest.prev_week_min
  unfolding meaning
  week-at x e = e ∙ one_at (maybe any) any-option-laws week_part (omega arith) refl w s

  pub week-set : (w' : List ℕ) (x : Option ℕ) → ((j : ℕ) → get_or w' j 0 < 4294967296) → w' ≡ laid w (place_of week_part) ((maybe any).put x)
      → MeansSoundly w' (base w) (with_rest (with_prev_week_min x (meaning w).rest) (meaning w))
  week-set w' x words e =
      let g = good-32 w w' (place_of week_part) words x e in
      let c = one_set (maybe any) any-option-laws week_part (omega arith) refl w w' x (shaped w s) g e in
      subst (λ (o : _). MeansSoundly w' (base w) (with_rest (with_prev_week_min o (meaning w).rest) (meaning w))) (one-read (maybe any) any-option-laws week_part (omega arith) refl x g) (week-changed w w' ((maybe any).put x) s c)
