-- What a store keeps at a place for a rule, and its pending record of an index. Assumes nothing.
use mathlib.Core.Path.{◌≡◌, sym, ap, ◌∙◌}
use mathlib.Core.List.{List}
use Rattle.std.specs.Prelude.{Option, None}
use Prim.Native.Nat.{ℕ, ◌+◌, ◌*◌, ◌≤◌, ◌<◌}
use native.Mathlib.Omega.{arith}
use lib.ListN.{length, get_or, get_or-eq_default}
use Rattle.model.specs.Codec.{word, wide, maybe}
use Rattle.model.specs.Parts.{any, pending_row}
use Rattle.model.specs.declared.Pending.{Pending}
use Rattle.model.proofs.PartsLaws.{pending-laws}
use Rattle.model.proofs.RowLaws.{word_laws, wide_laws, word_blank, wide-blank, maybe-laws}
use Rattle.rows.specs.Places.{row_at}
use Rattle.store.specs.Places.{activations_place, positions_place, pending_place}
use Rattle.store.specs.Volatile.{changing_in, record_in}
use Rattle.store.proofs.Parts.{activations-at, positions-at, pending-at, table-long}
use Rattle.store.proofs.RuleSteps.{table-at}

module _ (w : List ℕ) (i : ℕ) where
  pub activation-read : (x : Option ℕ) → i < 64 → x ≡ row_at (maybe wide) w (activations_place + i * 3) → x ≡ get_or (changing_in w).activations i None
  unfolding row_at
  activation-read x h e =
      e
      ∙ sym (table-at (maybe wide) 64 i w activations_place None h)
      ∙ ap (λ (l : List (Option ℕ)). get_or l i None) (sym (activations-at w))

  pub no-activation : 64 ≤ i → None ≡ get_or (changing_in w).activations i None
  no-activation h =
      let l = ap length (activations-at w) ∙ table-long (maybe wide) (maybe-laws wide_laws wide-blank) 64 w activations_place in
      sym (get_or-eq_default (changing_in w).activations None (omega arith))

  pub position-read : (x : Option ℕ) → i < 64 → x ≡ row_at (maybe any) w (positions_place + i * 2) → x ≡ get_or (changing_in w).positions i None
  unfolding row_at
  position-read x h e =
      e
      ∙ sym (table-at (maybe (word 15)) 64 i w positions_place None h)
      ∙ ap (λ (l : List (Option ℕ)). get_or l i None) (sym (positions-at w))

  pub no-position : 64 ≤ i → None ≡ get_or (changing_in w).positions i None
  no-position h =
      let l = ap length (positions-at w) ∙ table-long (maybe (word 15)) (maybe-laws (word_laws 15) (word_blank 15)) 64 w positions_place in
      sym (get_or-eq_default (changing_in w).positions None (omega arith))

  pub record-kept : (d : Pending) → i < length (changing_in w).pending → record_in w i ≡ get_or (changing_in w).pending i d
  unfolding record_in
  record-kept d h =
      let n : ℕ = row_at any w pending_place in
      let long = ap length (pending-at w) ∙ table-long pending_row pending-laws n w (pending_place + 1) in
      sym (table-at pending_row n i w (pending_place + 1) d (omega arith)) ∙ ap (λ (l : List Pending). get_or l i d) (sym (pending-at w))
