-- So many rules, and nothing is kept of any. Assumes nothing.
use mathlib.Core.Path.{◌≡◌, refl, sym, ap, ◌∙◌}
use mathlib.Core.Bool.{Bool, true, false}
use mathlib.Core.List.{List, [], ◌∷◌, ◌++◌, map, append-nil}
use Rattle.std.specs.Prelude.{None}
use Prim.Native.Nat.{ℕ, zero, suc, ◌+◌, ◌-◌, ◌*◌, ◌≤◌}
use native.Mathlib.Omega.{arith}
use lib.ListN.{take, drop, set, replicate, length-replicate, replicate-append-replicate}
use lib.Seq.{drop_at}
use Rattle.model.specs.Layout.{row_fits, rows_fit, zeros, up_to}
use Rattle.model.specs.Codec.{wide, maybe, rows_at}
use Rattle.model.specs.Parts.{any}
use Rattle.model.specs.State.{with_rest, with_enabled, with_last_activation, with_cycle_pos}
use Rattle.model.specs.World.{is_one}
use Rattle.model.proofs.CodecLaws.{rest_of}
use Rattle.model.proofs.RowLaws.{zeros-written}
use Rattle.rows.specs.Places.{laid}
use Rattle.rows.proofs.Writing.{and-then, lays, one_set}
use Rattle.state.specs.Cuts.{cut}
use Rattle.state.specs.Meaning.{part_sizes, place_of, words_in, bits_part, activations_part, positions_part, variables_part, rules_part, meaning_of, base_in, unset_from, meaning, base, Sound, MeansSoundly}
use Rattle.state.specs.Named.{unset_rules}
use Rattle.std.proofs.lemmas.List.{take-replicate}
use Rattle.state.proofs.Records.{word_fits}
use Rattle.state.proofs.Frame.{shaped, Changed, changed-laid, across, sound-of}

-- zeros
map-zeros : (n : ℕ) → map is_one (replicate n 0) ≡ replicate n false
map-zeros zero = refl
map-zeros (suc n) = ap (λ (l : List Bool). false ∷ l) (map-zeros n)

unset-zeros : (n f : ℕ) → n ≤ 64 → unset_from n f (replicate (64 * f) 0) ≡ true
unset-zeros n f h =
    let whole : replicate {A = ℕ} (64 * f) 0 ≡ replicate (n * f) 0 ++ replicate ((64 - n) * f) 0 =
    ap (λ (k : ℕ). replicate {A = ℕ} k 0) (sym (rest_of n 64 f h)) ∙ sym (replicate-append-replicate (n * f) ((64 - n) * f) 0) in
    ap (λ (w : List ℕ). zeros ((64 - n) * f) (drop (n * f) w)) whole
    ∙ ap (zeros ((64 - n) * f)) (drop_at (replicate (n * f) 0) (replicate ((64 - n) * f) 0) (n * f) (length-replicate {A = ℕ} (n * f) 0) ∙ sym (append-nil (replicate ((64 - n) * f) 0)))
    ∙ zeros-written ((64 - n) * f) []

bits-zero : rows_fit 64 (up_to 1 ∷ []) (replicate (words_in bits_part) 0) ≡ true
unfolding rows_fit row_fits zeros
bits-zero = refl

activations-zero : rows_fit 64 (maybe wide).cells (replicate (words_in activations_part) 0) ≡ true
unfolding rows_fit row_fits zeros
activations-zero = refl

positions-zero : rows_fit 64 (maybe any).cells (replicate (words_in positions_part) 0) ≡ true
unfolding rows_fit row_fits zeros
positions-zero = refl

no-activations : rows_at (maybe wide) 64 (replicate (words_in activations_part) 0) ≡ replicate 64 None
unfolding rows_at
no-activations = refl

no-positions : rows_at (maybe any) 64 (replicate (words_in positions_part) 0) ≡ replicate 64 None
unfolding rows_at
no-positions = refl

module _ (w w₁ w₂ : List ℕ) (n : ℕ) (s : Sound w) (few : n ≤ 64) where
  abbrev z₀ : List ℕ
  z₀ = replicate (words_in bits_part) 0

  abbrev z₁ : List ℕ
  z₁ = replicate (words_in activations_part) 0

  abbrev z₂ : List ℕ
  z₂ = replicate (words_in positions_part) 0

  abbrev a₁ : List ℕ
  a₁ = laid w (place_of bits_part) z₀

  abbrev a₂ : List ℕ
  a₂ = laid a₁ (place_of activations_part) z₁

  abbrev a₃ : List ℕ
  a₃ = laid a₂ (place_of positions_part) z₂

  c₁ : Changed w a₁ bits_part z₀
  c₁ = changed-laid bits_part (omega arith) w z₀ (shaped w s) (length-replicate {A = ℕ} (words_in bits_part) 0) bits-zero

  c₂ : Changed a₁ a₂ activations_part z₁
  c₂ = changed-laid activations_part (omega arith) a₁ z₁ c₁.shape (length-replicate {A = ℕ} (words_in activations_part) 0) activations-zero

  c₃ : Changed a₂ a₃ positions_part z₂
  c₃ = changed-laid positions_part (omega arith) a₂ z₂ c₂.shape (length-replicate {A = ℕ} (words_in positions_part) 0) positions-zero

  all_three : a₃ ≡ laid w (place_of bits_part) (replicate (place_of variables_part - place_of bits_part) 0)
  all_three =
      let l₀ = length-replicate {A = ℕ} (words_in bits_part) 0 in
      let l₁ = length-replicate {A = ℕ} (words_in activations_part) 0 in
      and-then w a₁ a₃ (place_of bits_part) (place_of activations_part) z₀ (z₁ ++ z₂) (omega (arith, s.long, l₀)) (omega (arith, l₀)) refl
      (λ l. lays a₁ a₂ a₃ (place_of activations_part) (place_of positions_part) z₁ z₂ (omega (arith, l, s.long)) (omega (arith, l₁)) refl refl)
      ∙ ap (laid w (place_of bits_part)) (ap (λ (z : List ℕ). z₀ ++ z) (replicate-append-replicate (words_in activations_part) (words_in positions_part) 0) ∙ replicate-append-replicate (words_in bits_part) (words_in activations_part + words_in positions_part) 0)

  pub rules-unset : w₁ ≡ laid w (place_of bits_part) (replicate (place_of variables_part - place_of bits_part) 0) → w₂ ≡ set w₁ (place_of rules_part) n
      → MeansSoundly w₂ (base w) (with_rest (unset_rules n (meaning w).rest) (meaning w))
  unfolding cut meaning base
  rules-unset e₁ e₂ =
      let e : w₂ ≡ laid a₃ (place_of rules_part) (n ∷ []) = e₂ ∙ ap (λ (x : List ℕ). set x (place_of rules_part) n) (e₁ ∙ sym all_three) ∙ one_set a₃ (place_of rules_part) n (omega (arith, c₃.shape.long)) in
      let c₄ : Changed a₃ w₂ rules_part (n ∷ []) = rw e (changed-laid rules_part (omega arith) a₃ (n ∷ []) c₃.shape refl (word_fits 64 n few)) in
      let cuts : cut part_sizes w₂ ≡ set (set (set (set (cut part_sizes w) bits_part z₀) activations_part z₁) positions_part z₂) rules_part (n ∷ []) =
      c₄.cuts ∙ ap (λ (ps : List (List ℕ)). set ps rules_part (n ∷ [])) (c₃.cuts ∙ ap (λ (ps : List (List ℕ)). set ps positions_part z₂) (c₂.cuts ∙ ap (λ (ps : List (List ℕ)). set ps activations_part z₁) c₁.cuts)) in
      let bits : map is_one (take n z₀) ≡ replicate n false = ap (map is_one) (take-replicate n 64 0 few) ∙ map-zeros n in
      let activations : take n (rows_at (maybe wide) 64 z₁) ≡ replicate n None = ap (take n) no-activations ∙ take-replicate n 64 None few in
      let positions : take n (rows_at (maybe any) 64 z₂) ≡ replicate n None = ap (take n) no-positions ∙ take-replicate n 64 None few in
      let a = across w s in
      record {
        says = ap meaning_of cuts ∙ λ i. with_rest (with_enabled (bits i) (with_last_activation (activations i) (with_cycle_pos (positions i) (meaning w).rest))) (meaning w);
        sound = sound-of w₂ _ cuts c₄.shape (a.0, a.1, a.2, unset-zeros n 1 few, unset-zeros n 3 few, unset-zeros n 2 few, a.6);
        based = ap base_in cuts;
      }
