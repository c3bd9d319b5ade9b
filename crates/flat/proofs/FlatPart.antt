-- The words that flattening writes are those that model's codec puts into a store: the rows of 64 lists, and the counted steps.
use mathlib.Core.Path.{◌≡◌, refl, sym, ap, ◌∙◌}
use mathlib.Core.Bool.{Bool, true, false, not, ◌&&◌, and-false, and-true}
use mathlib.Core.List.{List, [], ◌∷◌, ◌++◌}
use Prim.Native.Nat.{ℕ, zero, suc, ◌*◌, ◌-◌, ◌≤◌}
use borrow.Author.Tests.{eq-eqb, eqb-true, eqb-false, not-true}
use lib.Dec.{eqb}
use lib.Pointwise.{pointwise}
use native.Mathlib.Omega.{arith}
use lib.ListN.{length, replicate, length-map}
use Rattle.model.specs.Rows.{rules}
use Rattle.model.specs.Rules.{rule_indices}
use Rattle.model.specs.Codec.{words_of, most}
use Rattle.model.specs.Parts.{list_row, step_row}
use Rattle.model.specs.Store.{filled, list_rows, same_list}
use Rattle.model.specs.Image.{size_of, image_sized, limits_fit, places_fit, tables_pass, names_differ}
use Rattle.model.specs.Flat.{Flattened, flatten_rule, flatten_rules, too_many_steps}
use Rattle.model.specs.Load.{tables_refusal, image_refusal_with, image_refusal}
use Rattle.model.proofs.Bools.{not-refused}
use Rattle.model.proofs.StoreLaws.{rows-length}
use Rattle.model.proofs.ListLaws.{length-up_from}
use Rattle.model.proofs.TestLaws.{by}
use Rattle.flat.specs.Load.{stored, step_part, list_part, Checked, MadeOf, same_flat}
use Rattle.flat.proofs.Words.{layout_is, layout-length, same-all, not-all}
use Rattle.flat.proofs.RuleLists.{words_append}

zero-rows : (k : ℕ) → words_of list_row (replicate k (0, 0)) ≡ replicate (k * 2) 0
unfolding words_of
zero-rows zero = refl
zero-rows (suc k) = let e : suc k * 2 ≡ suc (suc (k * 2)) = omega arith in rw (e, zero-rows k)

lists_filled : (n : ℕ) (rows : List (ℕ × ℕ)) → words_of list_row (filled n (0, 0) rows) ≡ words_of list_row rows ++ replicate ((n - length rows) * 2) 0
lists_filled n rows = rw (words_append list_row rows (replicate (n - length rows) (0, 0)), zero-rows (n - length rows))

-- the 128 words of the rows, as `flatten_rules` writes them
pub stored-rows : (fs : List Flattened) (lists : List ℕ) → length lists ≡ 128 → lists ≡ list_part fs ++ replicate (length lists - length fs * 2) 0
    → lists ≡ words_of list_row (filled 64 (0, 0) (list_rows 0 fs))
stored-rows fs lists e h =
    let n : length (list_rows 0 fs) ≡ length fs = rows-length 0 fs in
    let k : length lists - length fs * 2 ≡ (64 - length (list_rows 0 fs)) * 2 = omega arith in
    h ∙ ap (λ (m : ℕ). list_part fs ++ replicate m 0) k ∙ sym (lists_filled 64 (list_rows 0 fs))

-- the count and the 8,192 words of the steps
pub stored-steps : (fs : List Flattened) (words : List ℕ) (n : ℕ) → length words ≡ 8192 → n ≡ length (stored fs)
    → words ≡ step_part fs ++ replicate (length words - n * 4) 0 → n ∷ words ≡ (most 2048 step_row).put (stored fs)
stored-steps fs words n e f h =
    let k : length words - n * 4 ≡ (2048 - n) * 4 = omega arith in
    rw (← f) (ap (λ (l : List ℕ). n ∷ l) (h ∙ ap (λ (z : ℕ). step_part fs ++ replicate z 0) k ∙ ap (λ (l : List ℕ). l ++ replicate ((2048 - n) * 4) 0) (layout_is (stored fs))))

-- AN IMAGE THAT LOAD ACCEPTS ----------------------------------------------------------------------------------------------------------
pub passed : (img : List ℕ) → image_refusal img ≡ 0 → Checked img × (too_many_steps (flatten_rules img) ≡ false)
unfolding image_refusal image_refusal_with tables_refusal
passed img e =
    let a = not-refused (image_sized img) 9 _ e in
    let b = not-refused (limits_fit img) 10 _ a.1 in
    let c = not-refused (places_fit img) 11 _ b.1 in
    let d = not-refused (tables_pass img false) 12 _ c.1 in
    let f = not-refused (tables_pass img true) 13 _ d.1 in
    let g = not-refused (names_differ img) 14 _ f.1 in
    let h = not-refused (not (too_many_steps (flatten_rules img))) 15 _ g.1 in
    (record { sized = a.0; limited = b.0; placed = c.0; linked = f.0 }, not-true (too_many_steps (flatten_rules img)) h.0)

-- COMPARING ---------------------------------------------------------------------------------------------------------------------------
same_self : (a : List ℕ) → same_list eqb a a ≡ true
same_self [] = refl
same_self (x ∷ a) = rw (eq-eqb x x refl, same_self a)

pub same_true : (a b : List ℕ) → a ≡ b → same_list eqb a b ≡ true
same_true a b e = rw e (same_self b)

-- `==` of two lists of words
pub same-words : (a b : List ℕ) → pointwise eqb a b ≡ same_list eqb a b
same-words [] [] = refl
same-words [] (y ∷ b) = refl
same-words (x ∷ a) [] = refl
same-words (x ∷ a) (y ∷ b) = ap (λ (r : Bool). eqb x y && r) (same-words a b)

module _ (fs : List Flattened) (lists steps : List ℕ) where
  abbrev form_rows : List ℕ
  form_rows = words_of list_row (filled 64 (0, 0) (list_rows 0 fs))

  other-steps : same_list eqb steps (step_part fs) ≡ false → false ≡ same_flat fs lists steps
  unfolding same_flat
  other-steps h = rw (h, and-false (same_list eqb lists form_rows), and-false (not (too_many_steps fs)))

  pub not_made : too_many_steps fs ≡ true → false ≡ same_flat fs lists steps
  unfolding same_flat
  not_made h = rw h

  module _ (n : ℕ) (same : Bool) (None rows : List ℕ) (m : MadeOf fs n same steps None rows) where
    sized : length (step_part fs) ≡ n * 4
    sized = layout-length (stored fs) ∙ ap (λ (k : ℕ). k * 4) (sym m.count)

    pub other-words : same ≡ false → false ≡ same_flat fs lists steps
    other-words e =
        other-steps
        (by (eqb (length steps) (length (step_part fs)))
        (λ q. sym (same-all steps (step_part fs) (eqb-true (length steps) (length (step_part fs)) q)) ∙ sym m.agrees ∙ e)
        (λ q. not-all steps (step_part fs) (eqb-false (length steps) (length (step_part fs)) q)))

    pub other-count : (n * 4 ≡ length steps → ⊥) → false ≡ same_flat fs lists steps
    other-count h = other-steps (not-all steps (step_part fs) (λ e. h (sym (e ∙ sized))))

    pub same_rows : same ≡ true → n * 4 ≡ length steps → length rows ≡ 128 → length fs ≤ 64 → (r : Bool) → r ≡ same_list eqb lists rows
        → r ≡ same_flat fs lists steps
    unfolding same_flat
    same_rows t e k f r g =
        let s : same_list eqb steps (step_part fs) ≡ true = sym (same-all steps (step_part fs) (sym e ∙ sym sized)) ∙ sym m.agrees ∙ t in
        let w = stored-rows fs rows k (m.parts.rows (omega arith)) in
        rw (m.few, s, and-true (same_list eqb lists form_rows)) (rw w at g)

pub rules-length : (img : List ℕ) → length (flatten_rules img) ≡ size_of img rules
unfolding flatten_rules
rules-length img = length-map (rule_indices img) (flatten_rule img) ∙ length-up_from 0 (size_of img rules)
