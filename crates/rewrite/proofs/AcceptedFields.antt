-- (a), third part: how the words of a record stand. A mark stands before a plain word, a tag before a free one, a list before its count; and
-- mentions lead from rules and blocks to actions, from these to conditions, from these to the rest. Assumes nothing.
use mathlib.Core.Path.{◌≡◌, refl}
use mathlib.Core.Bool.{Bool, true, false, ◌&&◌, false≢true}
use mathlib.Core.List.{List, [], ◌∷◌, map}
use Prim.Native.Nat.{ℕ, zero, suc, ◌<◌}
use native.Mathlib.Omega.{arith}
use lib.Dec.{eqb, ltb}
use lib.ListN.{get_or}
use Rattle.model.specs.declared.Field.{Field}
use Rattle.model.specs.declared.Field.TheVariants.{Free, UpTo, Mark, Tag, Index, Span, Nested}
use Rattle.model.specs.Lists.{up_from, all}
use Rattle.model.specs.Rows as rows
use Rattle.model.specs.Rows.{field_of, void, values, actions, kind_range}
use Rattle.model.specs.Image.{width_of}
use Rattle.model.specs.Tree.{fields_of}
use Rattle.rewrite.proofs.Fields.{inner, one-of-all, all-mapped}

-- says no more than how large its word may be
abbrev pub simple : Field → Bool
simple Free = true
simple (UpTo most) = true
simple (Mark most value) = false
simple (Tag t) = false
simple (Index t) = false
simple (Span t) = false
simple Nested = false

abbrev pub free : Field → Bool
free Free = true
free (UpTo most) = false
free (Mark most value) = false
free (Tag t) = false
free (Index t) = false
free (Span t) = false
free Nested = false

abbrev pub first_simple : List Field → Bool
first_simple [] = false
first_simple (f ∷ fs) = simple f

-- rules and blocks, actions, conditions, the rest
abbrev pub level : ℕ → ℕ
level t = get_or (3 ∷ 3 ∷ 0 ∷ 1 ∷ 2 ∷ []) t 0

abbrev pub down : ℕ → ℕ → Bool
down t u = inner u && ltb (level u) (level t)

-- the fields of a record of table t stand so
abbrev pub well : ℕ → List Field → Bool
well t [] = true
well t (Free ∷ fs) = well t fs
well t (UpTo most ∷ fs) = well t fs
well t (Mark most value ∷ fs) = first_simple fs && well t fs
well t (Tag u ∷ []) = false
well t (Tag u ∷ (f ∷ fs)) = (down t u && free f) && well t fs
well t (Index u ∷ fs) = down t u && well t fs
well t (Span u ∷ []) = false
well t (Span u ∷ (f ∷ fs)) = (down t u && simple f) && well t fs
well t (Nested ∷ []) = false
well t (Nested ∷ (f ∷ fs)) = (eqb t actions && simple f) && well t fs

simple-well : (t : ℕ) (fs : List Field) → all simple fs ≡ true → well t fs ≡ true
simple-well t [] a = refl
simple-well t (Free ∷ fs) a = simple-well t fs a
simple-well t (UpTo most ∷ fs) a = simple-well t fs a
simple-well t (Mark most value ∷ fs) a = absurd (false≢true a)
simple-well t (Tag u ∷ fs) a = absurd (false≢true a)
simple-well t (Index u ∷ fs) a = absurd (false≢true a)
simple-well t (Span u ∷ fs) a = absurd (false≢true a)
simple-well t (Nested ∷ fs) a = absurd (false≢true a)

-- the fields of a record that begins with a kind
abbrev behind_kind : Field → List Field → List Field
behind_kind k row = k ∷ map (λ j. get_or row j void) (up_from 0 7)

kind-well : (t : ℕ) (k : Field) (all-rows : List (List Field)) (kind : ℕ)
    → all (λ (row : List Field). well t (behind_kind k row)) all-rows ≡ true → well t (behind_kind k []) ≡ true → well t (behind_kind k (get_or all-rows kind [])) ≡ true
kind-well t k all-rows kind a h = one-of-all (λ (row : List Field). well t (behind_kind k row)) all-rows kind [] a h

-- the rows of values depend on the code of a reading
reading-simple : (code j : ℕ) → simple (rows.reference code j) ≡ true
reading-simple code j =
    one-of-all simple (get_or rows.reading_rows code []) j void (one-of-all (all simple) rows.reading_rows code [] refl refl) refl

values-simple : (code : ℕ) → all (all simple) (rows.value_rows code) ≡ true
values-simple code = rw (reading-simple code 0, reading-simple code 1, reading-simple code 2) refl

value-simple : (kind code : ℕ) → all simple (behind_kind (kind_range values code) (get_or (rows.value_rows code) kind [])) ≡ true
value-simple kind code =
    let row = get_or (rows.value_rows code) kind [] in
    all-mapped simple (λ j. get_or row j void)
    (λ j. one-of-all simple row j void (one-of-all (all simple) (rows.value_rows code) kind [] (values-simple code) refl) refl) (up_from 0 7)

pub fields-well : (t kind code : ℕ) → t < 8 → well t (fields_of t kind code) ≡ true
unfolding fields_of field_of width_of
fields-well zero kind code h = refl
fields-well (suc zero) kind code h = refl
fields-well (suc (suc zero)) kind code h = kind-well 2 (kind_range 2 code) rows.trigger_rows kind refl refl
fields-well (suc (suc (suc zero))) kind code h = kind-well 3 (kind_range 3 code) rows.condition_rows kind refl refl
fields-well (suc (suc (suc (suc zero)))) kind code h = kind-well 4 (kind_range 4 code) rows.action_rows kind refl refl
fields-well (suc (suc (suc (suc (suc zero))))) kind code h = simple-well values (behind_kind (kind_range values code) (get_or (rows.value_rows code) kind [])) (value-simple kind code)
fields-well (suc (suc (suc (suc (suc (suc zero)))))) kind code h = kind-well 6 (kind_range 6 code) rows.bound_rows kind refl refl
fields-well (suc (suc (suc (suc (suc (suc (suc zero))))))) kind code h = refl
fields-well (suc (suc (suc (suc (suc (suc (suc (suc t)))))))) kind code h = absurd (omega arith)
