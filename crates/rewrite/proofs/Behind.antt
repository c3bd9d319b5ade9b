-- Behind a list's first record stands its count: a word that mentions nothing. Assumes nothing.
use mathlib.Core.Path.{◌≡◌, refl}
use mathlib.Core.Bool.{Bool, true, false, cond, ◌&&◌, ◌||◌, not}
use mathlib.Core.List.{List, [], ◌∷◌}
use Prim.Native.Nat.{ℕ, zero, suc, ◌-◌}
use native.Mathlib.Omega.{arith}
use lib.Dec.{eqb}
use lib.ListN.{get_or}
use borrow.Author.Tests.{eqb-false}
use Rattle.model.specs.Lists.{all}
use Rattle.model.specs.declared.Field.{Field}
use Rattle.model.specs.declared.Field.TheVariants.{Free, UpTo, Mark, Tag, Index, Span, Nested}
use Rattle.model.specs.Rows as rows
use Rattle.model.specs.Rows.{field_of, void, rule_row, block_row, pool_row, kind_range, kind_field, rules, blocks, pool}
use Rattle.std.proofs.lemmas.Bool.{and_parts}
use Rattle.rewrite.proofs.Fields.{plain, no-plain, one-of-all}

abbrev pub spans : Field → Bool
spans Free = false
spans (UpTo most) = false
spans (Mark most value) = false
spans (Tag t) = false
spans (Index t) = false
spans (Span t) = true
spans Nested = true

-- the first of a row's fields mentions nothing; behind the last are void words
abbrev head_plain : List Field → Bool
head_plain [] = true
head_plain (f ∷ fs) = plain f

abbrev counted : List Field → Bool
counted [] = true
counted (f ∷ fs) = (not (spans f) || head_plain fs) && counted fs

spanned : (a b : Bool) → a ≡ true → not a || b ≡ true → b ≡ true
spanned true b e h = h
spanned false b e h = no-plain e

head-plain : (fs : List Field) → head_plain fs ≡ true → plain (get_or fs 0 void) ≡ true
head-plain [] h = refl
head-plain (f ∷ fs) h = h

row-behind : (fs : List Field) → counted fs ≡ true → (j : ℕ) → spans (get_or fs j void) ≡ true → plain (get_or fs (suc j) void) ≡ true
row-behind [] a j h = refl
row-behind (f ∷ fs) a zero h = head-plain fs (spanned (spans f) (head_plain fs) h (and_parts (not (spans f) || head_plain fs) (counted fs) a).0)
row-behind (f ∷ fs) a (suc j) h = row-behind fs (and_parts (not (spans f) || head_plain fs) (counted fs) a).1 j h

-- THE ROWS ------------------------------------------------------------------------------------------------------------------------------
reading-plain : (code j : ℕ) → plain (rows.reference code j) ≡ true
reading-plain code j = one-of-all plain (get_or rows.reading_rows code []) j void (one-of-all (all plain) rows.reading_rows code [] refl refl) refl

plain-spans : (f : Field) → plain f ≡ true → spans f ≡ false
plain-spans Free e = refl
plain-spans (UpTo most) e = refl
plain-spans (Mark most value) e = refl
plain-spans (Tag t) e = refl
plain-spans (Index t) e = refl
plain-spans (Span t) e = no-plain e
plain-spans Nested e = no-plain e

values-counted : (code : ℕ) → all counted (rows.value_rows code) ≡ true
values-counted code =
    rw (plain-spans (rows.reference code 0) (reading-plain code 0), plain-spans (rows.reference code 1) (reading-plain code 1), plain-spans (rows.reference code 2) (reading-plain code 2)) refl

rows-counted : (t code : ℕ) → all counted (rows.rows_of t code) ≡ true
rows-counted zero code = refl
rows-counted (suc zero) code = refl
rows-counted (suc (suc zero)) code = refl
rows-counted (suc (suc (suc zero))) code = refl
rows-counted (suc (suc (suc (suc zero)))) code = refl
rows-counted (suc (suc (suc (suc (suc zero))))) code = values-counted code
rows-counted (suc (suc (suc (suc (suc (suc zero)))))) code = refl
rows-counted (suc (suc (suc (suc (suc (suc (suc t))))))) code = refl

-- FIELDS --------------------------------------------------------------------------------------------------------------------------------
module _ (t kind code : ℕ) where
  cases-behind : (a b c d d' : Bool) (j x y : ℕ) → (d ≡ false → y ≡ suc x)
      → spans (cond a (get_or rule_row j void) (cond b (get_or block_row j void) (cond c (get_or pool_row j void) (cond d (kind_range t code) (kind_field t kind code x))))) ≡ true
      → plain (cond a (get_or rule_row (suc j) void) (cond b (get_or block_row (suc j) void) (cond c (get_or pool_row (suc j) void) (cond d' (kind_range t code) (kind_field t kind code y))))) ≡ true
  cases-behind true b c d d' j x y e h = row-behind rule_row refl j h
  cases-behind false true c d d' j x y e h = row-behind block_row refl j h
  cases-behind false false true d d' j x y e h = row-behind pool_row refl j h
  cases-behind false false false d true j x y e h = refl
  cases-behind false false false true false j x y e h = no-plain h
  cases-behind false false false false false j x y e h =
      rw (e refl) (row-behind (get_or (rows.rows_of t code) kind []) (one-of-all counted (rows.rows_of t code) kind [] (rows-counted t code) refl) x h)

  pub field-behind : (j : ℕ) → spans (field_of t kind code j) ≡ true → plain (field_of t kind code (suc j)) ≡ true
  unfolding field_of
  field-behind j h =
      cases-behind (eqb t rules) (eqb t blocks) (eqb t pool) (eqb j 0) (eqb (suc j) 0) j (j - 1) (suc j - 1)
      (λ e. let n : j ≡ 0 → ⊥ = eqb-false j 0 e in omega (arith, n)) h
