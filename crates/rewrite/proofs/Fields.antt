-- The fields of a record follow from its written row: a place stands in no word that decides them. Assumes nothing.
use mathlib.Core.Path.{◌≡◌, refl, ap, ◌∙◌}
use mathlib.Core.Bool.{Bool, true, false, cond, ◌&&◌, false≢true}
use mathlib.Core.List.{List, [], ◌∷◌, map}
use Prim.Native.Nat.{ℕ, zero, suc, ◌-◌}
use lib.Dec.{eqb, leb, ltb}
use lib.ListN.{length, get_or}
use borrow.Author.Tests.{eqb-true, eqb-false}
use Rattle.model.specs.Lists.{up_from, all}
use Rattle.std.proofs.lemmas.Bool.{and_parts}
use Rattle.model.specs.declared.Field.{Field}
use Rattle.model.specs.declared.Field.TheVariants.{Free, UpTo, Mark, Tag, Index, Span, Nested}
use Rattle.model.specs.Rows as rows
use Rattle.model.specs.Rows.{field_of, void, rule_row, block_row, pool_row, kind_range, kind_field, values, rules, blocks, pool}
use Rattle.model.specs.Image.{width_of}
use Rattle.model.specs.Tree.{word, Reader, cells_of, fields_of, Counts, row_of}

-- a field that mentions nothing and decides nothing of the next
abbrev pub plain : Field → Bool
plain Free = true
plain (UpTo most) = true
plain (Mark most value) = true
plain (Tag t) = false
plain (Index t) = false
plain (Span t) = false
plain Nested = false

pub no-plain : {A : Type 0} → false ≡ true → A
no-plain e = absurd (false≢true e)

pub plain-cell : (deeper : Reader) (f : Field) (fs : List Field) (w : ℕ → ℕ) → plain f ≡ true → cells_of deeper (f ∷ fs) w ≡ word (w 0) (cells_of deeper fs (λ j. w (suc j)))
unfolding cells_of
plain-cell deeper Free fs w e = refl
plain-cell deeper (UpTo most) fs w e = refl
plain-cell deeper (Mark most value) fs w e = refl
plain-cell deeper (Tag t) fs w e = no-plain e
plain-cell deeper (Index t) fs w e = no-plain e
plain-cell deeper (Span t) fs w e = no-plain e
plain-cell deeper Nested fs w e = no-plain e

first-plain : (a b c : Bool) (most : ℕ) → plain (cond a (get_or rule_row 0 void) (cond b (get_or block_row 0 void) (cond c (get_or pool_row 0 void) (UpTo most)))) ≡ true
first-plain true b c most = refl
first-plain false true c most = refl
first-plain false false true most = refl
first-plain false false false most = refl

kind-plain : (t kind code : ℕ) → plain (field_of t kind code 0) ≡ true
unfolding field_of
kind-plain t kind code = first-plain (eqb t rules) (eqb t blocks) (eqb t pool) (length (rows.rows_of t code) - 1)

-- the first field, and those behind it
behind : (a b : Bool) (f : ℕ → Field) → map f (up_from 0 (cond a 16 (cond b 1 8))) ≡ f 0 ∷ map f (up_from 1 (cond a 15 (cond b 0 7)))
behind true b f = refl
behind false true f = refl
behind false false f = refl

pub fields-behind : ℕ → ℕ → ℕ → List Field
fields-behind t kind code = map (field_of t kind code) (up_from 1 (cond (eqb t rules) 15 (cond (eqb t pool) 0 7)))

fields-first : (t kind code : ℕ) → fields_of t kind code ≡ field_of t kind code 0 ∷ fields-behind t kind code
unfolding fields_of width_of fields-behind
fields-first t kind code = behind (eqb t rules) (eqb t pool) (field_of t kind code)

-- the word behind the kind decides fields of values alone
rows-same : (t code code' : ℕ) → (t ≡ values → ⊥) → rows.rows_of t code ≡ rows.rows_of t code'
rows-same zero code code' h = refl
rows-same (suc zero) code code' h = refl
rows-same (suc (suc zero)) code code' h = refl
rows-same (suc (suc (suc zero))) code code' h = refl
rows-same (suc (suc (suc (suc zero)))) code code' h = refl
rows-same (suc (suc (suc (suc (suc zero))))) code code' h = absurd (h refl)
rows-same (suc (suc (suc (suc (suc (suc t)))))) code code' h = refl

fields-same : (t kind code code' : ℕ) → (t ≡ values → ⊥) → fields_of t kind code ≡ fields_of t kind code'
unfolding fields_of field_of
fields-same t kind code code' h =
    ap (λ (rs : List (List Field)). map (λ j. cond (eqb t rules) (get_or rule_row j void) (cond (eqb t blocks) (get_or block_row j void) (cond (eqb t pool) (get_or pool_row j void)
    (cond (eqb j 0) (UpTo (length rs - 1)) (get_or (get_or rs kind []) (j - 1) void))))) (up_from 0 (width_of t))) (rows-same t code code' h)

value-plain : (kind code : ℕ) → plain (field_of values kind code 1) ≡ true
unfolding field_of
value-plain zero code = refl
value-plain (suc zero) code = refl
value-plain (suc (suc zero)) code = refl
value-plain (suc (suc (suc k))) code = refl

value-fields : (kind code : ℕ) → fields-behind values kind code ≡ field_of values kind code 1 ∷ map (field_of values kind code) (up_from 2 6)
unfolding fields-behind
value-fields kind code = refl

module _ (deeper : Reader) (c : Counts) (t : ℕ) (w : ℕ → ℕ) where
  abbrev row : List ℕ
  row = row_of c (cells_of deeper (fields_of t (w 0) (w 1)) w)

  kind-kept : get_or row 0 0 ≡ w 0
  unfolding row_of
  kind-kept =
      rw (fields-first t (w 0) (w 1))
      (rw (plain-cell deeper (field_of t (w 0) (w 1) 0) (fields-behind t (w 0) (w 1)) w (kind-plain t (w 0) (w 1))) refl)

  code-kept : t ≡ values → get_or row 1 0 ≡ w 1
  unfolding row_of
  code-kept e =
      rw (fields-first t (w 0) (w 1))
      (rw (plain-cell deeper (field_of t (w 0) (w 1) 0) (fields-behind t (w 0) (w 1)) w (kind-plain t (w 0) (w 1)))
      (rw (e, value-fields (w 0) (w 1))
      (rw (plain-cell deeper (field_of values (w 0) (w 1) 1) (map (field_of values (w 0) (w 1)) (up_from 2 6)) (λ j. w (suc j)) (value-plain (w 0) (w 1))) refl)))

  module _ (kind code : ℕ) (kind-is : kind ≡ get_or row 0 0) (code-is : t ≡ values → code ≡ get_or row 1 0) where
    fields-case : (b : Bool) → eqb t values ≡ b → fields_of t (w 0) code ≡ fields_of t (w 0) (w 1)
    fields-case true e = let v = eqb-true t values e in ap (fields_of t (w 0)) (code-is v ∙ code-kept v)
    fields-case false e = fields-same t (w 0) code (w 1) (eqb-false t values e)

    -- the fields that the written row has
    pub fields-kept : fields_of t kind code ≡ fields_of t (w 0) (w 1)
    fields-kept = ap (λ k. fields_of t k code) (kind-is ∙ kind-kept) ∙ fields-case (eqb t values) refl

-- the first cell of a record is a word: its kind or its name
pub first-cell : (deeper : Reader) (t : ℕ) (w : ℕ → ℕ) → cells_of deeper (fields_of t (w 0) (w 1)) w ≡ word (w 0) (cells_of deeper (fields-behind t (w 0) (w 1)) (λ j. w (suc j)))
first-cell deeper t w =
    ap (λ (fs : List Field). cells_of deeper fs w) (fields-first t (w 0) (w 1))
    ∙ plain-cell deeper (field_of t (w 0) (w 1) 0) (fields-behind t (w 0) (w 1)) w (kind-plain t (w 0) (w 1))

-- WHERE MENTIONS LEAD -----------------------------------------------------------------------------------------------------------------
-- a property of every field
pub one-of-all : {A : Type 0} (p : A → Bool) (xs : List A) (k : ℕ) (d : A) → all p xs ≡ true → p d ≡ true → p (get_or xs k d) ≡ true
one-of-all p [] k d a h = h
one-of-all p (x ∷ xs) zero d a h = (and_parts (p x) (all p xs) a).0
one-of-all p (x ∷ xs) (suc k) d a h = one-of-all p xs k d (and_parts (p x) (all p xs) a).1 h

pub all-mapped : {A B : Type 0} (p : B → Bool) (f : A → B) → ((x : A) → p (f x) ≡ true) → (xs : List A) → all p (map f xs) ≡ true
all-mapped p f h [] = refl
all-mapped p f h (x ∷ xs) = rw (h x) (all-mapped p f h xs)

-- no record mentions a rule or a block, and there are eight tables
abbrev pub inner : ℕ → Bool
inner t = leb 2 t && ltb t 8

abbrev pub leads_inside : Field → Bool
leads_inside Free = true
leads_inside (UpTo most) = true
leads_inside (Mark most value) = true
leads_inside (Tag t) = inner t
leads_inside (Index t) = inner t
leads_inside (Span t) = inner t
leads_inside Nested = true

reading-inside : (code j : ℕ) → leads_inside (rows.reference code j) ≡ true
reading-inside code j =
    one-of-all leads_inside (get_or rows.reading_rows code []) j void
    (one-of-all (all leads_inside) rows.reading_rows code [] refl refl) refl

values-inside : (code : ℕ) → all (all leads_inside) (rows.value_rows code) ≡ true
values-inside code = rw (reading-inside code 0, reading-inside code 1, reading-inside code 2) refl

rows-inside : (t code : ℕ) → all (all leads_inside) (rows.rows_of t code) ≡ true
rows-inside zero code = refl
rows-inside (suc zero) code = refl
rows-inside (suc (suc zero)) code = refl
rows-inside (suc (suc (suc zero))) code = refl
rows-inside (suc (suc (suc (suc zero)))) code = refl
rows-inside (suc (suc (suc (suc (suc zero))))) code = values-inside code
rows-inside (suc (suc (suc (suc (suc (suc zero)))))) code = refl
rows-inside (suc (suc (suc (suc (suc (suc (suc t))))))) code = refl

cases-inside : (a b c d : Bool) (f g h k l : Field) → leads_inside f ≡ true → leads_inside g ≡ true → leads_inside h ≡ true → leads_inside k ≡ true → leads_inside l ≡ true
    → leads_inside (cond a f (cond b g (cond c h (cond d k l)))) ≡ true
cases-inside true b c d f g h k l x y z u v = x
cases-inside false true c d f g h k l x y z u v = y
cases-inside false false true d f g h k l x y z u v = z
cases-inside false false false true f g h k l x y z u v = u
cases-inside false false false false f g h k l x y z u v = v

pub field-inside : (t kind code j : ℕ) → leads_inside (field_of t kind code j) ≡ true
unfolding field_of
field-inside t kind code j =
    cases-inside (eqb t rules) (eqb t blocks) (eqb t pool) (eqb j 0)
    (get_or rule_row j void) (get_or block_row j void) (get_or pool_row j void) (kind_range t code) (kind_field t kind code (j - 1))
    (one-of-all leads_inside rule_row j void refl refl) (one-of-all leads_inside block_row j void refl refl) (one-of-all leads_inside pool_row j void refl refl) refl
    (one-of-all leads_inside (get_or (rows.rows_of t code) kind []) (j - 1) void
    (one-of-all (all leads_inside) (rows.rows_of t code) kind [] (rows-inside t code) refl) refl)

pub fields-inside : (t kind code : ℕ) → all leads_inside (fields_of t kind code) ≡ true
unfolding fields_of
fields-inside t kind code = all-mapped leads_inside (field_of t kind code) (field-inside t kind code) (up_from 0 (width_of t))
