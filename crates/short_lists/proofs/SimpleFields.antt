-- The fields of values, and of actions without lists of their own: each is a range, or leads to the values or to the pool. Assumes nothing.
use mathlib.Core.Path.{◌≡◌, refl}
use mathlib.Core.Bool.{Bool, true, false, cond, not, ◌&&◌, ◌||◌, false≢true}
use mathlib.Core.List.{List, [], ◌∷◌}
use Prim.Native.Nat.{ℕ, zero, suc, ◌-◌}
use native.Mathlib.Omega.{arith}
use borrow.Author.Tests.{ltb-true, ltb-false, eqb-true}
use lib.Dec.{ltb, eqb}
use lib.ListN.{get_or, get_or-eq_default}
use Rattle.model.specs.declared.Field.{Field}
use Rattle.model.specs.declared.Field.TheVariants.{Free, UpTo, Mark, Tag, Index, Span, Nested}
use Rattle.model.specs.Lists.{all, every}
use Rattle.model.specs.Field.{fits}
use Rattle.model.specs.Image.{leads, size_of}
use Rattle.model.specs.Rows.{values, pool, void, action_rows, reading_rows, reference, value_rows, field_of}
use Rattle.fields.proofs.Every.{at}
use Rattle.fields.proofs.Padded.{short-at}
use Rattle.image.specs.Passing.{both_pass}
use Rattle.model.specs.ShortLists.{is_plain}
use Rattle.short_lists.specs.Checks.{leads_to, field_passes}
use Rattle.short_lists.proofs.Blocks.{by}

abbrev pub is_simple : Field → Bool
is_simple Free = true
is_simple (UpTo most) = true
is_simple (Mark most value) = true
is_simple (Tag t) = false
is_simple (Index t) = eqb t values
is_simple (Span t) = eqb t pool
is_simple Nested = false

-- such a field asks the same of a word in any image, whichever record holds it
pub simple-passes : (img : List ℕ) (holder : ℕ) (f : Field) (w next : ℕ) → is_simple f ≡ true → both_pass img holder f w next ≡ field_passes (size_of img values) (size_of img pool) f w next
unfolding both_pass field_passes leads leads_to
simple-passes img holder Free w next e = refl
simple-passes img holder (UpTo most) w next e = refl
simple-passes img holder (Mark most value) w next e = refl
simple-passes img holder (Tag t) w next e = absurd (false≢true e)
simple-passes img holder (Index t) w next e = rw (eqb-true t values e)
simple-passes img holder (Span t) w next e = rw (eqb-true t pool e)
simple-passes img holder Nested w next e = absurd (false≢true e)

-- of a void word the next does not matter
pub void-passes : (img : List ℕ) (holder size room w x y : ℕ) → both_pass img holder (UpTo 0) w x ≡ field_passes size room (UpTo 0) w y
unfolding both_pass field_passes fits leads leads_to
void-passes img holder size room w x y = refl

pub all_get_d : {A : Type 0} (p : A → Bool) (l : List A) (d : A) → p d ≡ true → all p l ≡ true → (k : ℕ) → p (get_or l k d) ≡ true
all_get_d p [] d e h k = e
all_get_d p (x ∷ l) d e h zero = left (p x) (all p l) h
  where
    left : (a b : Bool) → a && b ≡ true → a ≡ true
    left true b t = refl
    left false b t = t
all_get_d p (x ∷ l) d e h (suc k) = all_get_d p l d e (right (p x) (all p l) h) k
  where
    right : (a b : Bool) → a && b ≡ true → b ≡ true
    right true b t = t
    right false b t = absurd (false≢true t)

-- ACTIONS

known-kinds : every 29 (λ k. not (is_plain k) || all is_simple (get_or action_rows k [])) ≡ true
unfolding every is_plain
known-kinds = refl

plain_row : (kind : ℕ) → is_plain kind ≡ true → all is_simple (get_or action_rows kind []) ≡ true
plain_row kind e =
    by (ltb kind 29)
    (λ l. rw e at (at (λ k. not (is_plain k) || all is_simple (get_or action_rows k [])) 29 kind known-kinds (ltb-true kind 29 l)))
    (λ l. rw (get_or-eq_default action_rows [] (ltb-false kind 29 l)))

-- VALUES

simple-reference : (code j : ℕ) → is_simple (reference code j) ≡ true
simple-reference code j = all_get_d is_simple (get_or reading_rows code []) void refl (all_get_d (all is_simple) reading_rows [] refl refl code) j

value_row : (code kind : ℕ) → all is_simple (get_or (value_rows code) kind []) ≡ true
value_row code kind =
    all_get_d (all is_simple) (value_rows code) [] refl
    (rw (simple-reference code 0, simple-reference code 1, simple-reference code 2))
    kind

-- BOTH

-- the kind, or a field of its row
pick : (b : Bool) (most : ℕ) (row : List Field) (j : ℕ) → all is_simple row ≡ true → is_simple (cond b (UpTo most) (get_or row j void)) ≡ true
pick true most row j h = refl
pick false most row j h = all_get_d is_simple row void refl h j

-- what is known of the rows of table t
pub record SimpleRows (t kind code : ℕ) : Type 0 where
  pub field : (j : ℕ) → is_simple (field_of t kind code j) ≡ true
  pub last : field_of t kind code 7 ≡ UpTo 0

pub simple-action : (kind code : ℕ) → is_plain kind ≡ true → SimpleRows 4 kind code
unfolding field_of
simple-action kind code e =
    record {
      field = λ j. pick (eqb j 0) 28 (get_or action_rows kind []) (j - 1) (plain_row kind e);
      last = get_or-eq_default (get_or action_rows kind []) void (omega (arith, short-at 5 action_rows kind tt));
    }

pub simple-value : (kind code : ℕ) → SimpleRows 5 kind code
unfolding field_of
simple-value kind code =
    record {
      field = λ j. pick (eqb j 0) 2 (get_or (value_rows code) kind []) (j - 1) (value_row code kind);
      last = get_or-eq_default (get_or (value_rows code) kind []) void (omega (arith, short-at 5 (value_rows code) kind tt));
    }
