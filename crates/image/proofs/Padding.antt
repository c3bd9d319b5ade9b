-- The code's tables of rows are the specification's, each row padded with void fields. Assumes nothing.
use mathlib.Core.Path.{◌≡◌, refl, sym, ◌∙◌}
use mathlib.Core.List.{List, [], ◌∷◌, map}
use Prim.Native.Nat.{ℕ, ◌<◌, ◌≤◌}
use native.Mathlib.Omega.{arith}
use lib.ListN.{length, get_or, get_or-map, get_or-eq_default, length-append, length-replicate}
use Rattle.std.proofs.lemmas.List.{get_or_default}
use Rattle.model.specs.declared.Field.{Field}
use Rattle.model.specs.Rows.{void, action_rows, reading_rows}
use Rattle.image.specs.Tables.{number_of}
use Rattle.image.specs.declared.layout.Table.{Table}
use Rattle.image.specs.declared.layout.Table.TheVariants.{Rules, Blocks, Triggers, Conditions, Actions, Values, Bounds, Pool}
use Rattle.fields.proofs.Padded.{padded, field_at}

-- row k of a table of padded rows
pub row-is : (n : ℕ) (rows : List (List Field)) (k : ℕ) → get_or (map (padded void n) rows) k (padded void n []) ≡ padded void n (get_or rows k [])
row-is n rows k = get_or-map (padded void n) rows k []

-- field j of a padded row
pub field-is : (n : ℕ) (row : List Field) (j : ℕ) (d : Field) → j < n → get_or (padded void n row) j d ≡ get_or row j void
field-is n row j d h =
    let l : j < length (padded void n row) = omega (arith, length-append {A = Field}, length-replicate {A = Field}) in
    get_or_default (padded void n row) j d void l ∙ field_at void n (row ∷ []) 0 j (padded void n row) _ refl refl

-- field j of an action of a kind that has no more than n fields, where n is read off their lengths with some default
pub past-fields : (kind j n d : ℕ) → n ≡ get_or (map length action_rows) kind d → kind < 29 → n ≤ j → void ≡ get_or (get_or action_rows kind []) j void
past-fields kind j n d e k h =
    let m : n ≡ length (get_or action_rows kind []) = e ∙ (get_or_default (map length action_rows) kind d 0 k ∙ get_or-map length action_rows kind []) in
    let l : length (get_or action_rows kind []) ≤ j = rw (← m) h in
    sym (get_or-eq_default (get_or action_rows kind []) void l)

-- the rows of values, whose references depend on the code of a reading
module _ (code : ℕ) (r : List Field) (e : r ≡ get_or (map (padded void 3) reading_rows) code (padded void 3 [])) (d : Field) where
  pub reference-is : (j : ℕ) → j < 3 → get_or r j d ≡ get_or (get_or reading_rows code []) j void
  reference-is j h = rw (e, row-is 3 reading_rows code) (field-is 3 (get_or reading_rows code []) j d h)

-- there are eight tables
pub numbered : (t : Table) → number_of t < 8
numbered Rules = omega arith
numbered Blocks = omega arith
numbered Triggers = omega arith
numbered Conditions = omega arith
numbered Actions = omega arith
numbered Values = omega arith
numbered Bounds = omega arith
numbered Pool = omega arith

-- the tables whose records begin with a kind
pub kinded : (t : Table) → (t ≡ Rules → ⊥) → (t ≡ Blocks → ⊥) → (t ≡ Pool → ⊥) → (2 ≤ number_of t) × (number_of t ≤ 6)
kinded Rules r b p = absurd (r refl)
kinded Blocks r b p = absurd (b refl)
kinded Triggers r b p = (omega arith, omega arith)
kinded Conditions r b p = (omega arith, omega arith)
kinded Actions r b p = (omega arith, omega arith)
kinded Values r b p = (omega arith, omega arith)
kinded Bounds r b p = (omega arith, omega arith)
kinded Pool r b p = absurd (p refl)
