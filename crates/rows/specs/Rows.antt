-- Rows of the layout by the types that the code has for them.
use Rattle.std.specs.Prelude.{Bool, true, cond, [], ◌∷◌, ℕ, get_or, replicate}
use Rattle.words.specs.Pairs.{low_of}
use Rattle.model.specs.Layout.{free}
use Rattle.model.specs.Codec.{Row, ◌⊗◌, as_row}
use Rattle.model.specs.Parts.{any, bit, variable_row, jump_is, jump_row}
use Rattle.model.specs.World.{is_one}
use Rattle.model.specs.Store.{bit_of, variable_row_of}
use Rattle.model.specs.declared.Jump.{Jump}
use Rattle.model.specs.declared.Point.{Point}
use Rattle.model.specs.declared.VarValue.TheVariants.{Int, Text}
use Rattle.model.specs.declared.Variable.{Variable}

-- a row, by another type
abbrev pub through : {A B : Type 0} → (A → B) → (B → A) → Row A → Row B
through to from r =
    record { cells = r.cells; get = λ w. to (r.get w); put = λ b. r.put (from b); good = λ b. r.good (from b) }

abbrev pub bool_row : Row Bool
bool_row = through is_one bit_of bit

-- "a text variable keeps its number only": what stands in the low word
abbrev pub short_variable_of : ℕ × (ℕ × ℕ) → Variable
short_variable_of r = record { name = r.0; value = cond (is_one r.1.0) (Text (low_of r.1.1)) (Int r.1.1) }

abbrev pub variable_code_row : Row Variable
variable_code_row = through short_variable_of variable_row_of variable_row

-- a jump, behind its mark
abbrev pub leap_row : Row Jump
leap_row = as_row jump_is (any ⊗ any)

-- list, place and jump of a pending record
abbrev pub point_row : Row Point
point_row = through (λ x. record { list = x.0; place = x.1.0; jump = x.1.1 }) (λ p. (p.list, (p.place, p.jump))) (any ⊗ (any ⊗ jump_row))

-- the first word of a row of so many words
abbrev pub first_word : ℕ → Row ℕ
first_word n = record { cells = replicate n free; get = λ w. get_or w 0 0; put = λ x. x ∷ []; good = λ x. true }
