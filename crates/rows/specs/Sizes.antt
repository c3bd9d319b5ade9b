-- How many words a row takes.
use Rattle.std.specs.Prelude.{◌≡◌, refl, [], ◌∷◌, ℕ, ◌≤◌, length}
use Rattle.std.specs.Prelude.{Option, None, Some}
use Rattle.std.proofs.Common.{arith, lit≤, length-append}
use Rattle.words.specs.Pairs.{low_of, high_of}
use Rattle.model.specs.Codec.{Row, word, wide}
use Rattle.model.specs.Parts.{jump_row, timer_row, slot_row, pending_row}
use Rattle.model.specs.declared.Jump.{Jump}
use Rattle.model.specs.declared.Pending.{Pending}
use Rattle.model.specs.declared.Point.{Point}
use Rattle.rows.specs.Rows.{bool_row, variable_code_row, leap_row, point_row}

-- n words, whatever the value: one at least, and not many
pub record Takes {A : Type 0} (r : Row A) (n : ℕ) : Type 0 where
  pub cells : length r.cells ≡ n
  pub long : (x : A) → length (r.put x) ≡ n
  pub least : 1 ≤ n
  pub most : n ≤ 15

pub word_takes : (m : ℕ) → Takes (word m) 1
word_takes m = record { cells = refl; long = λ x. refl; least = lit≤ tt; most = lit≤ tt }

pub wide-takes : Takes wide 2
wide-takes = record { cells = refl; long = λ x. refl; least = lit≤ tt; most = lit≤ tt }

pub bool-takes : Takes bool_row 1
bool-takes = record { cells = refl; long = λ x. refl; least = lit≤ tt; most = lit≤ tt }

pub variable-takes : Takes variable_code_row 4
variable-takes = record { cells = refl; long = λ x. refl; least = lit≤ tt; most = lit≤ tt }

pub timer-takes : Takes timer_row 3
timer-takes = record { cells = refl; long = λ x. refl; least = lit≤ tt; most = lit≤ tt }

pub slot-takes : Takes slot_row 5
slot-takes = record { cells = refl; long = λ x. refl; least = lit≤ tt; most = lit≤ tt }

pub leap-takes : Takes leap_row 2
leap-takes = record { cells = refl; long = λ x. refl; least = lit≤ tt; most = lit≤ tt }

jump-long : (j : Option Jump) → length (jump_row.put j) ≡ 3
jump-long None = refl
jump-long (Some j) = refl

pub point-takes : Takes point_row 5
point-takes = record { cells = refl; long = long; least = lit≤ tt; most = lit≤ tt }
  where
    long : (x : Point) → length (point_row.put x) ≡ 5
    long x = omega (arith, jump-long x.jump)

pub pending-takes : Takes pending_row 15
pending-takes = record { cells = refl; long = long; least = lit≤ tt; most = lit≤ tt }
  where
    long : (x : Pending) → length (pending_row.put x) ≡ 15
    long x =
        let last = x.budget ∷ (x.trigger ∷ (low_of x.number ∷ (high_of x.number ∷ (0 ∷ [])))) in
        omega (arith, length-append (jump_row.put x.point.jump) last, jump-long x.point.jump)
