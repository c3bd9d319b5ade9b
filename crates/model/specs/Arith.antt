-- Comparisons and sets of weekdays. Saturation, word pairs and signed numbers are crate `words`.
use Rattle.std.specs.Prelude.{ℕ, ◌%◌, ◌^◌, ◌/◌, Bool, false, not, eqb, ℤ, Option, None, Some}
use Rattle.std.specs.Int.Signed.{lt_z, le_z}
use Rattle.words.specs.Signed.{eq_z}
use Rattle.model.specs.declared.Cmp.{Cmp}
use Rattle.model.specs.declared.Cmp.TheVariants.{Eq, Ne, Ge, Le, Gt, Lt}

-- `compare_i64`; what the image calls by no comparison is false
unfoldable pub compare_i64 : Option Cmp → ℤ → ℤ → Bool
compare_i64 (Some Eq) a b = eq_z a b
compare_i64 (Some Ne) a b = not (eq_z a b)
compare_i64 (Some Ge) a b = le_z b a
compare_i64 (Some Le) a b = le_z a b
compare_i64 (Some Gt) a b = lt_z b a
compare_i64 (Some Lt) a b = lt_z a b
compare_i64 None a b = false

-- bit d of a set of weekdays
unfoldable pub has_day : ℕ → ℕ → Bool
has_day days d = eqb ((days / 2 ^ d) % 2) 1
