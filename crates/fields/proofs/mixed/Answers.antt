-- `fields::mixed` meets its contract. Assumes nothing.
use native.Mathlib.Omega.{arith}
use Rattle.fields.specs.Marks.{mixed}
use Rattle.fields.proofs.mixed.Goals as goal

pub returns : goal.returns
unfolding mixed
returns c = omega arith
