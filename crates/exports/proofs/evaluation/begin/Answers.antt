-- `exports::evaluation::begin` meets its contract. Assumes nothing.
use native.Mathlib.Omega.{arith}
use Rattle.exports.proofs.Givens.{accepted-is}
use Rattle.exports.proofs.evaluation.begin.Goals as goal

pub new-image-requires : goal.new-image-requires
new-image-requires c = (accepted-is _ c.words.ensures.accepted).0

pub begin-requires : goal.begin-requires
begin-requires c = (c.requires, omega (arith, rw c.new-image.ensures at c.size_of.ensures, (accepted-is _ c.words.ensures.accepted).1))
