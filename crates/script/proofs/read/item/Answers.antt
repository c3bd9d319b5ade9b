-- `script::read::item` meets its contract. Assumes nothing.
use Rattle.std.proofs.Common.{sym, arith}
use Rattle.decimal.proofs.DigitLaws.{taken-most}
use Rattle.script.proofs.read.item.Goals as goal

pub overflow_cast-result : goal.overflow_cast-result
overflow_cast-result c = omega (arith, taken-most 4294967295 _ _ (sym c.in-Ok.ensures))
