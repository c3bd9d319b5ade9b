-- `words::solar_time` meets its contract. Assumes nothing.
use native.Mathlib.Omega.{arith}
use Rattle.words.proofs.Minutes.{solar-is}
use Rattle.words.proofs.solar_time.Goals as goal

pub returns : goal.returns
returns c = solar-is c.args.base c.args.offset (omega arith) c.ranges.offset _ _ _ _ c.cast_signed-offset_ms.ensures c.from.ensures c.from-2.ensures c.rem_euclid.ensures.value
