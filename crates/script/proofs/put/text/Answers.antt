-- `script::put::text` meets its contract. Assumes nothing.
use native.Mathlib.Omega.{arith}
use Rattle.script.proofs.put.text.Goals as goal

pub returns : goal.returns
returns c = record { bytes-stand = c.put.ensures.stand; ends = omega (arith, c.put.ensures.ends, c.requires); same = c.put.ensures.same }
