-- `image::passing::Counted::pool_both` meets its contract. Assumes nothing.
use native.Mathlib.Omega.{arith}
use Rattle.image.proofs.OnePass.{pool-both}
use Rattle.image.proofs.passing.Counted.pool_both.Goals as goal

pub returns : goal.returns
returns c = let a = c.args in pool-both a.self.now.image.now a.i a.w.now (omega arith) c.requires
