-- `image::passing::Counted::block_both` meets its contract. Assumes nothing.
use native.Mathlib.Omega.{arith}
use Rattle.image.proofs.OnePass.{block-both}
use Rattle.image.proofs.passing.Counted.block_both.Goals as goal

pub returns : goal.returns
returns c =
    let a = c.args in
    block-both a.self.now.image.now a.i a.w.now (omega arith) c.requires c.within-actions.result (rw (← c.size.ensures) c.within-actions.ensures)
