-- `rewrite::walk::Frame::mention` meets its contract. Assumes nothing.
use native.Mathlib.Omega.{arith}
use Rattle.rewrite.proofs.Grown.{width-bounds}
use Rattle.rewrite.proofs.walk.Frame.mention.Goals as goal

pub at-requires : goal.at-requires
at-requires c = (c.requires.table, omega (arith, c.requires.word, width-bounds c.args.self.table))
