-- `image::layout::Image::table` meets its contract. Assumes nothing.
use mathlib.Core.Path.{refl, ap}
use native.Mathlib.Omega.{arith}
use lib.ListN.{length}
use Rattle.model.specs.Image.{table_of}
use Rattle.image.proofs.Ends.{tables-begin, table-order, table-end}
use Rattle.image.proofs.layout.Image.table.Goals as goal

pub slice_bounds-result-count : goal.slice_bounds-result-count
slice_bounds-result-count c = omega (arith, c.start_of.ensures, c.end_of.ensures, table-order c.args.self.now c.requires c.args.t, tables-begin c.args.self.now c.requires)

pub slice_bounds-result-start : goal.slice_bounds-result-start
slice_bounds-result-start c = omega (arith, c.start_of.ensures, c.end_of.ensures, table-order c.args.self.now c.requires c.args.t, tables-begin c.args.self.now c.requires)

pub slice_bounds-result-end : goal.slice_bounds-result-end
slice_bounds-result-end c = omega (arith, c.end_of.ensures, table-end c.args.self.now c.requires c.args.t, ap length c.self.view_is)

pub returns : goal.returns
unfolding table_of
returns c = rw (c.self.view_is, c.start_of.ensures, c.end_of.ensures) refl
