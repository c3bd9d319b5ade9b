-- `image::layout::Image::limits_fit` meets its contract. Assumes nothing.
use lib.Dec.{leb-zero}
use Rattle.model.specs.Lists.{every}
use Rattle.model.specs.Image.{budget, call_depth, repeat_limit, text_limit, group_limit, limits_fit}
use Rattle.image.proofs.Ranges.{le-is}
use Rattle.image.proofs.layout.Image.limits_fit.Goals as goal

pub returns : goal.returns
unfolding limits_fit every
returns c =
    let img = c.args.self.now in
    let d = c.new.ensures in
    let e = c.new-2.ensures in
    rw (c.contains.ensures.value, c.contains-2.ensures.value, d.start, d.end, d.exhausted, e.start, e.end, e.exhausted, c.budget.ensures, c.call_depth.ensures, c.repeat_limit.ensures, c.text_limit.ensures, c.group_limit.ensures, le-is 1 (budget img), le-is 1 (repeat_limit img), le-is (budget img) 256, le-is (repeat_limit img) 255, leb-zero (call_depth img), leb-zero (text_limit img), leb-zero (group_limit img))
