-- `image::layout::Image::of` meets its contract. Assumes nothing.
use mathlib.Core.Path.{◌≡◌}
use lib.ListN.{length}
use Rattle.model.specs.Image.{image_sized}
use Rattle.image.proofs.Ranges.{le-is}
use Rattle.image.proofs.layout.Image.of.Goals as goal

pub returns-then-not-contains : goal.returns-then-not-contains
unfolding image_sized
returns-then-not-contains c =
    let n = length c.args.words.now in
    let d = c.new.ensures in
    let e : c.contains.result ≡ image_sized c.args.words.now = rw (c.contains.ensures.value, d.start, d.end, d.exhausted, le-is 13 n, le-is n 4096) in
    rw (← e, c.if-not-contains.true)

pub returns : goal.returns
unfolding image_sized
returns c =
    let n = length c.args.words.now in
    let d = c.new.ensures in
    let e : c.contains.result ≡ image_sized c.args.words.now = rw (c.contains.ensures.value, d.start, d.end, d.exhausted, le-is 13 n, le-is n 4096) in
    rw (← e, c.if-not-contains.false, c.new-2.ensures)
