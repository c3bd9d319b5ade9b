-- `image::layout::Image::record_at` meets its contract. Assumes nothing.
use Rattle.model.specs.Image.{word_at}
use Rattle.image.proofs.layout.Image.record_at.Goals as goal

pub returns : goal.returns
unfolding word_at
returns c =
    let e = c.records-records.ensures in
    rw (c.cell.ensures, c.cell-2.ensures, c.cell-3.ensures, c.cell-4.ensures, c.cell-5.ensures, c.cell-6.ensures, e.0, e.1, e.2)
