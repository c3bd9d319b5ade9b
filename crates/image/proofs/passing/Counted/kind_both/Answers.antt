-- `image::passing::Counted::kind_both` meets its contract. Assumes nothing.
use mathlib.Core.Path.{◌≡◌, ◌∙◌}
use lib.ListN.{length}
use native.Mathlib.Omega.{arith}
use Rattle.image.specs.Tables.{number_of}
use Rattle.image.proofs.OnePass.{kind-both}
use Rattle.image.proofs.passing.Counted.kind_both.Goals as goal

pub returns : goal.returns
returns c =
    let a = c.args in
    let r = c.requires in
    let l : length c.row_of-row.result ≡ 5 = omega arith in
    c.row_both.ensures ∙ kind-both a.self.now.image.now a.i (number_of a.t) r.kinds.0 r.kinds.1 a.w.now (omega arith) r.record_i _ c.row_of-row.ensures l _ c.last_kind.ensures
