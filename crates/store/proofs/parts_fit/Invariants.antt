-- `store::parts_fit` meets its contract. The invariant: the answer is that of the rest of the parts. Assumes nothing.
use Rattle.std.proofs.Common.{◌≡◌, ◌+◌, ◌≤◌, drop, map}
use Rattle.model.specs.Layout.{sizes, parts_fit}
use Rattle.store.specs.Cells.{part_of}
use Rattle.store.proofs.parts_fit.Given as goal

abbrev pub invariant-loop-part : goal.invariant-loop-part
invariant-loop-part l =
    let left = map part_of (drop l.part-index l.parts) in
    (l.k + sizes left ≤ 16384) × (parts_fit (map part_of l.parts) l.words ≡ parts_fit left (drop l.k l.words))
