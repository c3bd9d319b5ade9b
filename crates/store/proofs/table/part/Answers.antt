-- `store::table::part` meets its contract. Assumes nothing.
use Prim.Native.Nat.{◌<◌}
use native.Mathlib.Omega.{arith}
use lib.ListN.{length}
use Rattle.store.proofs.Tables.{all-parts, part-there, bounded-there}
use Rattle.store.proofs.table.part.Goals as goal

pub bounds-parts-t : goal.bounds-parts-t
bounds-parts-t c = omega (arith, all-parts _ c.requires.same, c.requires.place)

pub returns : goal.returns
returns c =
    let ps = c.args.parts.now in
    let h : c.args.t < length ps = omega (arith, all-parts ps c.requires.same, c.requires.place) in
    (part-there ps c.args.t _ h c.requires.same, bounded-there ps c.args.t _ h c.requires.bounded)
