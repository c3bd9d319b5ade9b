-- `fields::Records::marks_differ` meets its contract: a record whose mark no record before it has differs from them. Assumes nothing.
use mathlib.Core.Path.{refl, ap, ◌∙◌}
use mathlib.Core.Bool.{true}
use Prim.Native.Nat.{ℕ}
use lib.Dec.{eqb}
use Rattle.std.specs.List.{list_any}
use Rattle.fields.proofs.Every.{starts, goes}
use Rattle.fields.proofs.Marks.{none_kept, one_more, fresh-by}
use Rattle.fields.proofs.Records.marks_differ.Goals as goal

pub loop-i-init : goal.loop-i-init
loop-i-init c = (rw c.new-marks.ensures (none_kept _ _ _ _), starts _)

pub loop-i-preserved : goal.loop-i-preserved
loop-i-preserved c =
    let inv = c.loop-i.invariant in
    let m = c.mark-m.ensures in
    let absent = c.contains.ensures.value ∙ ap (list_any (λ (y : ℕ). eqb y c.mark-m.result)) c.as_slice.ensures.value in
    (rw c.push.ensures.items (one_more _ _ _ _ inv.0 m), goes _ _ true inv.1 (fresh-by _ _ _ _ _ _ _ _ inv.0 m absent c.if-contains.false) refl)
