-- `every::Rebuild::join_rule` meets its contract: the slots so far, and those of the triggers that are left. Assumes nothing.
use mathlib.Core.Logic.{inl, inr}
use native.Mathlib.Numerals.{add-one}
use Rattle.std.proofs.Common.{arith, ap, length}
use Rattle.std.proofs.lemmas.List.{nil_from_length}
use Rattle.every.proofs.Slots.{room, joins-on, joined-all, trigger-left, none_left}
use Rattle.every.proofs.Rebuild.join_rule.Goals as goal

pub join_slot-requires : goal.join_slot-requires
join_slot-requires c =
    let v = c.loop-place.invariant in
    let s = c.in-Some.ensures.steps in
    rw s.0.0 (room _ _ _ _ _ v.2 (trigger-left _ _ _ _ _ _ _ s.1) v.0)

pub loop-place-preserved : goal.loop-place-preserved
loop-place-preserved c =
    let v = c.loop-place.invariant in
    let s = c.in-Some.ensures.steps in
    let joins = rw s.0.0 at c.join_slot.ensures in
    (v.0, omega (arith, v.1, s.0, ap length s.1), rw (s.0.1, s.0.0, add-one) (joins-on _ _ _ _ _ v.2 (trigger-left _ _ _ _ _ _ _ s.1) _ joins))

pub returns : goal.returns
returns c =
    let v = c.loop-place.invariant in
    rw (← c.name_of-rule.ensures)
    (joined-all _ _ _ v.2 (none_left _ _ _ _ _ (elim c.in-None.ensures.steps [ inl p ↦ nil_from_length _ (omega (arith, v.1, p.1.0)) | inr q ↦ q.1.0 ])))
