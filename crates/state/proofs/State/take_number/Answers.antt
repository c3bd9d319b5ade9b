-- `state::State::take_number` meets its contract. Assumes nothing.
use native.Mathlib.Omega.{arith}
use Rattle.state.proofs.TakingNumbers.{one-more, no-more, next-below, next-beyond, beyond-small, takes-number, takes-beyond}
use Rattle.state.proofs.Follows.{means}
use Rattle.state.proofs.State.take_number.Goals as goal

pub returns-in-Some : goal.returns-in-Some
returns-in-Some c =
    let more = one-more _ _ _ c.in-Some.is c.checked_add.ensures in
    rw (← c.self.view_is) ((means (takes-number _ c.self.invariant _ c.at.ensures _ more _ c.put.ensures), next-below _ c.self.invariant _ c.at.ensures _ more))

pub overflow_add-beyond : goal.overflow_add-beyond
overflow_add-beyond c =
    omega (arith, beyond-small _ c.self.invariant _ c.at.ensures _ c.at-beyond.ensures (no-more _ _ c.in_default.is c.checked_add.ensures) (rw (← c.self.view_is) at c.requires))

pub returns : goal.returns
returns c =
    let full = no-more _ _ c.in_default.is c.checked_add.ensures in
    rw (← c.self.view_is) ((means (takes-beyond _ c.self.invariant _ c.at.ensures _ c.at-beyond.ensures full (rw (← c.self.view_is) at c.requires) _ c.put-2.ensures), next-beyond _ c.self.invariant _ c.at.ensures full))

pub invariant_of-self : goal.invariant_of-self
invariant_of-self c = (takes-number _ c.self.invariant _ c.at.ensures _ (one-more _ _ _ c.in-Some.is c.checked_add.ensures) _ c.put.ensures).sound

pub invariant_of-self-2 : goal.invariant_of-self-2
invariant_of-self-2 c = (takes-beyond _ c.self.invariant _ c.at.ensures _ c.at-beyond.ensures (no-more _ _ c.in_default.is c.checked_add.ensures) (rw (← c.self.view_is) at c.requires) _ c.put-2.ensures).sound
