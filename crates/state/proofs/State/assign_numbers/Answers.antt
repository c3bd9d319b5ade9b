-- `state::State::assign_numbers` meets its contract: its callees' contracts, put together. Assumes nothing.
use mathlib.Core.Path.{refl}
use native.Mathlib.Omega.{arith}
use Rattle.state.proofs.Records.{records-lent, stored-within}
use Rattle.state.proofs.Assigning.{next_small, offsets-small, all-numbered}
use Rattle.state.proofs.State.assign_numbers.Goals as goal

pub number_all-requires : goal.number_all-requires
number_all-requires c =
    let n = c.at-next.ensures in
    let a = c.at-accepted.ensures in
    (records-lent _ c.self.invariant, stored-within _ c.self.invariant, offsets-small _ c.self.invariant _ _ n a (rw (← c.self.view_is) at c.requires.0))

pub overflow_add-next : goal.overflow_add-next
overflow_add-next c = omega (arith, next_small _ c.self.invariant _ _ c.at-next.ensures c.at-accepted.ensures (rw (← c.self.view_is) at c.requires.0))

pub returns : goal.returns
returns c =
    rw (← c.self.view_is) (all-numbered _ c.self.invariant _ _ c.at-next.ensures c.at-accepted.ensures (rw (← c.self.view_is) at c.requires.0) (rw (← c.self.view_is) at c.requires.1) _ _ _ _ _ _ c.number_all.ensures refl refl refl c.put.ensures c.put-2.ensures)

pub invariant_of-self : goal.invariant_of-self
invariant_of-self c = (all-numbered _ c.self.invariant _ _ c.at-next.ensures c.at-accepted.ensures (rw (← c.self.view_is) at c.requires.0) (rw (← c.self.view_is) at c.requires.1) _ _ _ _ _ _ c.number_all.ensures refl refl refl c.put.ensures c.put-2.ensures).sound
