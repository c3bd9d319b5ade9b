-- `engine::handle::commit` meets its contract. Assumes nothing.
use borrow.Author.Tests.{leb-true}
use Rattle.model.proofs.StoreLaws.{write_read}
use Rattle.activate.specs.Carried.{carried_by}
use Rattle.engine.proofs.HandlingLaws.{fit, call-refused, call_ends}
use Rattle.engine.proofs.handle.commit.Goals as goal

pub returns-in-Err-clause-ends : goal.returns-in-Err-clause-ends
returns-in-Err-clause-ends c s h e o =
    let a = c.args in
    call-refused a.lent.now.state.now a.lent.now.handled a.time _ _ _ s h o _ _ _ (rw c.in-Err.is at c.fits.ensures) c.clear.ensures c.clear-in-Err.ensures

pub assign_numbers-requires : goal.assign_numbers-requires
assign_numbers-requires c =
    let f = fit _ _ (carried_by c.args.lent.now) (rw c.in-Ok.is at c.fits.ensures) in
    (f.next, leb-true _ _ f.last)

pub returns-in-Ok-clause-ends : goal.returns-in-Ok-clause-ends
returns-in-Ok-clause-ends c s h e o =
    let a = c.args in
    let r = write_read _ s e in
    call_ends a.lent.now.state.now a.lent.now.handled a.time _ _ _ s h o (rw c.in-Ok.is at c.fits.ensures) _ _ _ c.assign_numbers.ensures r.keeps r.written c.put_state.ensures c.put_last.ensures
