-- `script::calls::Call::shape` meets its contract: the row of enable written out, so that its parameters are compared. Assumes nothing.
use Rattle.script.proofs.calls.Call.shape.Goals as goal

pub returns-in-Enable-clause-params : goal.returns-in-Enable-clause-params
returns-in-Enable-clause-params c = rw c.in-Enable.is c.new-in-Enable.ensures.params
