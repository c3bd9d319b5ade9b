-- `activate::execute::start` meets its contract. Assumes nothing.
use Rattle.model.specs.Activate as model
use Rattle.activate.proofs.Running.{starts}
use Rattle.activate.proofs.execute.start.Goals as goal

pub returns : goal.returns
unfolding model.numbered
returns c =
    starts c.args.snapshot.now c.args.job c.args.v.now _ _ _ c.bump.ensures c.set_last_activation.ensures _ _ c.now_ms-time.ensures c.take_number-number.ensures.0 c.take_number-number.ensures.1
