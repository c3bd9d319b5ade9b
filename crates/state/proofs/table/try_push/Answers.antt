-- `state::table::try_push` meets its contract. Assumes nothing.
use Rattle.state.proofs.table.try_push.Goals as goal

-- written out, so that a fact refuses a test that is not strict
pub push-requires : goal.push-requires
push-requires g c = c.requires.room c.if-less.true
