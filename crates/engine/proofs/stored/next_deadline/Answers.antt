-- `engine::stored::next_deadline` meets its contract. Assumes nothing.
use Rattle.engine.proofs.DeadlineLaws.{deadline-is}
use Rattle.engine.proofs.stored.next_deadline.Goals as goal

pub returns : goal.returns
returns c = deadline-is _ _ _ _ _ c.image.ensures.value c.last_at.ensures c.begin.ensures c.next_deadline.ensures
