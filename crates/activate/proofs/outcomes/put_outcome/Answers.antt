-- `activate::outcomes::put_outcome` meets its contract. Assumes nothing.
use Rattle.activate.proofs.Written.{job-room, put-none}
use Rattle.activate.proofs.outcomes.put_outcome.Goals as goal

pub returns-then-k-lent : goal.returns-then-k-lent
returns-then-k-lent c es e =
    rw c.copy_from_slice.ensures.after (job-room _ _ c.args.job _ _ _ es e _ _ _ c.if-k-lent.true c.from.ensures c.low_word.ensures c.high_word.ensures)

pub returns-else-k-lent : goal.returns-else-k-lent
returns-else-k-lent c es e = put-none _ _ _ _ c.if-k-lent.false
