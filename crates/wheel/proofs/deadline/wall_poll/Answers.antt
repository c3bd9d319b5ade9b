-- `wheel::deadline::wall_poll` meets its contract. Assumes nothing.
use Rattle.words.specs.Saturating.{saturating_add}
use Rattle.wheel.proofs.Least.{polled}
use Rattle.wheel.proofs.deadline.wall_poll.Goals as goal

pub returns : goal.returns
unfolding saturating_add
returns c = λ flat. rw (c.in_ok-image.was, ← c.has_wall_triggers.ensures, c.then_some.ensures, c.saturating_add.ensures) (polled c.has_wall_triggers.result _)
