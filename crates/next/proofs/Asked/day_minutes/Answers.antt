-- `next::Asked::day_minutes` meets its contract. Assumes nothing.
use Rattle.next.proofs.Minutes.{this-day, other-day}
use Rattle.next.proofs.Asked.day_minutes.Goals as goal

pub returns-then-not-has_day : goal.returns-then-not-has_day
returns-then-not-has_day c = other-day _ _ _ _ c.has_day.ensures c.if-not-has_day.true

pub returns : goal.returns
returns c = this-day _ _ _ _ c.has_day.ensures c.if-not-has_day.false c.minutes_to.ensures.first c.minutes_to.ensures.in_week
