-- `wheel::minutes::Window::day_due` meets its contract. Assumes nothing.
use Rattle.wheel.proofs.Windows.{on-day, other-day}
use Rattle.wheel.proofs.minutes.Window.day_due.Goals as goal

pub returns-then-has_day : goal.returns-then-has_day
returns-then-has_day c = on-day _ _ _ _ _ c.has_day.ensures c.if-has_day.true c.in_window.ensures

pub returns-else-has_day : goal.returns-else-has_day
returns-else-has_day c = other-day _ _ _ _ _ c.has_day.ensures c.if-has_day.false
