-- `next::Asked::trigger_minutes` meets its contract. Assumes nothing.
use mathlib.Core.Logic.{⊎_elim}
use Rattle.next.proofs.Triggers.{timer, slot, other, at-time}
use Rattle.next.proofs.Asked.trigger_minutes.Goals as goal

pub returns-in-TimerFires : goal.returns-in-TimerFires
returns-in-TimerFires c = ⊎_elim (λ p. rw p.1 (timer _ _ _)) (λ q. ⊎_elim (λ p. rw p.1 (slot _ _ _)) (λ p. rw p (other _ _)) q) c.in-TimerFires.is

pub returns-in-AtTime : goal.returns-in-AtTime
returns-in-AtTime c = rw c.in-AtTime.is (at-time _ _ _ _ _ (rw c.minute_of_day.ensures.minute at c.days_minutes.ensures))
