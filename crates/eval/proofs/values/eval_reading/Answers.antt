-- `eval::values::eval_reading` meets its contract. Assumes nothing.
use Rattle.eval.proofs.values.eval_reading.Goals as goal

pub returns-in-TimeNow : goal.returns-in-TimeNow
returns-in-TimeNow c image flat = rw c.in-TimeNow.is (c.time_now.ensures _ image flat)

pub returns-in-TimeHour : goal.returns-in-TimeHour
returns-in-TimeHour c image flat = rw c.in-TimeHour.is (c.time_hour.ensures _ image flat)

pub returns-in-TimeMinute : goal.returns-in-TimeMinute
returns-in-TimeMinute c image flat = rw c.in-TimeMinute.is (c.time_minute.ensures _ image flat)

pub returns-in-TimeWeekday : goal.returns-in-TimeWeekday
returns-in-TimeWeekday c image flat = rw c.in-TimeWeekday.is (c.time_weekday.ensures _ image flat)

pub returns-in-SunRise : goal.returns-in-SunRise
returns-in-SunRise c image flat = rw c.in-SunRise.is (c.sun_rise.ensures _ image flat)

pub returns-in-SunSet : goal.returns-in-SunSet
returns-in-SunSet c image flat = rw c.in-SunSet.is (c.sun_set.ensures _ image flat)
