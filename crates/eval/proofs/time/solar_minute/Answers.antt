-- `eval::time::solar_minute` meets its contract. Assumes nothing.
use mathlib.Core.Path.{ap}
use Rattle.words.specs.declared.SolarTime.{SolarTime}
use Rattle.model.specs.Eval.{solar_of}
use Rattle.eval.proofs.time.solar_minute.Goals as goal

pub returns : goal.returns
unfolding solar_of
returns c = ap (λ (t : SolarTime). t.minute) (rw c.event_of.ensures at c.solar_time.ensures)
