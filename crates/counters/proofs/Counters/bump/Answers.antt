-- The last arm of `counters::Counters::bump`, at which the search stops early: the place is known, so that the definition computes. Assumes nothing.
use Rattle.counters.specs.Counters.{counters_of}
use Rattle.counters.proofs.Counters.bump.Goals as goal

pub returns-in-TicksTimeUnsynced : goal.returns-in-TicksTimeUnsynced
unfolding counters_of
returns-in-TicksTimeUnsynced c = rw (c.in-TicksTimeUnsynced.is, c.raise-in-TicksTimeUnsynced.ensures)
