-- `solar::put_all` meets its contract. Assumes nothing.
use lib.ListN.{length}
use Rattle.model.specs.Rules.{triggers_of}
use Rattle.model.specs.Readback.{solar_starts}
use Rattle.solar.proofs.Starts.{Wrote}
use Rattle.solar.proofs.put_all.Given as goal

abbrev pub invariant-loop-n : goal.invariant-loop-n
invariant-loop-n l = Wrote (solar_starts l.fn.sun (triggers_of l.image l.i)) l.initial.starts (length l.yielded) l.starts
