-- `crontab::table::Marks::write` meets its contract. Assumes nothing.
use lib.ListN.{length}
use Rattle.crontab.specs.Scanned.{marked_minutes}
use Rattle.crontab.proofs.Lines.{Wrote}
use Rattle.crontab.proofs.table.Marks.write.Given as goal

abbrev pub invariant-loop-n : goal.invariant-loop-n
invariant-loop-n l = Wrote l.ds (marked_minutes l.self.hours l.self.minutes) l.initial.store (length l.yielded) l.store
