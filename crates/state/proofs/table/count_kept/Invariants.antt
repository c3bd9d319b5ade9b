-- `state::table::count_kept` meets its contract: the count so far. Assumes nothing.
use Prim.Native.Nat.{◌≤◌}
use mathlib.Core.Path.{◌≡◌}
use lib.ListN.{length, take}
use Rattle.model.specs.Lists.{keep}
use Rattle.state.specs.Cuts.{rows_in, passes}
use Rattle.state.proofs.table.count_kept.Given as goal

abbrev pub invariant-loop-i : goal.invariant-loop-i
invariant-loop-i g l = record {
  few : l.k ≤ l.i;
  counted : l.k ≡ length (keep (passes g.R.Row.codec l.at g.test) (take l.i (rows_in l.width l.t)));
}
