-- `state::table::close_up` meets its contract. The invariant is `Closes`. Assumes nothing.
use Prim.Native.Nat.{◌≤◌}
use Rattle.state.specs.Cuts.{passes}
use Rattle.state.proofs.Tables.{Closes}
use Rattle.state.proofs.table.close_up.Given as goal

abbrev pub invariant-loop-i : goal.invariant-loop-i
invariant-loop-i g l = record {
  few : l.j ≤ l.i;
  closes : Closes l.width (passes g.R.Row.codec l.at g.test) l.initial.t l.t l.i l.j;
}
