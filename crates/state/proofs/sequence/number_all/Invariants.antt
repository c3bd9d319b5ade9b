-- `state::sequence::number_all` meets its contract: the first i records have their numbers. Assumes nothing.
use Prim.Native.Nat.{◌≤◌}
use mathlib.Core.Path.{◌≡◌}
use lib.ListN.{get_or}
use Rattle.state.proofs.Assigning.{Numbers}
use Rattle.state.proofs.sequence.number_all.Given as goal

abbrev pub invariant-loop-i : goal.invariant-loop-i
invariant-loop-i l = record {
  few : l.n ≤ 32;
  start : l.stored ≤ l.i;
  count : l.n ≡ get_or l.initial.t 0 0;
  numbers : Numbers l.next l.stored l.initial.t l.t l.i;
}
