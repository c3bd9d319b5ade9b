-- `state::slots::move_all` meets its contract: the first i slots have moved on. Assumes nothing.
use Prim.Native.Nat.{◌≤◌}
use mathlib.Core.Path.{◌≡◌}
use lib.ListN.{get_or}
use Rattle.model.specs.Parts.{slot_row}
use Rattle.state.specs.Meaning.{Counted}
use Rattle.state.proofs.EverySlots.{Moves}
use Rattle.state.proofs.slots.move_all.Given as goal

abbrev pub invariant-loop-i : goal.invariant-loop-i
invariant-loop-i l = record {
  few : l.n ≤ 64;
  start : Counted 64 slot_row l.initial.t;
  count : l.n ≡ get_or l.initial.t 0 0;
  moved : Moves l.time l.initial.t l.t l.i;
}
