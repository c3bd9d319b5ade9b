-- `state::table::first_with` meets its contract: none of the rows passed has the word. Assumes nothing.
use mathlib.Core.Path.{◌≡◌}
use Rattle.std.specs.Prelude.{None}
use lib.ListN.{take}
use Rattle.model.specs.Lists.{find}
use Rattle.state.specs.Cuts.{has_word, rows_in}
use Rattle.state.proofs.table.first_with.Given as goal

abbrev pub invariant-loop-i : goal.invariant-loop-i
invariant-loop-i l = find (has_word l.at l.x) (take l.i (rows_in l.width l.t)) ≡ None
