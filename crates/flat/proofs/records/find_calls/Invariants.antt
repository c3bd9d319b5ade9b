-- `flat::records::find_calls` meets its contract: after i turns the calls of the first i records are looked up. Assumes nothing.
use mathlib.Core.Path.{◌≡◌}
use lib.ListN.{length}
use Rattle.flat.specs.Outcome.{Resolved}
use Rattle.flat.proofs.records.find_calls.Given as goal

abbrev pub invariant-loop-i : goal.invariant-loop-i
invariant-loop-i l = (length l.calls ≡ length l.initial.calls) × Resolved l.acts l.blocks l.calls l.i
