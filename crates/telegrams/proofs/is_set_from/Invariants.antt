-- `telegrams::is_set_from` meets its contract: what is left of the stretch sets the lamp, or nothing does. Assumes nothing.
use mathlib.Core.Path.{◌≡◌}
use Prim.Native.Nat.{zero}
use Rattle.telegrams.specs.Recursion.{is_set, effects_of}
use Rattle.telegrams.proofs.CodeLaws.{effects_from}
use Rattle.telegrams.proofs.is_set_from.Given as goal

abbrev pub invariant-loop-record : goal.invariant-loop-record
invariant-loop-record l = is_set zero l.lamp (effects_from l.records l.record-index) ≡ is_set zero l.lamp (effects_of l.records)
