-- `decimal::value_of` meets its contract: what is left of the digits, behind the number so far, stands for the whole. Assumes nothing.
use mathlib.Core.Path.{◌≡◌}
use Prim.Native.Nat.{◌<◌, ◌^◌}
use lib.ListN.{drop}
use Rattle.model.specs.Digits.{value_from}
use Rattle.decimal.proofs.value_of.Given as goal

abbrev pub invariant-loop-b : goal.invariant-loop-b
invariant-loop-b l = (l.n < 2 ^ 64) × (value_from l.n (drop l.b-index l.word) ≡ value_from 0 l.word)
