-- `fields::Records::agrees` meets its contract. Assumes nothing.
use mathlib.Core.Path.{ap, ◌∙◌}
use Prim.Native.Nat.{ℕ}
use lib.Dec.{eqb}
use Rattle.fields.proofs.Records.agrees.Goals as goal

pub returns : goal.returns
returns c = ap (λ (w : ℕ). eqb w c.cell-2.result) c.cell.ensures ∙ ap (eqb _) c.cell-2.ensures
