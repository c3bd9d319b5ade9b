-- `store::volatile::slots_in` meets its contract. Assumes nothing.
use mathlib.Core.Path.{◌∙◌}
use Rattle.store.proofs.SetRules.{read-slots}
use Rattle.store.proofs.volatile.slots_in.Goals as goal

pub returns : goal.returns
returns c = c.counted.ensures ∙ read-slots _
