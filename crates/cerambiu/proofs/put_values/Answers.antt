-- `cerambiu::put_values` meets its contract. Assumes nothing.
use Rattle.cerambiu.proofs.Lent.{copied}
use Rattle.cerambiu.proofs.put_values.Goals as goal

pub returns : goal.returns
returns c = copied _ _ _ c.clear.ensures c.min-n.ensures c.copy_from_slice.ensures.after
