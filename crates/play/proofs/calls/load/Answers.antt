-- `play::calls::load` meets its contract. Assumes nothing.
use Rattle.std.proofs.Common.{refl}
use Rattle.play.proofs.Calling.{made-silently}
use Rattle.play.proofs.calls.load.Goals as goal

pub returns : goal.returns
returns c = λ o. made-silently _ _ _ _ c.min-n.ensures _ _ c.cerambiu_load.ensures (λ y. refl) _ c.accepted.ensures o
