-- `play::calls::unload` meets its contract. Assumes nothing.
use Rattle.std.proofs.Common.{refl}
use Rattle.play.proofs.Calling.{made-silently}
use Rattle.play.proofs.calls.unload.Goals as goal

pub returns : goal.returns
returns c = λ o. made-silently _ _ _ _ c.min-n.ensures _ _ c.cerambiu_unload.ensures (λ y. refl) _ c.accepted.ensures o
