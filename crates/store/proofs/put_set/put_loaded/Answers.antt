-- `store::put_set::put_loaded` meets its contract. Assumes nothing.
use native.Mathlib.Omega.{arith}
use Rattle.rows.proofs.Writing.{one_set}
use Rattle.store.proofs.LoadWords.{loads, set-put}
use Rattle.store.proofs.put_set.put_loaded.Goals as goal

pub put_image-requires : goal.put_image-requires
put_image-requires c = (loads c.words.result.now c.words.ensures.accepted).short

pub returns : goal.returns
returns c = rw (← c.words.ensures.same) (set-put _ _ _ _ c.words.result.now c.told-store (loads c.words.result.now c.words.ensures.accepted) (one_set _ _ _ (omega (arith, c.told-store))) c.put_image.ensures (rw (← c.words.ensures.same) at c.put_flat.ensures))
