-- `store::put_set::put_image` meets its contract. Assumes nothing.
use native.Mathlib.Omega.{arith}
use Rattle.rows.proofs.Writing.{one_set}
use Rattle.store.proofs.LoadWords.{image-put}
use Rattle.store.proofs.put_set.put_image.Goals as goal

pub returns : goal.returns
returns c = image-put _ _ _ _ c.args.image.now c.told-s c.requires (one_set _ _ _ (omega (arith, c.told-s))) c.put_words.ensures c.clear.ensures
