-- `store::set::put_new` meets its contract. Assumes nothing.
use native.Mathlib.Omega.{arith}
use Rattle.rows.proofs.Writing.{one_set}
use Rattle.store.proofs.New.{new-put}
use Rattle.store.proofs.set.put_new.Goals as goal

pub returns : goal.returns
returns c = new-put _ _ _ _ _ c.told-store (c.fill.ensures.after (λ y e. e)) c.put.ensures (one_set _ _ _ (omega (arith, c.put.auto.s, c.fill.ensures.len, c.told-store)))
