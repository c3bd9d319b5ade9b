-- `engine::sets::without_set` meets its contract. Assumes nothing.
use mathlib.Core.Path.{sym}
use Rattle.engine.proofs.CallLaws.{itself}
use Rattle.engine.proofs.SetLaws.{set-left}
use Rattle.engine.proofs.sets.without_set.Goals as goal

pub returns : goal.returns
returns c = set-left c.args.store.now _ _ _ _ (rw (c.v.view_is) at c.v.invariant) (itself c.begin.ensures) (sym c.begin.ensures.says) c.drop_all.ensures.0 c.drop_every.ensures c.unset_rules.ensures
