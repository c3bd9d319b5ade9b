-- `engine::sets::put_rules` meets its contract. The invariant: the first i rules are set. Assumes nothing.
use native.Mathlib.Omega.{arith}
use Rattle.engine.proofs.SetLaws.{rules-begin, rules-go, rules-end}
use Rattle.engine.proofs.sets.put_rules.Goals as goal

pub loop-i-init : goal.loop-i-init
loop-i-init c = rules-begin _ c.args.store.now _ _ _ c.unset_rules.ensures

pub loop-i-preserved : goal.loop-i-preserved
loop-i-preserved c = rules-go _ c.args.store.now _ _ _ _ _ (omega arith) c.loop-i.invariant c.put_rule.ensures

pub returns : goal.returns
returns c = rules-end _ c.args.store.now _ _ _ _ _ (omega arith) c.loop-i-test.false c.size_of-n.ensures c.unset_rules.ensures c.loop-i.invariant
