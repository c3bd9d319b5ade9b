-- `every::Rebuild::join_all` meets its contract: the slots so far, and those of the rules that are left. Assumes nothing.
use Rattle.std.proofs.Common.{drop, map}
use Rattle.model.specs.Lists.{flatten}
use Rattle.model.specs.Rules.{name_order}
use Rattle.model.specs.Slots.{rebuild_every}
use Rattle.every.proofs.Slots.{rule_slots, Partial}
use Rattle.every.proofs.Rebuild.join_all.Given as goal

abbrev pub invariant-loop-i : goal.invariant-loop-i
invariant-loop-i l = Partial l.t (flatten (map (rule_slots l.self.image.now l.self.old.now l.self.time) (drop l.i-index (name_order l.self.image.now)))) (rebuild_every l.self.image.now l.self.old.now l.self.time)
