-- `every::Rebuild::join_rule` meets its contract: the slots so far, and those of the triggers that are left. Assumes nothing.
use Rattle.std.proofs.Common.{◌≤◌, ◌<◌, ◌+◌, ◌^◌, ◌++◌, length}
use Rattle.std.specs.Iterator.Adapters.{zip_first, zip_second}
use Rattle.model.specs.Rules.{triggers_of}
use Rattle.model.specs.Slots.{slots_from}
use Rattle.every.proofs.Slots.{get, Partial}
use Rattle.every.proofs.Rebuild.join_rule.Given as goal

abbrev pub invariant-loop-place : goal.invariant-loop-place
invariant-loop-place l =
    let place = (zip_first l.place-iterator).start in
    let left = zip_second l.place-iterator in
    let whole = get l.initial.t ++ slots_from l.self.old.now l.self.time l.rule 0 (triggers_of l.self.image.now l.i) in
    (length whole ≤ 64) × (place + length left < 2 ^ 32) × Partial l.t (slots_from l.self.old.now l.self.time l.rule place left) whole
