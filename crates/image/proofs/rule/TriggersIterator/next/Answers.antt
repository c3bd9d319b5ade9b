-- `image::rule::TriggersIterator::next` meets its contract: the first trigger leaves. Assumes nothing.
use Prim.Native.Nat.{ℕ}
use native.Mathlib.Omega.{arith}
use Rattle.model.specs.declared.Trigger.{Trigger}
use Rattle.model.specs.Rows.{triggers}
use Rattle.model.specs.Rules.{record_of, trigger_of}
use Rattle.image.proofs.Numbers.{map-up_from-first}
use Rattle.image.proofs.rule.TriggersIterator.next.Goals as goal

pub returns-clause-steps : goal.returns-clause-steps
returns-clause-steps c =
    let s = c.self.inside in
    let f : ℕ → Trigger = λ k. trigger_of (record_of s.image.now triggers k) in
    rw (← c.self.view_is, c.trigger_of-x.ensures, c.record_from.ensures) (map-up_from-first f s.first s.k s.n (omega arith))
