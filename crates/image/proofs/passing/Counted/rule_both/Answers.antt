-- `image::passing::Counted::rule_both` meets its contract. Assumes nothing.
use native.Mathlib.Omega.{arith}
use Rattle.image.proofs.OnePass.{rule-both}
use Rattle.image.proofs.passing.Counted.rule_both.Goals as goal

pub returns : goal.returns
returns c =
    let a = c.args in
    rule-both a.self.now.image.now a.i a.w.now (omega arith) c.requires _ _ _ (rw (← c.size.ensures) c.within-triggers.ensures) (rw (← c.size-2.ensures) c.within-conditions.ensures) (rw (← c.size-3.ensures) c.within-actions.ensures)
