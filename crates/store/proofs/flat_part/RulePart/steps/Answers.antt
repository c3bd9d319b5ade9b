-- `store::flat_part::RulePart::steps` meets its contract. Assumes nothing.
use mathlib.Core.Path.{refl, ap, ◌∙◌}
use Rattle.store.proofs.Ranges.{found}
use Rattle.store.proofs.RuleSteps.{in-order, part-is, within}
use Rattle.store.proofs.flat_part.RulePart.steps.Goals as goal

pub returns : goal.returns
returns c = λ fs p h.
    let w = c.args.self.now.store.now in
    let b = c.part_begin.ensures.0 in
    let e = c.end.ensures.0 in
    ap (λ x. x.now) c.unwrap_or.ensures
    ∙ found w _ _ c.get.result _ c.get.ensures.lookup (in-order w fs p c.args.self.now.i h _ _ _ _ b e refl refl) (within w fs p c.args.self.now.i h _ _ _ _ b e refl refl)
    ∙ part-is w fs p c.args.self.now.i h _ _ _ _ b e refl refl
