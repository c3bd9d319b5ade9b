-- `telegrams::is_set_from` meets its contract: what is left of the stretch sets the lamp, or nothing does. Assumes nothing.
use mathlib.Core.Path.{sym, ◌∙◌}
use Rattle.telegrams.proofs.CodeLaws.{set-cut, set_here, set_on, set-end}
use Rattle.telegrams.proofs.is_set_from.Goals as goal

pub returns-then-cuts : goal.returns-then-cuts
returns-then-cuts c =
    set-cut _ _ _ c.loop-record-test.true _ c.effect_of-x.ensures _ c.cuts.ensures c.if-cuts.true ∙ c.loop-record.invariant

pub returns-then-sets : goal.returns-then-sets
returns-then-sets c =
    set_here _ _ _ c.loop-record-test.true _ c.effect_of-x.ensures _ c.cuts.ensures c.if-cuts.false _ c.sets.ensures c.if-sets.true
    ∙ c.loop-record.invariant

pub loop-record-preserved : goal.loop-record-preserved
loop-record-preserved c =
    sym (set_on _ _ _ c.loop-record-test.true _ c.effect_of-x.ensures _ c.cuts.ensures c.if-cuts.false _ c.sets.ensures c.if-sets.false)
    ∙ c.loop-record.invariant

pub returns : goal.returns
returns c = set-end _ _ _ c.loop-record-test.false ∙ c.loop-record.invariant
