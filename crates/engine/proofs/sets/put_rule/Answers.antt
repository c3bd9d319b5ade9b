-- `engine::sets::put_rule` meets its contract. Assumes nothing.
use mathlib.Core.Path.{ap, ◌∙◌}
use Rattle.model.specs.Calls.{kept}
use Rattle.engine.proofs.SetLaws.{rule-put}
use Rattle.engine.proofs.sets.put_rule.Goals as goal

pub returns : goal.returns
returns c =
    let a = c.args in
    let s = a.store.now in
    let n = c.name_of.ensures in
    rule-put a.image.now s a.i a.v.now _ _ _ _ _ _ c.enabled_of-on.ensures
    (c.kept_of-activation.ensures.activation ∙ ap (kept s.loaded s.vol.rest.last_activation) n)
    (c.kept_of-activation.ensures.position ∙ ap (kept s.loaded s.vol.rest.cycle_pos) n)
    c.put_bit.ensures c.set_last_activation.ensures c.set_cycle_pos.ensures
