-- `every::Rebuild::join_all` meets its contract: the slots so far, and those of the rules that are left. Assumes nothing.
use mathlib.Core.Path.{◌∙◌}
use Rattle.model.specs.Slots.{rebuild_every}
use Rattle.image.proofs.Accepted.{rules-few}
use Rattle.image.proofs.Slots.{every-slots-few}
use Rattle.every.proofs.Slots.{starts, room, joins-on, rule-left}
use Rattle.every.proofs.Rebuild.join_all.Goals as goal

pub name_order-order-requires : goal.name_order-order-requires
name_order-order-requires c = rules-few _ c.args.self.now.few

pub loop-i-init : goal.loop-i-init
unfolding rebuild_every
loop-i-init c = starts _ _ c.requires

pub join_rule-requires : goal.join_rule-requires
join_rule-requires c =
    let l = c.loop-i in
    room _ _ _ _ _ l.invariant (rule-left _ _ l.i-index _ (c.as_slice-i-items.ensures.value ∙ c.name_order-order.ensures) c.loop-i-test.true) (every-slots-few _ _ _ c.args.self.now.few)

pub loop-i-preserved : goal.loop-i-preserved
loop-i-preserved c =
    let l = c.loop-i in
    joins-on _ _ _ _ _ l.invariant (rule-left _ _ l.i-index _ (c.as_slice-i-items.ensures.value ∙ c.name_order-order.ensures) c.loop-i-test.true) _ c.join_rule.ensures
