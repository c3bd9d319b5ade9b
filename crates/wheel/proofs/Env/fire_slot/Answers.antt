-- `wheel::Env::fire_slot` meets its contract. Assumes nothing.
use mathlib.Core.Path.{refl, sym, ◌∙◌}
use Rattle.model.specs.Wheel.{by_every, activate_if_enabled, activate_each}
use Rattle.image.proofs.Rules.{named_rule}
use Rattle.activate.specs.Carried.{carried_by}
use Rattle.eval.specs.Answers.{env_in}
use Rattle.wheel.specs.Tick.{rules_of_slot}
use Rattle.wheel.proofs.Each.{slot_of, slot-none}
use Rattle.wheel.proofs.Fires.{same-part, skips}
use Rattle.wheel.proofs.Env.fire_slot.Goals as goal

pub invariant_of-rule : goal.invariant_of-rule
invariant_of-rule c = record { inside = (named_rule _ _ _ (sym c.rule_named.ensures ∙ c.in-Some.is)).0 }

pub returns-in-Some : goal.returns-in-Some
returns-in-Some c =
    let e = env_in c.args.self.now.snapshot.now c.args.self.now.image.now in
    record {
      does = same-part 1 (activate_if_enabled e by_every _) (activate_each e by_every (rules_of_slot c.args.self.now.image.now c.args.slot)) (slot_of e c.args.self.now.image.now c.args.slot _ _ (sym c.rule_named.ensures ∙ c.in-Some.is)) c.activate_if_enabled.ensures.does;
      same = c.activate_if_enabled.ensures.same;
    }

pub returns-in_default : goal.returns-in_default
returns-in_default c =
    let e = env_in c.args.self.now.snapshot.now c.args.self.now.image.now in
    record {
      does = skips 1 (activate_each e by_every (rules_of_slot c.args.self.now.image.now c.args.slot)) (carried_by c.args.lent.now) _ _ (slot-none e c.args.self.now.image.now c.args.slot _ (sym c.rule_named.ensures ∙ c.in_default.is));
      same = (refl, refl, refl);
    }
