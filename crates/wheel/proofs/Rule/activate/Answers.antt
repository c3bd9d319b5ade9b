-- `wheel::Rule::activate` meets its contract. Assumes nothing.
use Rattle.model.specs.Kinds.{trigger_number}
use Rattle.activate.specs.Carried.{carried_by}
use Rattle.store.proofs.SetRules.{image-accepted}
use Rattle.wheel.proofs.Fires.{activated}
use Rattle.wheel.proofs.RuleParts.{part_says}
use Rattle.wheel.proofs.Rule.activate.Goals as goal

pub activate-requires : goal.activate-requires
activate-requires c = record { accepted = image-accepted _ c.args.self.now.env.now.holds.accepted; room = c.requires }

pub returns : goal.returns
returns c =
    let says = part_says _ _ _ c.args.self.now.env.now.holds.kept _ c.args.self.now.inside _ _ c.rule_flat-steps.ensures in
    record {
      does = activated c.args.self.now.env.now.snapshot.now c.args.self.now.env.now.image.now _ _ c.args.self.now.i (carried_by c.args.lent.now) _ _ _ _ _ says (trigger_number c.args.kind) c.activate.ensures.does;
      same = c.activate.ensures.same;
    }
