-- `wheel::Rule::activate_if_enabled` meets its contract. Assumes nothing.
use mathlib.Core.Path.{refl}
use Rattle.model.specs.Activate as model
use Rattle.model.specs.declared.Mode.TheVariants.{Auto}
use Rattle.model.specs.Wheel.{activate_if_enabled}
use Rattle.model.specs.Kinds.{trigger_number}
use Rattle.activate.specs.Carried.{carried_by}
use Rattle.eval.specs.Answers.{env_in}
use Rattle.wheel.proofs.Each.{is-off, is-on}
use Rattle.wheel.proofs.Fires.{same-part, skips}
use Rattle.wheel.proofs.Rule.activate_if_enabled.Goals as goal

pub returns-else-is_enabled : goal.returns-else-is_enabled
returns-else-is_enabled c =
    let e = env_in c.args.self.now.env.now.snapshot.now c.args.self.now.env.now.image.now in
    record {
      does = skips 1 (activate_if_enabled e (trigger_number c.args.kind) c.args.self.now.i) (carried_by c.args.lent.now) _ _ (is-off e (trigger_number c.args.kind) c.args.self.now.i _ c.is_enabled.ensures (rw c.if-is_enabled.false refl));
      same = (refl, refl, refl);
    }

pub returns-then-is_enabled : goal.returns-then-is_enabled
returns-then-is_enabled c =
    let e = env_in c.args.self.now.env.now.snapshot.now c.args.self.now.env.now.image.now in
    record {
      does = same-part 1 (model.activate e c.args.self.now.i (trigger_number c.args.kind) Auto) (activate_if_enabled e (trigger_number c.args.kind) c.args.self.now.i) (is-on e (trigger_number c.args.kind) c.args.self.now.i _ c.is_enabled.ensures (rw c.if-is_enabled.true refl)) c.activate.ensures.does;
      same = c.activate.ensures.same;
    }
