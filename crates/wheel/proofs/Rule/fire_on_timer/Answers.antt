-- `wheel::Rule::fire_on_timer` meets its contract. Assumes nothing.
use mathlib.Core.Path.{refl}
use mathlib.Core.List.{[], ◌∷◌}
use Rattle.model.specs.Lists.{keep}
use Rattle.model.specs.Wheel.{by_timer, activate_if_enabled, activate_each}
use Rattle.activate.specs.Carried.{carried_by}
use Rattle.eval.specs.Answers.{env_in}
use Rattle.wheel.specs.Tick.{on_timer}
use Rattle.wheel.proofs.Each.{fires-off, fires-on}
use Rattle.wheel.proofs.Fires.{same-part, skips}
use Rattle.wheel.proofs.Rule.fire_on_timer.Goals as goal

pub returns-else-fires_on : goal.returns-else-fires_on
returns-else-fires_on c =
    let e = env_in c.args.self.now.env.now.snapshot.now c.args.self.now.env.now.image.now in
    record {
      does = skips 1 (activate_each e by_timer (keep (on_timer c.args.self.now.env.now.image.now c.args.timer) (c.args.self.now.i ∷ []))) (carried_by c.args.lent.now) _ _ (fires-off e c.args.self.now.env.now.image.now c.args.timer c.args.self.now.i _ c.fires_on.ensures (rw c.if-fires_on.false refl));
      same = (refl, refl, refl);
    }

pub returns-then-fires_on : goal.returns-then-fires_on
returns-then-fires_on c =
    let e = env_in c.args.self.now.env.now.snapshot.now c.args.self.now.env.now.image.now in
    record {
      does = same-part 1 (activate_if_enabled e by_timer c.args.self.now.i) (activate_each e by_timer (keep (on_timer c.args.self.now.env.now.image.now c.args.timer) (c.args.self.now.i ∷ []))) (fires-on e c.args.self.now.env.now.image.now c.args.timer c.args.self.now.i _ c.fires_on.ensures (rw c.if-fires_on.true refl)) c.activate_if_enabled.ensures.does;
      same = c.activate_if_enabled.ensures.same;
    }
