-- `wheel::Rule::start_wall` meets its contract. Assumes nothing.
use mathlib.Core.Path.{refl}
use Rattle.model.specs.Wheel.{start_wall}
use Rattle.activate.specs.Carried.{carried_by}
use Rattle.wheel.specs.Wall.{number_if}
use Rattle.eval.specs.Answers.{env_in}
use Rattle.wheel.proofs.Fires.{skips}
use Rattle.wheel.proofs.Rule.start_wall.Goals as goal

pub returns-in_default : goal.returns-in_default
returns-in_default c =
    let e = env_in c.args.self.now.env.now.snapshot.now c.args.self.now.env.now.image.now in
    record {
      does = skips 1 (start_wall (number_if c.args.kind) e c.args.self.now.i) (carried_by c.args.lent.now) _ _ (rw c.in_default.is);
      same = (refl, refl, refl);
    }
