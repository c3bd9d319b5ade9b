-- `wheel::Rule::due_wall_kind` meets its contract. Assumes nothing.
use Rattle.model.specs.Flat.{flatten_rules, set_of}
use Rattle.eval.specs.Answers.{env_in}
use Rattle.wheel.proofs.Rule.due_wall_kind.Goals as goal

pub returns : goal.returns
unfolding env_in set_of
returns c = let image = c.args.self.now.env.now.image.now in c.due_wall_kind.ensures image (set_of image (flatten_rules image)).flat
