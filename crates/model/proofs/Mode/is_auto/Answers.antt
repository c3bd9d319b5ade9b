-- `model::Mode::is_auto` meets its contract. Assumes nothing.
use Rattle.model.proofs.Modes.{not-auto}
use Rattle.model.proofs.Mode.is_auto.Goals as goal

pub returns-in_default : goal.returns-in_default
returns-in_default c = not-auto c.args.self c.in_default.not-Auto
