-- `model::Mode::is_dry` meets its contract. Assumes nothing.
use Rattle.model.proofs.Modes.{not-dry}
use Rattle.model.proofs.Mode.is_dry.Goals as goal

pub returns-in_default : goal.returns-in_default
returns-in_default c = not-dry c.args.self c.in_default.not-Dry
