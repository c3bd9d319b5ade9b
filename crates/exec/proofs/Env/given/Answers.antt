-- `exec::Env::given` meets its contract. Assumes nothing.
use mathlib.Core.Path.{refl}
use Rattle.exec.proofs.Env.given.Goals as goal

pub returns : goal.returns
returns c = refl
