-- `world::accepted::Accepted::of` meets its contract. Assumes nothing.
use mathlib.Core.Path.{sym}
use Rattle.world.proofs.accepted.Accepted.of.Goals as goal

pub invariant_of-result : goal.invariant_of-result
invariant_of-result c = sym c.in_ok-refusal.ensures
