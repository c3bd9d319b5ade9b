-- `store::flat_part::rule_own` meets its contract. Assumes nothing.
use Rattle.store.proofs.flat_part.rule_own.Goals as goal

pub returns : goal.returns
returns c = c.own.ensures
