-- `store::check` meets its contract. Assumes nothing.
use Rattle.std.proofs.Common.{arith}
use Rattle.std.proofs.lemmas.Grind.{common_steps}
use Rattle.store.proofs.Holding.{reads-by}
use Rattle.store.proofs.SetRules.{readable}
use Rattle.store.proofs.check.Goals as goal

pub set_holds-requires : goal.set_holds-requires
set_holds-requires c = grind (arith, common_steps, readable)

pub returns-then-tables_hold : goal.returns-then-tables_hold
returns-then-tables_hold c = grind (arith, common_steps, reads-by c.args.store.now)

pub returns-else-tables_hold : goal.returns-else-tables_hold
returns-else-tables_hold c = grind (arith, common_steps, reads-by c.args.store.now)
