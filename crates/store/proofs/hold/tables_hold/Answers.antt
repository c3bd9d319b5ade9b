-- `store::hold::tables_hold` meets its contract. Assumes nothing.
use Rattle.std.proofs.Common.{arith}
use Rattle.std.proofs.lemmas.Grind.{common_steps}
use Rattle.store.proofs.TableRules.{tables-are}
use Rattle.store.proofs.hold.tables_hold.Goals as goal

pub returns-then-seqs_below : goal.returns-then-seqs_below
returns-then-seqs_below c = grind (arith, common_steps, tables-are c.args.store.now _ _ _ _ _ c.counted-variables.ensures.size c.counted-timers.ensures.size c.counted-pending.ensures.size c.at-next.ensures c.at-last.ensures)

pub returns-else-seqs_below : goal.returns-else-seqs_below
returns-else-seqs_below c = grind (arith, common_steps, tables-are c.args.store.now _ _ _ _ _ c.counted-variables.ensures.size c.counted-timers.ensures.size c.counted-pending.ensures.size c.at-next.ensures c.at-last.ensures)
