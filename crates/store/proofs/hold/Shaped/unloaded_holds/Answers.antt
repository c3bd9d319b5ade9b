-- `store::hold::Shaped::unloaded_holds` meets its contract. Assumes nothing.
use Rattle.std.proofs.Common.{arith}
use Rattle.std.proofs.lemmas.Grind.{common_steps}
use Rattle.store.proofs.TableRules.{unloaded-are}
use Rattle.store.proofs.hold.Shaped.unloaded_holds.Goals as goal

pub returns-then-at-eq0-4 : goal.returns-then-at-eq0-4
returns-then-at-eq0-4 c = grind (arith, common_steps, unloaded-are c.args.self.now.words.now c.args.self.now.readable.long)

pub returns-else-at-eq0-4 : goal.returns-else-at-eq0-4
returns-else-at-eq0-4 c = grind (arith, common_steps, unloaded-are c.args.self.now.words.now c.args.self.now.readable.long)
