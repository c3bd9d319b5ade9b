-- `store::hold::Shaped::loaded_holds` meets its contract. Assumes nothing.
use Rattle.std.proofs.Common.{arith}
use Rattle.std.proofs.lemmas.Grind.{common_steps}
use Rattle.store.proofs.SetRules.{image-sized, loaded-are}
use Rattle.store.proofs.hold.Shaped.loaded_holds.Goals as goal

pub new-image-requires : goal.new-image-requires
new-image-requires c = grind (arith, common_steps, image-sized)

pub returns-then-not-image_holds : goal.returns-then-not-image_holds
returns-then-not-image_holds c = grind (arith, common_steps, loaded-are c.args.self.now.words.now _ (c.image_in-words.ensures c.args.self.now.readable))

pub returns-then-slots_hold : goal.returns-then-slots_hold
returns-then-slots_hold c = grind (arith, common_steps, loaded-are c.args.self.now.words.now _ (c.image_in-words.ensures c.args.self.now.readable))

pub returns-else-slots_hold : goal.returns-else-slots_hold
returns-else-slots_hold c = grind (arith, common_steps, loaded-are c.args.self.now.words.now _ (c.image_in-words.ensures c.args.self.now.readable))
