-- `flat::steps::copies` meets its contract: what the copies left give is what all give. Assumes nothing.
use Rattle.flat.proofs.Copies.{Copying}
use Rattle.flat.proofs.steps.copies.Given as goal

abbrev pub invariant-loop : goal.invariant-loop
invariant-loop l = Copying l.initial.list l.times l.size l.n l.list l.counter l.at
