-- `engine::asked::opened` meets its contract; written out so that refuses_every_store meets a fact. Assumes nothing.
use Rattle.engine.proofs.asked.opened.Goals as goal

pub returns-clause-number : goal.returns-clause-number
returns-clause-number c = c.of.ensures.number
