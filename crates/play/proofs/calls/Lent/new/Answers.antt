-- `play::calls::Lent::new` meets its contract. Assumes nothing.
use Rattle.std.proofs.Common.{[], None}
use Rattle.play.proofs.calls.Lent.new.Goals as goal

pub returns-clause-store : goal.returns-clause-store
returns-clause-store c = (c.new-accepted.ensures (record { bytes = record { items = [] }; to = None })).store
