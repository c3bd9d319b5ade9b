-- `crontab::table::covered` meets its contract. Assumes nothing.
use borrow.Author.Rules.{rules}
use Rattle.crontab.proofs.Lines.{made}
use Rattle.crontab.proofs.table.covered.Goals as goal

pub returns : goal.returns
returns g c = made _ _ c.from_fn.result (λ x b q k. search rules) g.row.N c.from_fn.ensures.items
