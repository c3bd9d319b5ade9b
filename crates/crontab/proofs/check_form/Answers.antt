-- `crontab::check_form` meets its contract. Assumes nothing.
use borrow.Author.Rules.{rules}
use borrow.Author.Tests.{not-true}
use Rattle.crontab.proofs.Lines.{dated}
use Rattle.crontab.proofs.check_form.Goals as goal

pub returns-then-not-every_date : goal.returns-then-not-every_date
returns-then-not-every_date c = dated _ _ c.every_date.ensures (not-true _ c.if-not-every_date.true-raw) (search rules)
