-- `crontab::of_the_form` meets its contract. Assumes nothing.
use Rattle.crontab.proofs.Lines.{form-fits}
use Rattle.crontab.proofs.of_the_form.Goals as goal

pub returns-then-sunday-le6 : goal.returns-then-sunday-le6
returns-then-sunday-le6 c = form-fits _ _ c.if-sunday-le6.true c.fields_fit.ensures
