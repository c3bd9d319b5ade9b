-- `crontab::scan::field` meets its contract. Assumes nothing.
use Rattle.crontab.proofs.Scans.{field-on, field-end}
use Rattle.crontab.proofs.scan.field.Goals as goal

pub loop-preserved : goal.loop-preserved
loop-preserved c = field-on c.args.line.now _ _ c.args.k c.loop.counter c.loop-test.true c.loop.invariant c.behind_first-rest.ensures

pub returns : goal.returns
returns c = field-end c.args.line.now _ c.args.k c.loop.counter _ c.loop-test.false c.loop.invariant c.first_length.ensures.place
