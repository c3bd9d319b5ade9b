-- `crontab::table::day_bit` meets its contract. Assumes nothing.
use borrow.Author.Rules.{rules}
use Rattle.crontab.proofs.Lines.{bit-on}
use Rattle.crontab.proofs.table.day_bit.Goals as goal

pub returns : goal.returns
returns c =
    let s = c.args in
    bit-on s.line.now s.sunday s.d _ c.covers.ensures (search rules)
