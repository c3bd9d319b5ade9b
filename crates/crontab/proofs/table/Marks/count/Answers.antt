-- `crontab::table::Marks::count` meets its contract. Assumes nothing.
use mathlib.Core.Path.{◌≡◌, ap, ◌∙◌}
use native.Mathlib.Omega.{arith}
use borrow.Author.Rules.{rules}
use lib.ListN.{length}
use Rattle.std.proofs.lemmas.Iterator.{YieldsList-from_range}
use Rattle.std.proofs.lemmas.Iterator.Consumers.{YieldsList-from_filter, count_from_yields_List}
use Rattle.crontab.specs.Scanned.{marked, marked_minutes}
use Rattle.crontab.proofs.Lines.{marked-of-day, marked-most}
use Rattle.crontab.proofs.table.Marks.count.Goals as goal

pub returns : goal.returns
returns c =
    let hours = c.args.self.now.hours in
    let minutes = c.args.self.now.minutes in
    let counted = count_from_yields_List c.filter-marked.result c.count.result c.count.ensures.ran (YieldsList-from_filter _ (marked hours minutes) (YieldsList-from_range 0 1440 1440 c.filter-marked.ensures.source (omega arith)) c.filter-marked.ensures.closure (λ x b q k. search rules)) in
    let same : c.count.result ≡ length (marked_minutes hours minutes) = counted ∙ ap length (marked-of-day hours minutes) in
    (same, omega (arith, same, marked-most hours minutes))
