-- `crontab::table::days_of` meets its contract. Assumes nothing.
use mathlib.Core.Path.{◌∙◌}
use native.Mathlib.Omega.{arith}
use borrow.Author.Rules.{rules}
use Rattle.std.proofs.lemmas.Iterator.{YieldsList-from_range, YieldsList-from_map}
use Rattle.std.proofs.lemmas.Iterator.Adapters.{fits_from_length, at_most_from_yields_List}
use Rattle.std.proofs.lemmas.Iterator.Consumers.{sum_from_yields_List}
use Rattle.model.specs.Crontab.{day_bit}
use Rattle.crontab.proofs.Lines.{days-sum}
use Rattle.crontab.proofs.table.days_of.Goals as goal

pub sum-requires-clause-fits : goal.sum-requires-clause-fits
sum-requires-clause-fits c =
    fits_from_length _ _ 7 _ (at_most_from_yields_List (YieldsList-from_range 0 7 7 c.map.ensures.source (omega arith)) (omega arith)) c.map.ensures.closure (omega arith) (λ x r q k. search rules)

pub returns : goal.returns
returns c =
    sum_from_yields_List c.map.result c.sum.result c.sum.ensures.ran
    (YieldsList-from_map _ (day_bit c.args.line.now c.args.sunday) (YieldsList-from_range 0 7 7 c.map.ensures.source (omega arith)) c.map.ensures.closure (λ x r q k. search rules)) ∙ days-sum c.args.line.now c.args.sunday
