-- `crontab::scan::first_length` meets its contract. Assumes nothing.
use mathlib.Core.Path.{◌∙◌}
use borrow.Author.Rules.{rules}
use Rattle.std.proofs.lemmas.Iterator.{YieldsList-from_slice}
use Rattle.std.proofs.lemmas.Iterator.Search.{position_from_yields_List}
use Rattle.model.specs.Crontab.{is_blank}
use Rattle.crontab.proofs.Scans.{place-or-end}
use Rattle.crontab.proofs.scan.first_length.Goals as goal

pub returns-clause-place : goal.returns-clause-place
returns-clause-place c =
    let found = position_from_yields_List is_blank _ _ c.position.result c.position.ensures.ran (YieldsList-from_slice c.args.text.now c.iter.ensures.rest) (λ x b q k. search rules) in
    c.unwrap_or.ensures ∙ place-or-end is_blank c.args.text.now found
