-- `crontab::scan::behind_first` meets its contract. Assumes nothing.
use borrow.Author.Rules.{rules}
use Rattle.std.proofs.lemmas.Iterator.{YieldsList-from_slice}
use Rattle.std.proofs.lemmas.Iterator.Search.{position_from_yields_List}
use mathlib.Core.Bool.{not}
use Rattle.model.specs.Crontab.{is_blank}
use Rattle.crontab.proofs.Scans.{behind-is}
use Rattle.crontab.proofs.scan.behind_first.Goals as goal

pub returns : goal.returns
returns c =
    let found = position_from_yields_List (λ b. not (is_blank b)) _ _ c.position.result c.position.ensures.ran (YieldsList-from_slice _ c.iter.ensures.rest) (λ x b q k. search rules) in
    behind-is c.args.text.now c.first_length.ensures.place found c.unwrap_or-blanks.ensures
