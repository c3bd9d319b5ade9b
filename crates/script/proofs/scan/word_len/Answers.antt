-- `script::scan::word_len` meets its contract. Assumes nothing.
use Rattle.std.proofs.Common.{rules, tests, ◌∙◌}
use Rattle.std.specs.Char.{is_ascii_whitespace}
use Rattle.std.proofs.lemmas.Iterator.{YieldsList-from_slice}
use Rattle.std.proofs.lemmas.Iterator.Search.{position_from_yields_List}
use Rattle.script.proofs.Splits.{position_or_end}
use Rattle.script.proofs.scan.word_len.Goals as goal

pub returns : goal.returns
returns c =
    let l = c.args.text.now in
    let e = position_from_yields_List is_ascii_whitespace _ _ c.position.result c.position.ensures.ran (YieldsList-from_slice l cc) (λ x b q k. search (rules, tests)) in
    rw e at c.unwrap_or.ensures ∙ position_or_end is_ascii_whitespace l
