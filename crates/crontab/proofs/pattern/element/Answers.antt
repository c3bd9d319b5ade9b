-- `crontab::pattern::element` meets its contract. Assumes nothing.
use borrow.Author.Rules.{rules}
use borrow.Author.Tests.{tests}
use Rattle.std.proofs.lemmas.Iterator.{YieldsList-from_slice}
use Rattle.std.proofs.lemmas.Iterator.Search.{position_from_yields_List}
use Rattle.model.specs.Crontab.{is_hyphen}
use Rattle.crontab.proofs.Patterns.{element-two, element-one}
use Rattle.crontab.proofs.pattern.element.Goals as goal

pub returns-in-Some : goal.returns-in-Some
returns-in-Some c =
    let found = position_from_yields_List is_hyphen _ _ c.position.result c.position.ensures.ran (YieldsList-from_slice c.args.s.now c.iter.ensures.rest) (λ x b q k. search (rules, tests)) in
    element-two c.args.bounds.lowest c.args.bounds.highest c.args.s.now (search rules) found c.in-Some.i c.in-Some.is c.number.ensures c.number-in-Some.ensures c.range_of.ensures

pub returns-in-None : goal.returns-in-None
returns-in-None c =
    let found = position_from_yields_List is_hyphen _ _ c.position.result c.position.ensures.ran (YieldsList-from_slice c.args.s.now c.iter.ensures.rest) (λ x b q k. search (rules, tests)) in
    element-one c.args.bounds.lowest c.args.bounds.highest c.args.s.now (search rules) found c.in-None.is c.number-n.ensures c.range_of-in-None.ensures
