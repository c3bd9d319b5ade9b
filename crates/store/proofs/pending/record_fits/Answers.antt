-- `store::pending::record_fits` meets its contract. Assumes nothing.
use mathlib.Core.List.{[]}
use lib.ListN.{get_or}
use Rattle.model.specs.Flat.{flatten_rules}
use Rattle.store.proofs.RecordRules.{too-costly, no-rule, one-of-flat, rule_fits}
use Rattle.store.proofs.LoadedSet.{kept_rule, said-by}
use Rattle.store.proofs.pending.record_fits.Goals as goal

pub returns-then-budget-x : goal.returns-then-budget-x
returns-then-budget-x c = λ set k. too-costly _ _ set k c.args.x _ c.budget.ensures c.if-budget-x.true

pub returns-in_default : goal.returns-in_default
returns-in_default c = λ set k. no-rule _ _ set k c.args.x _ c.rule_named.ensures c.in_default.is

pub returns : goal.returns
returns c =
    λ set k.
    let x = c.args.x in
    let h = one-of-flat _ _ set k x _ _ c.rule_named.ensures c.in-Some.is in
    let fs = flatten_rules c.args.image.now in
    let l = kept_rule _ _ set k _ h in
    let s = said-by _ _ set k _ h _ _ (c.rule_steps.ensures fs k.flat l) (c.rule_own.ensures fs k.flat l) in
    rule_fits _ _ set k x _ _ _ _ c.rule_named.ensures c.in-Some.is c.budget.ensures c.if-budget-x.false (c.list_fits.ensures (get_or set.flat _ []) s)
