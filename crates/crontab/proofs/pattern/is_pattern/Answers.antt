-- `crontab::pattern::is_pattern` meets its contract. Assumes nothing.
use mathlib.Core.Path.{sym, ◌∙◌}
use borrow.Author.Rules.{rules}
use Rattle.std.proofs.lemmas.Iterator.Splits.{YieldsList-from_slice_split}
use Rattle.fields.proofs.Chains.{computes-all}
use Rattle.model.specs.Crontab.{is_comma}
use Rattle.crontab.proofs.Patterns.{starred, fits-by-elements, fits}
use Rattle.crontab.proofs.pattern.is_pattern.Goals as goal

pub returns-then-is_asterisk : goal.returns-then-is_asterisk
returns-then-is_asterisk c = starred _ _ c.args.s.now c.is_asterisk.ensures c.if-is_asterisk.true

pub returns-else-is_asterisk : goal.returns-else-is_asterisk
returns-else-is_asterisk c =
    fits-by-elements c.args.bounds.lowest c.args.bounds.highest c.args.s.now (sym c.is_asterisk.ensures ∙ c.if-is_asterisk.false)
    (computes-all _ _ (fits c.args.bounds.lowest c.args.bounds.highest) _ c.all.ensures.ran
    (YieldsList-from_slice_split _ is_comma c.args.s.now c.split.ensures.rest c.split.ensures.done c.split.ensures.closure (λ x b q k. search rules))
    (λ x b q k. search rules))
