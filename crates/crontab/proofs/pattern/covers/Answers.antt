-- `crontab::pattern::covers` meets its contract. Assumes nothing.
use mathlib.Core.Path.{sym, ◌∙◌}
use borrow.Author.Rules.{rules}
use Rattle.std.proofs.lemmas.Iterator.Splits.{YieldsList-from_slice_split}
use Rattle.fields.proofs.Chains.{computes-any}
use Rattle.model.specs.Crontab.{is_comma}
use Rattle.crontab.proofs.Patterns.{starred-covers, covers-by-elements, covered}
use Rattle.crontab.proofs.pattern.covers.Goals as goal

pub returns-then-is_asterisk : goal.returns-then-is_asterisk
returns-then-is_asterisk c = starred-covers _ _ c.args.s.now c.is_asterisk.ensures c.if-is_asterisk.true c.args.v

pub returns-else-is_asterisk : goal.returns-else-is_asterisk
returns-else-is_asterisk c =
    covers-by-elements c.args.bounds.lowest c.args.bounds.highest c.args.s.now (sym c.is_asterisk.ensures ∙ c.if-is_asterisk.false) c.args.v
    (computes-any _ _ (covered c.args.bounds.lowest c.args.bounds.highest c.args.v) _ c.any.ensures.ran
    (YieldsList-from_slice_split _ is_comma c.args.s.now c.split.ensures.rest c.split.ensures.done c.split.ensures.closure (λ x b q k. search rules))
    (λ x b q k. search rules))
