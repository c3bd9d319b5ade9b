-- `next::Asked::rule_minutes` meets its contract. Assumes nothing.
use mathlib.Core.Path.{sym, ap, ◌∙◌}
use Rattle.std.proofs.Common.{rules}
use Rattle.std.proofs.lemmas.Iterator.Consumers.{YieldsList-from_first, fold_from_yields_List}
use Rattle.next.specs.NextStart.{due_in}
use Rattle.next.specs.Distance.{within}
use Rattle.next.proofs.Least.{sooner}
use Rattle.next.proofs.Triggers.{off, on}
use Rattle.next.proofs.Asked.rule_minutes.Goals as goal

pub returns-then-word-ne1 : goal.returns-then-word-ne1
returns-then-word-ne1 c =
    let s = c.args.self.now in
    off s.sun s.t s.image.now s.bits.now c.args.i (λ e. c.if-word-ne1.true (c.word.ensures ∙ e))

pub returns : goal.returns
returns c =
    let s = c.args.self.now in
    c.within.ensures
    ∙ ap within (fold_from_yields_List _ (sooner (due_in s.sun s.t)) _ _ c.fold.ensures.ran (YieldsList-from_first (λ x. x) (λ rest. rest) _ c.triggers-triggers.ensures.0) (λ b x r q k. search rules))
    ∙ on s.sun s.t s.image.now s.bits.now c.args.i (sym c.word.ensures ∙ c.if-word-ne1.false)
