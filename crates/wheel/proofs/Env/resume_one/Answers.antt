-- `wheel::Env::resume_one` meets its contract. Assumes nothing.
use mathlib.Core.Path.{sym, ◌∙◌}
use Rattle.image.proofs.Rules.{named_rule}
use Rattle.activate.specs.Carried.{carried_by}
use Rattle.wheel.proofs.Due.{small-budget, has-rule}
use Rattle.wheel.proofs.Fires.{resumed}
use Rattle.wheel.proofs.RuleParts.{part_says, keeps}
use Rattle.wheel.proofs.Env.resume_one.Goals as goal

pub rule_flat-steps-requires : goal.rule_flat-steps-requires
rule_flat-steps-requires c =
    let h = c.args.self.now.holds in
    keeps _ _ _ h.kept h.accepted _ (named_rule _ _ _ (sym c.rule_named.ensures ∙ c.in-Some.is)).0

pub resume-requires : goal.resume-requires
resume-requires c =
    let h = c.args.self.now.holds in
    let n = sym c.rule_named.ensures ∙ c.in-Some.is in
    record {
      named = n;
      budget_bound = (small-budget _ _ c.requires.fits h.accepted, c.requires.room);
    }

pub returns-in-Some : goal.returns-in-Some
returns-in-Some c =
    let n = sym c.rule_named.ensures ∙ c.in-Some.is in
    let says = part_says _ _ _ c.args.self.now.holds.kept _ (named_rule _ _ _ n).0 _ _ c.rule_flat-steps.ensures in
    record {
      does = resumed c.args.self.now.snapshot.now c.args.self.now.image.now _ _ _ (carried_by c.args.lent.now) _ _ _ _ _ says c.args.c c.resume.ensures.does;
      same = c.resume.ensures.same;
    }

pub returns-in_default : goal.returns-in_default
returns-in_default c =
    absurd (has-rule _ _ c.requires.fits (sym c.rule_named.ensures ∙ c.in_default.is))
