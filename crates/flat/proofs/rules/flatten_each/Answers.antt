-- `flat::rules::flatten_each` meets its contract: after k turns the parts of the first k rules stand in front. Assumes nothing.
use mathlib.Core.Path.{refl, ◌∙◌}
use Prim.Native.Nat.{◌/◌}
use lib.ListN.{length}
use Rattle.flat.specs.Load.{rule_at, rules_up_to}
use Rattle.flat.proofs.Outcomes.{handed-on}
use Rattle.flat.proofs.RuleLists.{at-start, next, rules-none, rules-more, rule-refused, all-over, all-wrote}
use Rattle.flat.proofs.rules.flatten_each.Goals as goal

pub loop-k-init : goal.loop-k-init
loop-k-init c =
    let a = c.args in
    (refl, refl, rw (rules-none a.t.now.acts.now a.t.now.blocks.now a.t.now.rules.now a.t.now.depth a.t.now.limit) (at-start a.seen.now a.words.now a.lists.now))

pub returns-in_err-p : goal.returns-in_err-p
returns-in_err-p c =
    let a = c.args in
    let l = c.loop-k in
    let p = handed-on _ _ c.from_residual.ensures.1 in
    let r = rw c.in_err-p.was at c.flatten_rule.ensures in
    rw p
    (r.0, rule-refused a.t.now.acts.now a.t.now.blocks.now a.t.now.rules.now a.t.now.depth a.t.now.limit l.k (length a.t.now.rules.now / 16) l.left c.loop-k-test.true l.invariant.2.taken_is r.1)

pub loop-k-preserved : goal.loop-k-preserved
loop-k-preserved c =
    let a = c.args in
    let l = c.loop-k in
    let r = c.flatten_rule in
    let z = rw c.in_ok-p.was at r.ensures in
    let p = c.put_list in
    let f = rule_at a.t.now.acts.now a.t.now.blocks.now a.t.now.rules.now a.t.now.depth a.t.now.limit l.k in (
      r.auto.own ∙ l.invariant.0,
      r.auto.body ∙ l.invariant.1,
      rw (rules-more a.t.now.acts.now a.t.now.blocks.now a.t.now.rules.now a.t.now.depth a.t.now.limit l.k)
          (next (rules_up_to a.t.now.acts.now a.t.now.blocks.now a.t.now.rules.now a.t.now.depth a.t.now.limit l.k) a.seen.now (length a.words.now) (length a.lists.now) l.words l.lists l.k l.size l.left l.same l.invariant.2 f r.new.words p.new.lists c.place-at.result c.place-behind.result c.in_ok-p.p.n c.in_ok-p.p.m c.in_ok-p.p.left c.in_ok-p.p.same
          (record { inside = c.place-at.ensures.0; there = c.place-at.ensures.1; past = c.place-at.ensures.2 })
          (record { inside = c.place-behind.ensures.0; there = c.place-behind.ensures.1; past = c.place-behind.ensures.2 })
          r.auto.words z p.auto.lists p.ensures),
    )

pub returns-then-size-gt-MOST_STEPS : goal.returns-then-size-gt-MOST_STEPS
returns-then-size-gt-MOST_STEPS c =
    let a = c.args in
    let l = c.loop-k in
    (refl, all-over a.t.now.acts.now a.t.now.blocks.now a.t.now.rules.now a.t.now.depth a.t.now.limit l.k l.auto.k-end c.loop-k-test.false a.seen.now (length a.words.now) (length a.lists.now) l.words l.lists l.size l.left l.same l.invariant.2 c.if-size-gt-MOST_STEPS.true)

pub returns : goal.returns
returns c =
    let a = c.args in
    let l = c.loop-k in
    all-wrote a.t.now.acts.now a.t.now.blocks.now a.t.now.rules.now a.t.now.depth a.t.now.limit l.k l.auto.k-end c.loop-k-test.false a.seen.now (length a.words.now) (length a.lists.now) l.words l.lists l.size l.left l.same l.invariant.2 c.if-size-gt-MOST_STEPS.false
