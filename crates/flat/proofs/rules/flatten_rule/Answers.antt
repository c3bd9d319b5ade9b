-- `flat::rules::flatten_rule` meets its contract: the bodies, then the own list. Assumes nothing.
use Rattle.std.proofs.Common.{◌∙◌, ◌*◌, sym, arith, rules}
use lib.Seq.{length-take-le}
use Rattle.flat.proofs.RuleLists.{rule-short, rule-room, rule-wrote, rule-ends}
use Rattle.flat.proofs.rules.flatten_rule.Goals as goal

pub slice_bounds-append_steps-end : goal.slice_bounds-append_steps-end
slice_bounds-append_steps-end c =
    let a = c.args in
    let f = c.flatten_list in
    let z = rw c.in_ok-q.was at f.ensures.out in
    rule-room _ a.left a.same a.seen.now a.own.now a.words.now f.new.list f.new.bodies.words.now _ _ _ _ (rule-short a.t.now.acts.now a.t.now.blocks.now a.t.now.rules.now a.t.now.depth a.t.now.limit a.k a.left a.t.now.checked) z (omega (arith, c.requires.in_bounds.0, f.auto.list))

pub slice_bounds-append_steps-end-2 : goal.slice_bounds-append_steps-end-2
slice_bounds-append_steps-end-2 c =
    let a = c.args in
    let f = c.flatten_list in
    let z = rw c.in_ok-q.was at f.ensures.out in
    let fits = rule-room _ a.left a.same a.seen.now a.own.now a.words.now f.new.list f.new.bodies.words.now _ _ _ _ (rule-short a.t.now.acts.now a.t.now.blocks.now a.t.now.rules.now a.t.now.depth a.t.now.limit a.k a.left a.t.now.checked) z (omega (arith, c.requires.in_bounds.0, f.auto.list)) in
    sym (length-take-le (c.in_ok-q.q.n * 4) f.new.list fits)

pub returns : goal.returns
returns c =
    let a = c.args in
    let f = c.flatten_list in
    let p = c.append_steps in
    let z = rw c.in_ok-q.was at f.ensures.out in
    rw p.ensures.same_count
    (rule-ends (sym (p.ensures.lent.0 ∙ f.ensures.lent.0)) (search rules)
    (rule-wrote _ a.left a.same a.seen.now a.own.now a.words.now f.new.list f.new.bodies.words.now _ _ _ _ (rule-short a.t.now.acts.now a.t.now.blocks.now a.t.now.rules.now a.t.now.depth a.t.now.limit a.k a.left a.t.now.checked)
    z p.new.b.words.now p.new.b.same c.requires.in_bounds.0 f.ensures.lent.2 p.ensures.lent.2 (rw f.ensures.lent.1 at p.ensures.behinds)))
