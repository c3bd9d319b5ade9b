-- `engine::handle::run_rule` meets its contract. Assumes nothing.
use mathlib.Core.Path.{◌≡◌, refl, sym, ap, ◌∙◌}
use mathlib.Core.Bool.{cond}
use Rattle.std.specs.Prelude.{Option, None, Some}
use Rattle.model.specs.declared.Mode.TheVariants.{Dry, Manual}
use Rattle.model.specs.Calls.{rule_in}
use Rattle.model.specs.State.{RuleSet}
use Rattle.state.specs.Meaning.{meaning}
use Rattle.activate.specs.Carried.{carried_by}
use Rattle.activate.proofs.Continues.{nothing-done}
use Rattle.wheel.proofs.RuleParts.{part_says, keeps}
use Rattle.engine.specs.Handling.{ran_in}
use Rattle.engine.proofs.SetLaws.{loadable}
use Rattle.engine.proofs.LoadedLaws.{none-given, image-given, named-loaded}
use Rattle.engine.proofs.HandlingLaws.{ran-nothing, ran-rule, not-started, started, rule-inside, continues-as}
use Rattle.engine.proofs.handle.run_rule.Goals as goal
use Rattle.engine.proofs.handle.run_rule.Goals.{then-dry, else-dry}

pub returns-in_default : goal.returns-in_default
returns-in_default c =
    let a = c.args in
    let v = a.lent.now.state.now in
    let x = carried_by a.lent.now in
    let n = none-given a.store.now.loaded c.in_default.ensures.value in
    record {
      does = continues-as x _ _ _ _ _ _ _ (sym (ap (λ (o : Option RuleSet). ran_in o a.name a.dry a.snapshot.now (meaning v)) n)) (nothing-done x _ _);
      same = (refl, refl, refl);
    }

pub returns-in_default-rule_named : goal.returns-in_default-rule_named
returns-in_default-rule_named c =
    let a = c.args in
    let s = a.store.now in
    let v = a.lent.now.state.now in
    let x = carried_by a.lent.now in
    let l = image-given _ _ s c.words-words.ensures c.in-Some.ensures.value in
    let q : rule_in s.loaded a.name ≡ None = named-loaded _ _ s l a.name ∙ sym c.rule_named.ensures ∙ c.in_default-rule_named.is in
    record {
      does = rw (ran-nothing s.loaded a.name a.dry a.snapshot.now (meaning v) q) (nothing-done x _ _);
      same = (refl, refl, refl);
    }

pub returns-then-not-starts : goal.returns-then-not-starts
returns-then-not-starts c =
    let a = c.args in
    let s = a.store.now in
    let v = a.lent.now.state.now in
    let x = carried_by a.lent.now in
    let i = c.in-Some-rule_named.i in
    let l = image-given _ _ s c.words-words.ensures c.in-Some.ensures.value in
    let q : rule_in s.loaded a.name ≡ Some i = named-loaded _ _ s l a.name ∙ sym c.rule_named.ensures ∙ c.in-Some-rule_named.is in
    record {
      does = continues-as x _ _ _ _ _ _ _ (ran-rule s.loaded l.set a.name i a.dry a.snapshot.now (meaning v) l.is q) (not-started _ x _ i _ _ _ a.dry c.starts.ensures c.if-not-starts.true c.bump.ensures refl refl);
      same = (refl, refl, refl);
    }

pub rule_flat-steps-requires : goal.rule_flat-steps-requires
rule_flat-steps-requires c =
    let a = c.args in
    let s = a.store.now in
    let i = c.in-Some-rule_named.i in
    let l = image-given _ _ s c.words-words.ensures c.in-Some.ensures.value in
    let q : rule_in s.loaded a.name ≡ Some i = named-loaded _ _ s l a.name ∙ sym c.rule_named.ensures ∙ c.in-Some-rule_named.is in
    keeps _ _ _ l.kept l.passes i (rule-inside _ _ s l a.name i q)

pub activate-requires-clause-accepted : goal.activate-requires-clause-accepted
activate-requires-clause-accepted c = (loadable _ c.in-Some.ensures.accepted).accepted

pub returns : goal.returns
returns c =
    let a = c.args in
    let s = a.store.now in
    let v = a.lent.now.state.now in
    let x = carried_by a.lent.now in
    let i = c.in-Some-rule_named.i in
    let l = image-given _ _ s c.words-words.ensures c.in-Some.ensures.value in
    let q : rule_in s.loaded a.name ≡ Some i = named-loaded _ _ s l a.name ∙ sym c.rule_named.ensures ∙ c.in-Some-rule_named.is in
    let n = rule-inside _ _ s l a.name i q in
    let m : c.if-dry.mode ≡ cond a.dry Dry Manual =
    elim c.if-dry.branch [ then-dry w ↦ rw (w.mode-is, w.if-dry.true) refl | else-dry w ↦ rw (w.mode-is, w.if-dry.false) refl ] in
    record {
      does = continues-as x _ _ _ _ _ _ _ (ran-rule s.loaded l.set a.name i a.dry a.snapshot.now (meaning v) l.is q)
          (started a.snapshot.now _ l.set x _ i _ _ _ _ _ a.dry _ l.image c.starts.ensures c.if-not-starts.false m
          (c.activate.ensures.does.says l.set.flat (part_says _ _ _ l.kept i n _ _ c.rule_flat-steps.ensures)));
      same = c.activate.ensures.same;
    }
