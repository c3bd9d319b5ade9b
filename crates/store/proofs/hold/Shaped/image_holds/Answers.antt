-- `store::hold::Shaped::image_holds` meets its contract. Assumes nothing.
use mathlib.Core.Path.{refl, sym, ◌∙◌}
use native.Mathlib.Omega.{arith}
use borrow.Author.Tests.{not-true, not-false}
use Rattle.model.specs.Refusals.{refusal_number}
use Rattle.model.proofs.RefusalLaws.{zero-of, above-zero}
use Rattle.image.proofs.Accepted.{sized, rules-few}
use Rattle.load.proofs.Laws.{checked}
use Rattle.store.proofs.Parts.{counted-set}
use Rattle.store.proofs.FlatForm.{steps-few}
use Rattle.store.proofs.SetRules as laws
use Rattle.store.proofs.hold.Shaped.image_holds.Goals as goal

pub returns-then-is_err-clause-holds : goal.returns-then-is_err-clause-holds
returns-then-is_err-clause-holds c =
    laws.tables-refused c.args.self.now.words.now c.args.image.now (refusal_number c.refusal.result) c.refusal.ensures
    (above-zero c.refusal.result (sym c.is_err.ensures.value ∙ c.if-is_err.true))

pub new-requires : goal.new-requires
new-requires c = sized c.args.image.now (sym c.refusal.ensures ∙ zero-of c.refusal.result (sym c.is_err.ensures.value ∙ c.if-is_err.false))

pub returns-then-not-few_enough-clause-holds : goal.returns-then-not-few_enough-clause-holds
returns-then-not-few_enough-clause-holds c =
    laws.counts-refused c.args.self.now.words.now c.args.image.now (sym c.refusal.ensures ∙ zero-of c.refusal.result (sym c.is_err.ensures.value ∙ c.if-is_err.false))
    (sym (rw c.new.ensures at c.few_enough.ensures) ∙ not-true c.few_enough.result c.if-not-few_enough.true-raw)

pub slice_bounds-same_flat-end : goal.slice_bounds-same_flat-end
slice_bounds-same_flat-end c =
    let r = c.args.self.now.readable in
    omega (arith, (counted-set c.args.self.now.words.now r).steps, c.at.ensures, r.long)

pub same_flat-requires : goal.same_flat-requires
same_flat-requires c =
    let img = c.args.image.now in record {
      checked = checked img (sym c.refusal.ensures ∙ zero-of c.refusal.result (sym c.is_err.ensures.value ∙ c.if-is_err.false));
      rules_bound = rules-few img (sym (rw c.new.ensures at c.few_enough.ensures) ∙ not-false c.few_enough.result c.if-not-few_enough.false-raw);
      steps_len_bound = steps-few c.args.self.now.words.now c.args.self.now.readable _ _ c.at.ensures refl;
    }

pub returns-clause-holds : goal.returns-clause-holds
returns-clause-holds c =
    laws.image_holds c.args.self.now.words.now c.args.image.now (sym c.refusal.ensures ∙ zero-of c.refusal.result (sym c.is_err.ensures.value ∙ c.if-is_err.false)) c.args.self.now.readable c.requires
    (sym (rw c.new.ensures at c.few_enough.ensures) ∙ not-false c.few_enough.result c.if-not-few_enough.false-raw) _ _ _ c.at.ensures refl c.same_flat.ensures

pub returns-clause-accepted : goal.returns-clause-accepted
returns-clause-accepted c = λ t. (laws.loads-and-kept c.args.self.now.words.now c.args.image.now _ (returns-clause-holds c) t).0

pub returns-clause-kept : goal.returns-clause-kept
returns-clause-kept c =
    λ t. let (ok, form) = laws.loads-and-kept c.args.self.now.words.now c.args.image.now _ (returns-clause-holds c) t in laws.kept _ _ c.args.self.now.readable c.requires ok form
