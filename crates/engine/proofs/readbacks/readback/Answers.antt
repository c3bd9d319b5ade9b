-- `engine::readbacks::readback` meets its contract. Assumes nothing.
use mathlib.Core.Path.{sym, ◌∙◌}
use Rattle.engine.proofs.ReadbackLaws.{no-set, unknown-rule, known-rule}
use Rattle.engine.proofs.readbacks.readback.Goals as goal

pub returns-in_default : goal.returns-in_default
returns-in_default c = no-set c.args.store.now c.args.rule c.args.snapshot.now c.args.starts.now c.requires (sym c.in_default.is ∙ c.image.ensures.value)

pub returns-in-Some-rule_named : goal.returns-in-Some-rule_named
returns-in-Some-rule_named c =
    known-rule c.args.store.now c.args.rule c.args.snapshot.now _ (sym c.in-Some.is ∙ c.image.ensures.value) _ _ _ (sym c.in-Some-rule_named.is ∙ c.rule_named.ensures) (rw c.words.ensures.same at c.sun.ensures) c.write.ensures

pub returns-in-None : goal.returns-in-None
returns-in-None c =
    unknown-rule c.args.store.now c.args.rule c.args.snapshot.now _ (sym c.in-Some.is ∙ c.image.ensures.value) c.args.starts.now c.requires (sym c.in-None.is ∙ c.rule_named.ensures)
