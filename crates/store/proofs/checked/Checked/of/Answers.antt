-- `store::checked::Checked::of` meets its contract. Assumes nothing.
use Rattle.std.proofs.Common.{rules, sym, ◌∙◌, ◌≡◌, false}
use Rattle.model.specs.Lists.{present}
use Rattle.model.specs.Store.{read}
use Rattle.store.proofs.Reading.{reads}
use Rattle.store.proofs.Refused.{no_rule}
use Rattle.store.proofs.checked.Checked.of.Goals as goal

pub returns-then-not-check-clause-number : goal.returns-then-not-check-clause-number
returns-then-not-check-clause-number c =
    let broken : present (read c.args.words.now) ≡ false = sym c.check.ensures ∙ c.if-not-check.true in
    no_rule c.args.words.now (search rules) broken

pub returns-clause-value : goal.returns-clause-value
returns-clause-value c = reads c.args.words.now (sym c.check.ensures ∙ c.if-not-check.false)
