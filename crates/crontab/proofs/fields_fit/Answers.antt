-- `crontab::fields_fit` meets its contract. Assumes nothing.
use mathlib.Core.Path.{◌∙◌}
use borrow.Author.Rules.{rules}
use Rattle.std.proofs.lemmas.Iterator.{YieldsList-from_slice}
use Rattle.model.specs.Crontab.{field_fits}
use Rattle.fields.proofs.Chains.{computes-all}
use Rattle.crontab.specs.Fields.{number}
use Rattle.crontab.specs.declared.parts.Field.{Field}
use Rattle.crontab.proofs.Fields.{fields, all-fields}
use Rattle.crontab.proofs.fields_fit.Goals as goal

pub returns : goal.returns
returns c =
    computes-all {l = fields} _ _ (λ (x : Field). field_fits c.args.line.now (number x)) _ c.all.ensures.ran (YieldsList-from_slice fields cc) (λ x b q k. search rules)
    ∙ all-fields (field_fits c.args.line.now)
