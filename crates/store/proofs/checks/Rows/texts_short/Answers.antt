-- `store::checks::Rows::texts_short` meets its contract. Assumes nothing.
use Rattle.std.proofs.Common.{refl, rules}
use Rattle.model.specs.Parts.{variable_row}
use Rattle.model.specs.Store.{text_short}
use Rattle.store.proofs.Rules.{all_rows}
use Rattle.store.proofs.checks.Rows.texts_short.Goals as goal

pub returns : goal.returns
returns c = all_rows text_short variable_row _ _ refl _ _ _ _ _ c.all.ensures.ran (λ i a q h. search rules)
