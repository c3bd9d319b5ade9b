use mathlib.Core.Path.{◌∙◌}
use Rattle.flat.proofs.FlatPart.{passed}
use Rattle.exports.proofs.Steps.{told}
use Rattle.exports.proofs.cerambiu_flat_steps.Goals as goal

pub flatten_rules-requires-clause-checked : goal.flatten_rules-requires-clause-checked
flatten_rules-requires-clause-checked c = (passed _ c.words.ensures.accepted).0

pub returns : goal.returns
returns c =
    told _ _ _ _ (c.words.ensures.same ∙ rw c.in-Ok.is at c.of.ensures.value) c.words.ensures.accepted c.flatten_rules.ensures.value c.unwrap_or.ensures
