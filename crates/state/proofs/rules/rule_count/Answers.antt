-- `state::rules::rule_count` meets its contract. Assumes nothing.
use mathlib.Core.Path.{◌∙◌}
use native.Mathlib.Omega.{arith}
use Rattle.state.proofs.KeptForRules.{rules-at, rules-few}
use Rattle.state.proofs.rules.rule_count.Goals as goal

pub returns : goal.returns
returns c =
    let e = c.at.ensures ∙ rules-at _ c.requires in
    (e, omega (arith, e, rules-few _ c.requires))
