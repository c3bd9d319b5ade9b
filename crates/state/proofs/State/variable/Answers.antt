-- `state::State::variable` meets its contract. Assumes nothing.
use Rattle.std.proofs.Common.{rules, ap, sym, ◌∙◌}
use Rattle.std.proofs.lemmas.Iterator.Consumers.{YieldsList-from_first}
use Rattle.std.proofs.lemmas.Iterator.Search.{find_from_yields_List}
use Rattle.model.specs.State.{value_in, var_named}
use Rattle.rows.proofs.Searching.{finds}
use Rattle.state.specs.Meaning.{meaning}
use Rattle.state.specs.Named.{variable_has_name}
use Rattle.state.proofs.State.variable.Goals as goal

pub returns-in_err-x : goal.returns-in_err-x
unfolding var_named
returns-in_err-x c =
    let p = variable_has_name c.args.name in
    c.from_residual.ensures
    ∙ ap value_in
    (sym c.in_err-x.was
    ∙ finds p (meaning c.args.self.now).rest.vars _ (find_from_yields_List p _ _ _ c.find.ensures.ran (YieldsList-from_first (λ x. x) (λ rest. rest) _ c.variables.ensures) (λ x b q h. search rules)))

pub returns : goal.returns
unfolding var_named
returns c =
    let p = variable_has_name c.args.name in
    ap value_in
    (sym c.in_ok-x.was
    ∙ finds p (meaning c.args.self.now).rest.vars _ (find_from_yields_List p _ _ _ c.find.ensures.ran (YieldsList-from_first (λ x. x) (λ rest. rest) _ c.variables.ensures) (λ x b q h. search rules)))
