-- `state::variables::place_of` meets its contract. Assumes nothing.
use Rattle.std.proofs.Common.{rules, ap, ◌≡◌, ◌∙◌, true, false}
use mathlib.Core.Logic.{inl}
use native.Mathlib.Omega.{arith}
use lib.ListN.{length, get_or}
use Rattle.std.proofs.lemmas.Iterator.{IsFirst-from_position}
use Rattle.std.proofs.lemmas.Iterator.Consumers.{YieldsList-from_first}
use Rattle.model.specs.Codec.{most}
use Rattle.model.specs.Parts.{variable_row}
use Rattle.model.proofs.PartsLaws.{variable-laws}
use Rattle.rows.specs.Rows.{short_variable_of, variable_code_row}
use Rattle.rows.proofs.Reading.{table_long}
use Rattle.state.specs.Named.{variable_has_name}
use Rattle.state.proofs.Found.{finds-first}
use Rattle.state.proofs.Typed.{holds-count, holds-few}
use Rattle.state.proofs.VariableRows.{code-table}
use Rattle.state.proofs.variables.place_of.Goals as goal

pub position-requires-clause-fits : goal.position-requires-clause-fits
position-requires-clause-fits c =
    let few = holds-few variable_row variable-laws 16 _ _ c.requires in
    let count = holds-count variable_row variable-laws 16 _ _ c.requires in
    inl (omega (arith, ap length c.counted.ensures, table_long variable_code_row c.args.t.now (get_or c.args.t.now 0 0) 1, few, count))

pub returns : goal.returns
returns c =
    let l = (most 16 variable_row).get c.args.t.now in
    let p = variable_has_name c.args.name in
    finds-first short_variable_of p l _
    (IsFirst-from_position _ _ _ (λ y. p y ≡ true) (λ y. p y ≡ false) c.position.ensures.ran (YieldsList-from_first (λ x. x) (λ rest. rest) _ (c.counted.ensures ∙ code-table _ l c.requires)) (λ x q h. search rules) (λ x q h. search rules))
