-- `flat::FlatRule::step_at` meets its contract. Assumes nothing.
use Prim.Native.Nat.{ℕ}
use native.Mathlib.Omega.{arith}
use mathlib.Core.List.{List}
use mathlib.Core.Path.{sym, ap, ◌∙◌}
use Rattle.std.specs.Prelude.{slice_get}
use Rattle.flat.specs.Words.{steps_in}
use Rattle.flat.proofs.Decoded.{near-there}
use Rattle.flat.proofs.FlatRule.step_at.Goals as goal

pub invariant_of-result : goal.invariant_of-result
invariant_of-result c =
    let part = c.args.self.now.part.now in
    let own = c.args.self.now.own in
    let near = near-there part own c.args.point _ _ c.args.point.place c.args.self.now.near (omega arith) (omega arith) (sym c.in_ok-step.was ∙ c.step_at.ensures ∙ ap (λ (w : List ℕ). slice_get (steps_in w) c.args.point.place) c.list_of.ensures) in
    record { room = omega (arith, near.0, near.1) }

pub returns-clause-near : goal.returns-clause-near
returns-clause-near c =
    let part = c.args.self.now.part.now in
    let own = c.args.self.now.own in
    near-there part own c.args.point _ _ c.args.point.place c.args.self.now.near (omega arith) (omega arith) (sym c.in_ok-step.was ∙ c.step_at.ensures ∙ ap (λ (w : List ℕ). slice_get (steps_in w) c.args.point.place) c.list_of.ensures)
