-- `flat::body::step_at` meets its contract. Assumes nothing.
use native.Mathlib.Omega.{arith}
use mathlib.Core.Logic.{inl, inr}
use mathlib.Core.Path.{◌∙◌}
use Rattle.flat.proofs.Decoded.{step-there, step_past}
use Rattle.flat.proofs.body.step_at.Goals as goal

pub returns-in_err-step : goal.returns-in_err-step
returns-in_err-step c =
    c.from_residual.ensures
    ∙ step_past c.args.list.now c.args.place (elim c.in_err-step.ensures.lookup.0 [ inl h ↦ absurd (omega arith) | inr h ↦ h ])

pub returns : goal.returns
returns c = let h = c.in_ok-step.ensures.lookup.0 in step-there c.args.list.now c.args.place c.in_ok-step.step.now _ h.1 h.2 c.decode.ensures
