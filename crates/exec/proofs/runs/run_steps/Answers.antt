-- `exec::runs::run_steps` meets its contract. Assumes nothing.
use native.Mathlib.Omega.{arith}
use mathlib.Core.Path.{refl, sym, ap, ◌∙◌}
use Rattle.exec.proofs.Going.{runs-past, runs-ended, runs-spent, goes-on}
use Rattle.flat.specs.Stands.{step_of_placed}
use Rattle.exec.proofs.runs.run_steps.Goals as goal

pub returns-in_default : goal.returns-in_default
returns-in_default c =
    runs-past _ _ _ _ _ _ _ _ _ _ _ _ _ _ _ c.loop-left.invariant (sym (ap step_of_placed c.in_default.is) ∙ c.step_at.ensures.found)

pub returns-in_default-next : goal.returns-in_default-next
returns-in_default-next c =
    runs-ended _ _ _ _ _ _ _ _ _ _ _ _ _ _ _ c.loop-left.invariant _ (sym (ap step_of_placed c.in-Some.is) ∙ c.step_at.ensures.found) c.loop-left-test.true _ _ (rw c.in-Some.ensures.at at c.exec-d.ensures) _ _ c.take_step-run.ensures (sym c.in_default-next.is)

pub loop-left-preserved : goal.loop-left-preserved
loop-left-preserved c =
    goes-on _ _ _ _ _ _ _ _ _ _ _ _ _ _ _ c.loop-left.invariant _ (sym (ap step_of_placed c.in-Some.is) ∙ c.step_at.ensures.found) c.loop-left-test.true _ _ (rw c.in-Some.ensures.at at c.exec-d.ensures) _ _ c.take_step-run.ensures _ (sym c.in-Some-next.is)
    c.take_step-run.auto.effects

pub returns : goal.returns
returns c = runs-spent _ _ _ _ _ _ _ _ _ _ _ _ _ _ _ c.loop-left.invariant _ _ (omega arith) c.step_at-2.ensures.found (c.note_partial-run.ensures ∙ rw c.unpaid.ensures) refl
