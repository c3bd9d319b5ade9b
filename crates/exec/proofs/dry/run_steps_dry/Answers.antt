-- `exec::dry::run_steps_dry` meets its contract. Assumes nothing.
use Prim.Native.Nat.{ℕ, ◌+◌, ◌-◌}
use native.Mathlib.Omega.{arith}
use mathlib.Core.Path.{◌≡◌, refl, ap, ◌∙◌}
use lib.ListN.{length}
use Rattle.arrayvec.specs.ArrayVec.{ArrayVec}
use Rattle.exec.proofs.DryGoing.{runs-past, runs-spent, goes-on}
use Rattle.exec.proofs.dry.run_steps_dry.Goals as goal

pub returns-in_default : goal.returns-in_default
returns-in_default c = runs-past _ _ _ _ _ _ _ _ _ _ _ _ _ _ _ _ c.loop.invariant.0 _ _ c.next_step.ensures.moves c.in_default.is

pub loop-preserved : goal.loop-preserved
loop-preserved c =
    let less : c.args.budget - c.loop.counter - 1 ≡ c.args.budget - (c.loop.counter + 1) = omega arith in
    let v = c.loop.invariant in (
      rw less at
          (goes-on _ _ _ _ _ _ _ _ _ _ _ _ _ _ _ _ v.0 _ _ c.next_step.ensures.moves _ c.in-Some.is (omega (arith, c.loop-test.true)) _ _ c.exec_dry-d.ensures _ _ c.take_step-run.ensures _ c.queue_body.ensures.queues _ c.unwrap_or-point.ensures c.take_step-run.auto.effects),
      (let same = ap (λ (a : ArrayVec ℕ). length a.items) c.next_step.ensures.same in omega (arith, c.queue_body.ensures.most, v.1, c.loop-test.true)),
    )

pub returns : goal.returns
returns c =
    runs-spent _ _ _ _ _ _ _ _ _ _ _ _ _ _ _ _ c.loop.invariant.0 _ _ c.next_step-left.ensures.moves _ (omega (arith, c.loop-test.false)) (c.note_partial-run.ensures ∙ rw c.unpaid.ensures) refl
