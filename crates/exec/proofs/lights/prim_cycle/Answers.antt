-- `exec::lights::prim_cycle` meets its contract. Assumes nothing.
use native.Mathlib.Numerals.{add-one}
use borrow.Author.Tests.{ne_eqb, not-true, not-false}
use Rattle.model.specs.Actions.{emits, run_prim, prim_cycle, cycle_effect}
use Rattle.exec.proofs.Follows.{follows}
use Rattle.exec.proofs.lights.prim_cycle.Goals as goal
use Rattle.exec.proofs.lights.prim_cycle.Goals.{then-not-env, else-not-env}

pub returns : goal.returns
unfolding run_prim prim_cycle cycle_effect
returns c snapshot flat =
    let at = c.cycle_place-at in
    elim c.if-not-env.branch [
      | then-not-env w ↦
          rw (w.v-is, ne_eqb c.args.count 0 c.if-count-eq0.false, not-true _ w.if-not-env.true-raw, ← at.ensures.0, ← c.word_from-scene.ensures, ← add-one at.result)
          (follows (λ s. emits s 1 c.word_from-scene.result 0 0 c.args.env.now.job.hold) _ _ _ _ w.set_cycle_pos.ensures (c.emits.ensures _))
      | else-not-env w ↦
          rw (w.v-is, ne_eqb c.args.count 0 c.if-count-eq0.false, not-false _ w.if-not-env.false-raw, ← at.ensures.0, ← c.word_from-scene.ensures) (c.emits.ensures _)
    ]
