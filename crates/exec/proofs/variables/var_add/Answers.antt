-- `exec::variables::var_add` meets its contract. Assumes nothing.
use mathlib.Core.Path.{refl, sym, ◌∙◌}
use mir.Syntax.{w64}
use mir.Val.{SFits}
use Rattle.model.specs.Actions.{run_prim}
use Rattle.state.specs.Meaning.{meaning}
use Rattle.eval.specs.Answers.{env_of}
use Rattle.exec.proofs.Follows.{answers, hands-on}
use Rattle.exec.proofs.Cases.{stored_some, adds}
use Rattle.exec.proofs.variables.var_add.Goals as goal

pub returns-in_err-step : goal.returns-in_err-step
unfolding run_prim
returns-in_err-step c flat = rw (← c.value_at.ensures flat, c.in_err-step.ensures.ok_part) (hands-on _ c.from_residual.ensures.0)

pub returns : goal.returns
returns c flat =
    let e = env_of c.args.env.now.snapshot.now c.args.env.now.image.now flat in
    let fits : SFits w64 c.in_ok-step.step = record { sfits = c.in_ok-step.known_told-1-own.given.0.1 } in
    answers (c.add_to.ensures e) (adds e c.args.env.now.job (meaning c.args.v.now).rest c.args.name c.args.delta _ _ (stored_some c.in_ok-step.step _ fits (sym c.in_ok-step.ensures.ok_part ∙ c.value_at.ensures flat)) refl)
