-- `wheel::wall::trigger_kind` meets its contract. Assumes nothing.
use Rattle.std.proofs.lemmas.Result.{err_from_is_err_and}
use mathlib.Core.Logic.{inl, inr}
use mathlib.Core.Path.{sym, ◌∙◌}
use Rattle.model.specs.Eval.{solar_of}
use Rattle.eval.specs.Answers.{env_of}
use Rattle.wheel.proofs.DueKind.{known, unknown, at-time, at-sun, no-sun, no-timer, no_slot, no_other}
use Rattle.wheel.proofs.wall.trigger_kind.Goals as goal

pub returns-in-AtTime : goal.returns-in-AtTime
returns-in-AtTime c =
    λ image flat. rw (c.in-AtTime.is, c.then_some.ensures) (at-time (env_of c.args.snapshot.now image flat) _ _ _ _ _ (rw c.minute_of_day-at.ensures.minute at c.minute_due.ensures))

pub returns-in_ok-times-in-AtSolar : goal.returns-in_ok-times-in-AtSolar
unfolding solar_of
returns-in_ok-times-in-AtSolar c =
    λ image flat.
    let sun = sym c.sun.ensures ∙ known _ _ (sym c.ok_or.ensures.value ∙ c.in_ok-times-in-AtSolar.was) in
    rw (c.in-AtSolar.is, c.then_some-in-AtSolar.ensures)
    (at-sun (env_of c.args.snapshot.now image flat) _ _ _ _ sun (rw (c.from-at.ensures, c.solar_time.ensures) at c.minute_due-in-AtSolar.ensures))

pub returns-in_err-times-in-AtSolar : goal.returns-in_err-times-in-AtSolar
returns-in_err-times-in-AtSolar c =
    λ image flat.
    let sun = sym c.sun.ensures ∙ unknown _ _ (sym c.ok_or.ensures.value ∙ c.in_err-times-in-AtSolar.was) in
    let p = err_from_is_err_and c.from_residual.result c.from_residual.ensures.1 in
    rw (c.in-AtSolar.is, p.1) (no-sun (env_of c.args.snapshot.now image flat) _ _ _ _ sun)

pub returns-in-TimerFires : goal.returns-in-TimerFires
returns-in-TimerFires c = λ image flat. elim c.in-TimerFires.is [
  | inl timer ↦ rw timer.1 (no-timer (env_of c.args.snapshot.now image flat) _ _ _)
  | inr other ↦ elim other [
    | inl slot ↦ rw slot.1 (no_slot (env_of c.args.snapshot.now image flat) _ _ _)
    | inr rest ↦ rw rest (no_other (env_of c.args.snapshot.now image flat) _ _)
  ]
]
