-- What an action, a step and a run answer, with the words of the state as they are then.
use Rattle.std.specs.Prelude.{ℕ, List, Option, None, Result, Ok, Err}
use Rattle.model.specs.Actions.{condition_unevaluable}
use Rattle.model.specs.State.{Volatile, with_rest, bump, actions_failed}
use Rattle.model.specs.declared.Effect.{Effect}
use Rattle.model.specs.declared.Point.{Point}
use Rattle.state.specs.Reasons.{reason_number}
use Rattle.exec.specs.declared.RunResult.{RunResult}
use Rattle.exec.specs.declared.StepResult.{StepResult}
use Rattle.model.specs.declared.Unevaluable.{Unevaluable}

-- what an action answers
abbrev pub PrimResult : Type 0
PrimResult = Result (Option Effect) Unevaluable

abbrev pub effect_of : PrimResult → Option Effect
effect_of (Ok x) = x
effect_of (Err u) = None

-- the reason that it notes
abbrev pub reason_of : PrimResult → ℕ
reason_of (Ok x) = 0
reason_of (Err u) = condition_unevaluable

-- the state with one more action failed, where it did
abbrev pub counted : PrimResult → Volatile → Volatile
counted (Ok x) v = v
counted (Err u) v = with_rest (bump actions_failed v.rest) v

-- what an action did
pub record ActionDone : Type 0 where
  pub vol : List ℕ
  pub answer : PrimResult

abbrev pub action_done : List ℕ → PrimResult → ActionDone
action_done w r = record { vol = w; answer = r }

-- what one paid step did
pub record StepDone : Type 0 where
  pub vol : List ℕ
  pub effect : Option Effect
  pub reason : ℕ
  pub next : Option Point

abbrev pub step_done : List ℕ → StepResult → StepDone
step_done w r = record { vol = w; effect = r.effect; reason = reason_number r.reason; next = r.next }

-- what came of a run
pub record RunDone : Type 0 where
  pub vol : List ℕ
  pub reason : ℕ
  pub count : ℕ

abbrev pub run_done : List ℕ → RunResult → RunDone
run_done w r = record { vol = w; reason = reason_number r.reason; count = r.count }
