-- What one paid step did, in the specification's terms.
use Rattle.std.specs.Prelude.{ℕ, ◌≡◌, List}
use Rattle.std.specs.Prelude.{None, Some}
use Rattle.model.specs.Actions as actions
use Rattle.model.specs.Exec as model
use Rattle.model.specs.Outcome.{plain}
use Rattle.model.specs.State.{Env}
use Rattle.model.specs.Steps.{FlatStep}
use Rattle.model.specs.declared.Point.{Point}
use Rattle.model.specs.declared.Step.{Step}
use Rattle.state.specs.Meaning.{Means, meaning, base}
use Rattle.eval.specs.Answers.{env_of}
use Rattle.exec.specs.Results.{Does}
use Rattle.model.specs.declared.Job.{Job}
use Rattle.exec.specs.Done.{ActionDone, StepDone}

-- from v the step came to r, and the specification to d
pub record Steps (v : List ℕ) (r : StepDone) (d : model.StepResult) : Type 0 where
  pub state : Means r.vol (base v) d.vol
  pub effect : r.effect ≡ d.effect
  pub reason : r.reason ≡ d.reason
  pub next : r.next ≡ d.next

abbrev pub Follows : ActionDone → Point → StepDone → Type 0
Follows a to r = (v : List ℕ) (x : actions.PrimResult) → Does v a x → Steps v r (model.after_prim x.disables x to (meaning v))

abbrev pub GoesOn : List ℕ → Point → StepDone → Type 0
GoesOn v to r = Steps v r (record { vol = meaning v; report = plain; effect = None; reason = 0; next = Some to })

-- a step, of every job in every environment; in every environment of a snapshot; in every one of a snapshot and an image
abbrev pub StepsAlways : List ℕ → Point → Step → StepDone → Type 0
StepsAlways v sp x r = (j : Job) (e : Env) (b : ℕ) → Steps v r (model.exec e j b sp x (meaning v))

module _ (snapshot image : List ℕ) where
  abbrev pub StepsIn : Job → List ℕ → ℕ → Point → Step → StepDone → Type 0
  StepsIn j v b sp x r = (flat : List (List FlatStep)) → Steps v r (model.exec (env_of snapshot image flat) j b sp x (meaning v))

abbrev pub StepsAt : List ℕ → Job → List ℕ → ℕ → Point → Step → StepDone → Type 0
StepsAt snapshot j v b sp x r = (image : List ℕ) → StepsIn snapshot image j v b sp x r

-- a continuation of a job to a point is scheduled, in every environment of a snapshot
abbrev pub SchedulesOf : List ℕ → Job → List ℕ → ℕ → ℕ → Point → List ℕ → ℕ → Type 0
SchedulesOf snapshot j v b ms to r reason =
    (image : List ℕ) (flat : List (List FlatStep)) →
    let s = model.schedule (env_of snapshot image flat) j b ms to (meaning v) in
    Means r (base v) s.vol × (reason ≡ s.reason)
