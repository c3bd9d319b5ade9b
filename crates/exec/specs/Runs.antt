-- What comes of a run, in the specification's terms.
use Rattle.std.specs.Prelude.{ℕ, ◌+◌, ◌≤◌, ◌≡◌, List, [], length, get_or, Option, None, Some}
use Rattle.words.specs.Saturating.{max32, max64}
use Rattle.model.specs.Exec as model
use Rattle.model.specs.Lists.{to_list}
use Rattle.model.specs.Steps.{FlatStep}
use Rattle.model.specs.declared.Point.{Point}
use Rattle.flat.specs.Words.{Says}
use Rattle.state.specs.Meaning.{Means, meaning, base, accepted}
use Rattle.state.specs.Reasons.{reason_number}
use Rattle.eval.specs.Answers.{env_of}
use Rattle.lent_words.specs.PutEffects.{put_effects}
use Rattle.model.specs.declared.Job.{Job}
use Rattle.exec.specs.declared.RunResult.{RunResult}
use Rattle.exec.specs.declared.StepResult.{StepResult}
use Rattle.exec.specs.Done.{RunDone}

-- the specification's `unpaid`, of whatever is left
abbrev pub unpaid_of : {A : Type 0} → Option A → ℕ
unpaid_of None = 0
unpaid_of (Some a) = model.effect_budget

-- a paid step is taken over: the first reason stays, and the effect is written behind the others
pub record Taken (run : RunResult) (words : List ℕ) (d : StepResult) (r : RunResult) (exit : List ℕ) : Type 0 where
  pub reason : reason_number r.reason ≡ model.first_reason (reason_number run.reason) (reason_number d.reason)
  pub count : r.count ≡ run.count + length (to_list d.effect)
  pub written : exit ≡ put_effects words run.count (to_list d.effect)

-- numbers that have room for what a budget can bring
pub record Ready (v : List ℕ) (budget count : ℕ) : Type 0 where
  pub accepts : accepted v + budget ≤ max64
  pub counts : count + budget ≤ max32

-- what a run, wet or dry, keeps from v and count to r: pending records count from the same base, effects grow by at most the budget, and no activation number is taken
pub record RanFrom (v : List ℕ) (budget count : ℕ) (r : RunDone) : Type 0 where
  pub based : base r.vol ≡ base v
  pub grows : count ≤ r.count
  pub counted : r.count ≤ count + budget
  pub last : (meaning r.vol).last_number ≡ (meaning v).last_number

pub record Runs (snapshot image part : List ℕ) (own : ℕ) (job : Job) (v : List ℕ) (from : Point) (budget count : ℕ) (words : List ℕ) (r : RunDone) (exit : List ℕ) : Type 0 where
  pub says :
      (flat : List (List FlatStep)) → Says part own (get_or flat job.index [])
      → let o = model.run_steps budget (env_of snapshot image flat) job from (meaning v) in
      Means r.vol (base v) o.vol × (r.reason ≡ o.reason) × (r.count ≡ count + length o.effects) × (exit ≡ put_effects words count o.effects)
  pub accepted : accepted r.vol ≤ accepted v + budget
  pub ran : RanFrom v budget count r
