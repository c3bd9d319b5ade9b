-- A dry run, in the specification's terms.
use Rattle.std.specs.Prelude.{ℕ, ◌+◌, ◌≤◌, ◌≡◌, List, [], ◌∷◌, ◌++◌, map, length, get_or, drop, Option, None, Some}
use Rattle.words.specs.Saturating.{max32}
use Rattle.model.specs.Dry as model
use Rattle.model.specs.Exec.{body_start}
use Rattle.model.specs.State.{Env, with_rest}
use Rattle.model.specs.Steps.{FlatStep, point}
use Rattle.model.specs.declared.Point.{Point}
use Rattle.model.specs.declared.Step.{Step}
use Rattle.model.specs.declared.Step.TheVariants.{Primitive, Wait, Branch, After, Fail}
use Rattle.flat.specs.Words.{Says}
use Rattle.state.specs.Meaning.{Means, meaning, base, accepted}
use Rattle.eval.specs.Answers.{env_of}
use Rattle.lent_words.specs.PutEffects.{put_effects}
use Rattle.exec.specs.Done.{RunDone, StepDone}
use Rattle.exec.specs.Runs.{RanFrom}
use Rattle.model.specs.declared.Job.{Job}
use Rattle.flat.specs.declared.Placed.{Placed}
use Rattle.exec.specs.declared.bodies.Bodies.{Bodies}

-- from v the step came to r, and the specification to d
pub record DrySteps (v : List ℕ) (r : StepDone) (d : model.DryStepResult) : Type 0 where
  pub state : Means r.vol (base v) (with_rest d.rest (meaning v))
  pub effect : r.effect ≡ d.effect
  pub reason : r.reason ≡ d.reason
  pub next : r.next ≡ Some d.next

abbrev pub DryStepsIn : List ℕ → List ℕ → Job → List ℕ → Point → Step → StepDone → Type 0
DryStepsIn snapshot image j v sp x r =
    (flat : List (List FlatStep)) (qs : List Point) → DrySteps v r (model.dry_step (env_of snapshot image flat) j x sp qs (meaning v).rest)

-- a body begins at its first step; and the bodies that a queue of lists stands for
abbrev pub body_point : ℕ → Point
body_point n = point n 0 None

abbrev pub bodies_of : List ℕ → List Point
bodies_of ns = map body_point ns

-- the lists that are still to run, the oldest first
abbrev pub queued : Bodies → List ℕ
queued b = drop b.first b.lists.items

-- the queue behind a step
abbrev pub queued_by : Step → Point → List Point → List Point
queued_by (Primitive i) sp qs = qs
queued_by (Wait ms) sp qs = qs
queued_by (Branch c t n) sp qs = qs
queued_by (After ms) sp qs = qs ++ (body_start sp ∷ [])
queued_by Fail sp qs = qs

pub record Queues (ns : List ℕ) (sp : Point) (x : Step) (r : List ℕ) : Type 0 where
  pub says : bodies_of r ≡ queued_by x sp (bodies_of ns)
  pub most : length r ≤ length ns + 1

-- the next step where it stands, and what is queued behind it
abbrev pub next_found : Option Placed → List ℕ → Option model.NextStep
next_found None rs = None
next_found (Some x) rs = Some (record { step = x.step; point = x.point; bodies = bodies_of rs })

-- from a point and a queue to the next step, if there is one
pub record Moves (part : List ℕ) (own : ℕ) (p : Point) (ns rs : List ℕ) (x : Option Placed) : Type 0 where
  pub says :
      (e : Env) (j : Job) → Says part own (get_or e.set.flat j.index [])
      → model.next_step e j p (bodies_of ns) ≡ next_found x rs
  pub most : length rs ≤ length ns

-- a budget that the queue has room for, and room to count
pub record DryReady (v : List ℕ) (budget count : ℕ) : Type 0 where
  pub most : budget ≤ 256
  pub counts : count + budget ≤ max32

pub record RunsDry (snapshot image part : List ℕ) (own : ℕ) (job : Job) (v : List ℕ) (from : Point) (budget count : ℕ) (words : List ℕ) (r : RunDone) (exit : List ℕ) : Type 0 where
  pub says :
      (flat : List (List FlatStep)) → Says part own (get_or flat job.index [])
      → let o = model.run_steps_dry budget (env_of snapshot image flat) job from [] (meaning v).rest in
      Means r.vol (base v) (with_rest o.rest (meaning v)) × (r.reason ≡ o.reason) × (r.count ≡ count + length o.effects) × (exit ≡ put_effects words count o.effects)
  pub accepted : accepted r.vol ≡ accepted v
  pub ran : RanFrom v budget count r
