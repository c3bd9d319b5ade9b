-- An execution, in the specification's terms.
use Rattle.std.specs.Prelude.{ℕ, suc, ◌+◌, ◌≤◌, ◌≡◌, Bool, cond, List, [], ◌∷◌, length, set}
use Rattle.std.specs.Prelude.{Some}
use Rattle.words.specs.Saturating.{max32}
use Rattle.model.specs.Activate as model
use Rattle.model.specs.Activate.{with_number}
use Rattle.model.specs.Dry.{DryOutput, run_steps_dry}
use Rattle.model.specs.Exec.{run_steps}
use Rattle.model.specs.Image.{budget}
use Rattle.model.specs.Outcome.{Item, started}
use Rattle.model.specs.State as model-state
use Rattle.model.specs.State.{Rest, next_number, with_rest, with_last_activation, bump, activations_total, partial_outcomes}
use Rattle.model.specs.Steps.{start}
use Rattle.model.specs.World.{world_of}
use Rattle.model.specs.declared.Effect.{Effect}
use Rattle.model.specs.declared.Point.{Point}
use Rattle.state.specs.Meaning.{Means, meaning, base, accepted}
use Rattle.eval.specs.Answers.{env_of}
use Rattle.model.specs.declared.Job.{Job}
use Rattle.activate.specs.Handled.{Handles}
use Rattle.activate.specs.Carried.{Carried}

-- all that is no continuation is now s, and nothing else has changed
abbrev pub Changes : List ℕ → Rest → List ℕ → Type 0
Changes w s r = Means r (base w) (with_rest s (meaning w))

abbrev pub NotesPartial : Bool → List ℕ → List ℕ → Type 0
NotesPartial dry w r = let s = (meaning w).rest in Changes w (cond dry s (bump partial_outcomes s)) r

-- the activation is counted, its time is kept, and it takes the next number
abbrev pub begun_in : List ℕ → Job → model-state.Volatile → model-state.Volatile
begun_in snapshot j v =
    let s = v.rest in
    with_number (suc v.last_number) (with_rest (with_last_activation (set s.last_activation j.index (Some (world_of snapshot).now)) (bump activations_total s)) v)

abbrev pub Starts : List ℕ → Job → List ℕ → List ℕ → Job → Type 0
Starts snapshot j w r begun = Means r (base w) (begun_in snapshot j (meaning w)) × (begun ≡ model.numbered (next_number (meaning w).last_number) j)

-- numbers that have room for one run, which has taken its own already: `Room 1` without its last field
pub record RunRoom (x : Carried) : Type 0 where
  pub accepted : accepted x.vol + 256 ≤ max32
  pub outcomes : x.outcomes + 1 ≤ max32
  pub effects : x.effects + 256 ≤ max32

-- so many effects are counted, and a reason
abbrev pub FinishesWet : List ℕ → ℕ → ℕ → List ℕ → Type 0
FinishesWet v count reason r = (es : List Effect) → count ≡ length es → Means r (base v) (model.finish_wet es reason (meaning v))

-- what comes of a dry run
abbrev pub dry_outcome : Job → DryOutput → model-state.Volatile → model.Handled
dry_outcome j o v = record { vol = with_rest o.rest v; outcomes = model.outcome j o.effects o.reason ∷ []; trace = started j.rule ∷ o.trace }

module _ (snapshot image part : List ℕ) (own : ℕ) (j : Job) where
  -- a run takes no number
  abbrev pub RunsWet : Point → ℕ → Carried → List ℕ → List ℕ → Carried → List ℕ → List ℕ → Type 0
  RunsWet from b x ow ew r ow' ew' =
      ((item : Item) → Handles part own j.index (λ flat. model.finished j item (run_steps b (env_of snapshot image flat) j from (meaning x.vol))) x ow ew r ow' ew')
      × ((meaning r.vol).last_number ≡ (meaning x.vol).last_number)

  abbrev pub RunsDry : Carried → List ℕ → List ℕ → Carried → List ℕ → List ℕ → Type 0
  RunsDry x =
      Handles part own j.index
      (λ flat. dry_outcome j (run_steps_dry (budget image) (env_of snapshot image flat) j start [] (meaning x.vol).rest) (meaning x.vol)) x

  abbrev pub Executes : Carried → List ℕ → List ℕ → Carried → List ℕ → List ℕ → Type 0
  Executes x = Handles part own j.index (λ flat. model.execute (env_of snapshot image flat) j j.dry (meaning x.vol)) x
