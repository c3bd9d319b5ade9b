-- What the contracts on outcomes cite.
use Rattle.std.specs.Prelude.{ℕ, suc, ◌+◌, ◌≡◌, List, length}
use Rattle.model.specs.Activate as model
use Rattle.model.specs.declared.Effect.{Effect}
use Rattle.model.specs.declared.Job.{Job}
use Rattle.activate.specs.Handled.{put_outcome}
use Rattle.activate.specs.declared.Handled.{Handled}

-- the outcome of a job with so many effects is written
abbrev pub Puts : List ℕ → ℕ → Job → ℕ → ℕ → ℕ → List ℕ → Type 0
Puts w n j reason first count exit = (es : List Effect) → count ≡ length es → exit ≡ put_outcome w n first (model.outcome j es reason)

-- the next outcome is written, whose effects are those from x's on, up to the count
pub record Pushes (x : Handled) (w : List ℕ) (j : Job) (reason count : ℕ) (r : Handled) (exit : List ℕ) : Type 0 where
  pub written : (es : List Effect) → count ≡ x.effects + length es → exit ≡ put_outcome w x.outcomes x.effects (model.outcome j es reason)
  pub outcomes : r.outcomes ≡ suc x.outcomes
  pub effects : r.effects ≡ count
