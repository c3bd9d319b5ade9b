-- Outcomes, effects, and the trace: document 01, "Outcomes and effects" and demand 3.
use Rattle.std.specs.Prelude.{ℕ, Bool, List}
use Rattle.std.specs.Prelude.{Option}
pub use Rattle.model.specs.declared.Effect.{Effect}
use Rattle.model.specs.Steps.{Step, Point}
use Rattle.model.specs.declared.Pending.{Pending}

-- dry is 0 or 1; trigger: 0 HttpTrigger, 1 TimerFires, 2 Every, 3 AtTime, 4 AtSolar;
-- reason: 0 none, 1 ConditionUnevaluable, 2 EffectBudget
pub record Outcome : Type 0 where
  pub rule : ℕ
  pub dry : ℕ
  pub trigger : ℕ
  pub reason : ℕ
  pub effects : List Effect
  pub number : ℕ  -- of the wet activation that it comes from; 0 for none

-- what a paid step says
pub data Report : Type 0 where
  plain : Report
  disables : ℕ → Report  -- it disabled this rule
  defers : Bool → ℕ → Point → Report  -- a wait or an after: whether it is dropped, its milliseconds, and where its continuation starts

-- the trace of a call, in order: the steps behind `started` and `resumed` are that activation's or resumption's own. Each item but a
-- paid step begins what one outcome tells of.
pub data Item : Type 0 where
  resumed : Pending → Item  -- this record resumes
  started : ℕ → Item  -- the rule of this name starts
  aborted : ℕ → Item  -- it would start, but its conditions cannot be evaluated: no step runs
  paid : Step → Report → Option Effect → Item
