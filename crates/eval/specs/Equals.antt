-- What the contracts say: the answer is the specification's, in every environment of this snapshot and this image.
use Rattle.std.specs.Prelude.{ℕ, ◌≡◌, Bool, List, ℤ}
use Rattle.std.specs.Prelude.{Option}
use Rattle.model.specs.State.{Env, Rest}
use Rattle.model.specs.Eval.{eval_reading, eval_value, value_at, resolve_time_bound, bound_at, sun_is_up, level_is, eval_condition, condition_at, conditions_hold}
use Rattle.model.specs.Rules.{conditions_of_rule}
use Rattle.model.specs.Steps.{FlatStep}
use Rattle.model.specs.declared.Reading.{Reading}
use Rattle.model.specs.declared.Value.{Value}
use Rattle.model.specs.declared.TimeBound.{TimeBound}
use Rattle.model.specs.declared.Condition.{Condition}
use Rattle.model.specs.declared.Cmp.{Cmp}
use Rattle.state.specs.Meaning.{meaning}
use Rattle.eval.specs.declared.Env.{Env as Given}
use Rattle.eval.specs.Answers.{env_of}

module _ (snapshot : List ℕ) where
  abbrev pub ReadsIn : Rest → Reading → Option ℤ → Type 0
  ReadsIn s x r = (image : List ℕ) (flat : List (List FlatStep)) → r ≡ eval_reading (env_of snapshot image flat) s x

  -- a reading that looks at the snapshot alone
  abbrev pub Reads : Reading → Option ℤ → Type 0
  Reads x r = (s : Rest) → ReadsIn s x r

  abbrev pub ValueIn : Rest → Value → Option ℤ → Type 0
  ValueIn s x r = (image : List ℕ) (flat : List (List FlatStep)) → r ≡ eval_value (env_of snapshot image flat) s x

  abbrev pub SunIsUp : Option Bool → Type 0
  SunIsUp r = (image : List ℕ) (flat : List (List FlatStep)) (s : Rest) → r ≡ sun_is_up (env_of snapshot image flat) s

  abbrev pub Resolves : TimeBound → Option ℕ → Type 0
  Resolves b r = (image : List ℕ) (flat : List (List FlatStep)) (s : Rest) → r ≡ resolve_time_bound (env_of snapshot image flat) s b

  -- a condition that looks at the snapshot alone
  abbrev pub Decides : Condition → Option Bool → Type 0
  Decides c r = (image : List ℕ) (flat : List (List FlatStep)) (s : Rest) → r ≡ eval_condition (env_of snapshot image flat) s c

abbrev pub BoundAt : List ℕ → List ℕ → ℕ → Option ℕ → Type 0
BoundAt snapshot image i r = (flat : List (List FlatStep)) (s : Rest) → r ≡ bound_at (env_of snapshot image flat) s i

module _ (given : Given) where
  abbrev env : List (List FlatStep) → Env
  env flat = env_of given.snapshot.now given.image.now flat

  abbrev s : Rest
  s = (meaning given.state.now).rest

  abbrev pub ValueAt : ℕ → Option ℤ → Type 0
  ValueAt i r = (flat : List (List FlatStep)) → r ≡ value_at (env flat) s i

  abbrev pub Evaluates : Condition → Option Bool → Type 0
  Evaluates c r = (flat : List (List FlatStep)) → r ≡ eval_condition (env flat) s c

  -- a lamp's level against a value of the image
  abbrev pub LevelIs : Option Cmp → Option ℕ → ℕ → Option Bool → Type 0
  LevelIs cmp level i r = (flat : List (List FlatStep)) → r ≡ level_is (env flat) s cmp level i

  -- the conditions of a rule
  abbrev pub RuleHolds : ℕ → Option Bool → Type 0
  RuleHolds rule r = (flat : List (List FlatStep)) → r ≡ conditions_hold (env flat) s (conditions_of_rule given.image.now rule)

  abbrev pub ConditionAt : ℕ → Option Bool → Type 0
  ConditionAt i r = (flat : List (List FlatStep)) → r ≡ condition_at (env flat) s i
