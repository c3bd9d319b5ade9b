-- What an action did, in the specification's terms.
use Rattle.std.specs.Prelude.{ℕ, ◌≡◌, Bool, List, ℤ}
use Rattle.std.specs.Prelude.{Option, None, Some}
use Rattle.model.specs.Actions as model
use Rattle.model.specs.State as model-state
use Rattle.model.specs.State.{Env, Rest, with_rest, strike, var_named}
use Rattle.model.specs.declared.Action.{Action}
use Rattle.model.specs.Steps.{FlatStep}
use Rattle.model.specs.declared.VarValue.{VarValue}
use Rattle.model.specs.Eval.{value_at}
use Rattle.state.specs.Meaning.{Means, meaning, base}
use Rattle.eval.specs.Answers.{env_of}
use Rattle.model.specs.declared.Job.{Job}
use Rattle.exec.specs.Done.{PrimResult, ActionDone, action_done, counted, effect_of, reason_of}

-- who disables a rule also strikes its continuations
abbrev pub struck : Option ℕ → model-state.Volatile → model-state.Volatile
struck None v = v
struck (Some q) v = strike q v

-- from v the action came to r, and the specification to a: the state with what is counted then is a's
pub record Does (v : List ℕ) (r : ActionDone) (a : model.PrimResult) : Type 0 where
  pub state : counted r.answer (meaning r.vol) ≡ struck a.disables (with_rest a.rest (meaning v))
  pub based : base r.vol ≡ base v
  pub effect : effect_of r.answer ≡ a.effect
  pub reason : reason_of r.answer ≡ a.reason

-- the same of an action that is counted where it failed: the state is a's
pub record Acts (v : List ℕ) (r : ActionDone) (a : model.PrimResult) : Type 0 where
  pub state : Means r.vol (base v) (struck a.disables (with_rest a.rest (meaning v)))
  pub effect : effect_of r.answer ≡ a.effect
  pub reason : reason_of r.answer ≡ a.reason

-- the state stays as it is, and the answer is the specification's
abbrev pub AnswersOnly : (Rest → model.PrimResult) → PrimResult → Type 0
AnswersOnly f r = (v : List ℕ) → Does v (action_done v r) (f (meaning v).rest)

-- an action, in every environment; and in every environment of a snapshot and an image
abbrev pub Performs : Job → List ℕ → Action → ActionDone → Type 0
Performs j v x r = (e : Env) → Does v r (model.run_prim e j (meaning v).rest x)

module _ (snapshot image : List ℕ) where
  abbrev pub PerformsIn : Job → List ℕ → Action → ActionDone → Type 0
  PerformsIn j v x r = (flat : List (List FlatStep)) → Does v r (model.run_prim (env_of snapshot image flat) j (meaning v).rest x)

  -- action i of the image
  abbrev pub PerformsAt : Job → List ℕ → ℕ → ActionDone → Type 0
  PerformsAt j v i r = (flat : List (List FlatStep)) → Does v r (model.prim_at (env_of snapshot image flat) j (meaning v).rest i)

  -- an action, and action i of the image, with a failure counted
  abbrev pub ActsIn : Job → List ℕ → Action → ActionDone → Type 0
  ActsIn j v x r = (flat : List (List FlatStep)) → Acts v r (model.run_prim (env_of snapshot image flat) j (meaning v).rest x)

  abbrev pub ActsAt : Job → List ℕ → ℕ → ActionDone → Type 0
  ActsAt j v i r = (flat : List (List FlatStep)) → Acts v r (model.prim_at (env_of snapshot image flat) j (meaning v).rest i)

-- the parts of actions that several share
abbrev pub Arms : List ℕ → Job → List ℕ → ℕ → ℕ → ActionDone → Type 0
Arms snapshot j v name ms r =
    (image : List ℕ) (flat : List (List FlatStep)) (s : Rest) → Does v r (model.arm_timer (env_of snapshot image flat) j s name ms (meaning v).rest)

abbrev pub Assigns : Job → List ℕ → ℕ → VarValue → ActionDone → Type 0
Assigns j v name value r = (e : Env) → Does v r (model.var_set e j (meaning v).rest name value)

abbrev pub Adds : Job → List ℕ → ℕ → ℤ → ActionDone → Type 0
Adds j v name step r =
    (e : Env) →
    let s = (meaning v).rest in
    Does v r (model.var_add e j s name (Some step) (var_named s name))

-- value i, and its level
abbrev pub ValueAt : List ℕ → List ℕ → Rest → ℕ → Option ℤ → Type 0
ValueAt snapshot image s i r = (flat : List (List FlatStep)) → r ≡ value_at (env_of snapshot image flat) s i

abbrev pub LevelAt : List ℕ → List ℕ → Rest → ℕ → Option ℕ → Type 0
LevelAt snapshot image s i r = (flat : List (List FlatStep)) → r ≡ model.level_at (value_at (env_of snapshot image flat) s i)

-- the rule's place is i, if it has one
abbrev pub SetsBit : Job → List ℕ → ℕ → Bool → Option ℕ → ActionDone → Type 0
SetsBit j v rule on i r = (e : Env) → Does v r (model.set_rule_bit e j (meaning v).rest rule on i)
