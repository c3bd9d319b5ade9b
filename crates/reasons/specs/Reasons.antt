-- The reasons of outcomes, over lists of calls; and the Rust's decision, which asks for the depth of a chain.
use Rattle.std.specs.Prelude.{ℕ, Bool, true, cond, ◌&&◌, leb, ltb}
use Rattle.model.specs.Lists.{all}
use Rattle.model.specs.Rules.{conditions_of_rule}
use Rattle.model.specs.Outcome.{Outcome}
use Rattle.model.specs.State.{Env, Rest, bump, suppressed_cooldown}
use Rattle.model.specs.Eval.{conditions_hold}
use Rattle.model.specs.Activate.{Decision, suppressed, is_auto, is_dry, in_cooldown, verdict}
use Rattle.model.specs.declared.Mode.{Mode}
use Rattle.model.specs.Calls.{Answer, done, refused, enabled, handled, due, counted}

-- none, ConditionUnevaluable or EffectBudget: no other reason
abbrev pub is_known : Outcome → Bool
is_known o = leb o.reason 2

-- every outcome of an answer has such a reason
abbrev pub all_known : Answer → Bool
all_known done = true
all_known (refused n) = true
all_known (enabled b) = true
all_known (handled os) = all is_known os
all_known (due t) = true
all_known (counted cs) = true

-- activate.rs: a chain of activations deeper than this is given up. The Rust keeps a depth with every activation, and no code of it ever
-- gives one above 0
abbrev pub max_chain_depth : ℕ
max_chain_depth = 4

pub data DeepDecision : Type 0 where
  too_deep : DeepDecision
  shallow : Decision → DeepDecision

-- activate.rs: cooldown, then the depth, then the conditions
unfoldable pub decide_at : ℕ → Env → ℕ → Mode → Rest → DeepDecision
decide_at depth e i m s =
    cond (is_auto m && in_cooldown e i s) (shallow (suppressed (bump suppressed_cooldown s)))
    (cond (ltb max_chain_depth depth) too_deep (shallow (verdict (conditions_hold e s (conditions_of_rule e.set.image i)) (is_dry m) s)))
