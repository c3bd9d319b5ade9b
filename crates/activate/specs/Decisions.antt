-- Whether a rule starts now, in the specification's terms.
use Rattle.std.specs.Prelude.{ℕ, ◌≡◌, Bool, cond, List}
use Rattle.model.specs.Activate as model
use Rattle.model.specs.State.{Rest, bump, suppressed_cooldown, conditions_rejected, partial_outcomes}
use Rattle.model.specs.Steps.{FlatStep}
use Rattle.eval.specs.Answers.{env_of}
use Rattle.model.specs.declared.Mode.{Mode}
use Rattle.activate.specs.declared.decide.Decision.{Decision}
use Rattle.activate.specs.declared.decide.Decision.TheVariants.{Begins, InCooldown, Rejected, Unevaluable}

-- what each does to the counters
abbrev pub decision_of : Decision → Bool → Rest → model.Decision
decision_of Begins dry s = model.begins s
decision_of InCooldown dry s = model.suppressed (bump suppressed_cooldown s)
decision_of Rejected dry s = model.suppressed (bump conditions_rejected s)
decision_of Unevaluable dry s = model.unevaluable (cond dry s (bump partial_outcomes s))

-- rule i, in every environment of a snapshot and an image
module _ (snapshot image : List ℕ) (i : ℕ) where
  abbrev pub InCooldownIs : Rest → Bool → Type 0
  InCooldownIs s r = (flat : List (List FlatStep)) → r ≡ model.in_cooldown (env_of snapshot image flat) i s

  abbrev pub Decides : Mode → Rest → Decision → Type 0
  Decides m s r = (flat : List (List FlatStep)) → model.decide (env_of snapshot image flat) i m s ≡ decision_of r (model.is_dry m) s
