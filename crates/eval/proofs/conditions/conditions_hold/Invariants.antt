-- `eval::conditions::conditions_hold` meets its contract. Assumes nothing.
use mathlib.Core.Path.{◌≡◌}
use mathlib.Core.List.{List}
use Rattle.model.specs.Eval.{conditions_hold}
use Rattle.model.specs.Rules.{conditions_of_rule}
use Rattle.model.specs.Steps.{FlatStep}
use Rattle.state.specs.Meaning.{meaning}
use Rattle.eval.specs.Answers.{env_of}
use Rattle.eval.proofs.Holding.{left}
use Rattle.eval.proofs.conditions.conditions_hold.Given as goal

-- the conditions that are left decide as all of them do
abbrev pub invariant-loop-k : goal.invariant-loop-k
invariant-loop-k l =
    let cs = conditions_of_rule l.env.image.now l.rule in
    (flat : List (List FlatStep)) → left (env_of l.env.snapshot.now l.env.image.now flat) (meaning l.env.state.now).rest cs l.k ≡ conditions_hold (env_of l.env.snapshot.now l.env.image.now flat) (meaning l.env.state.now).rest cs
