-- `engine::sets::put_rules` meets its contract. The invariant: the first i rules are set. Assumes nothing.
use Rattle.model.specs.State.{with_rest}
use Rattle.state.specs.Meaning.{Means, meaning, base}
use Rattle.engine.proofs.SetLaws.{rules_to}
use Rattle.engine.proofs.sets.put_rules.Given as goal

abbrev pub invariant-loop-i : goal.invariant-loop-i
invariant-loop-i l = Means l.v (base l.initial.v) (with_rest (rules_to l.image l.store l.n l.i (meaning l.initial.v).rest) (meaning l.initial.v))
