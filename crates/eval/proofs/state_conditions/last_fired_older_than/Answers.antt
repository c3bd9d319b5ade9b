-- `eval::state_conditions::last_fired_older_than` meets its contract. Assumes nothing.
use mathlib.Core.Path.{sym, ap, ◌∙◌}
use Prim.Native.Nat.{ℕ, ◌-◌}
use Rattle.eval.proofs.Older.{fired}
use Rattle.eval.proofs.state_conditions.last_fired_older_than.Goals as goal

pub returns : goal.returns
returns c = λ flat.
    fired _ _ c.args.rule c.args.ms (sym c.rule_named.ensures ∙ c.in-Some.is) (sym c.last_activation.ensures ∙ c.in-Some-last_activation.is) c.from.ensures (c.saturating_sub.ensures ∙ ap (λ (n : ℕ). n - c.in-Some-last_activation.at) c.now_ms.ensures)
