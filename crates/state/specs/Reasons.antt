-- The numbers of reasons: document 01, "Outcomes and effects". 0 is none.
use Rattle.std.specs.Prelude.{ℕ, Option, None, Some}
use Rattle.state.specs.declared.reasons.Reason.{Reason}
use Rattle.state.specs.declared.reasons.Reason.TheVariants.{ConditionUnevaluable, EffectBudget}

abbrev pub reason_code : Reason → ℕ
reason_code ConditionUnevaluable = 1
reason_code EffectBudget = 2

abbrev pub reason_number : Option Reason → ℕ
reason_number None = 0
reason_number (Some r) = reason_code r
