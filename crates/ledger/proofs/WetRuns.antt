-- A wet run has one outcome at the most: of the rule that it names, with trigger 0.
use mathlib.Core.Path.{◌≡◌, refl}
use Prim.Native.Nat.{ℕ}
use mathlib.Core.Bool.{Bool, true, false}
use Rattle.std.specs.Prelude.{Option, None, Some}
use Rattle.model.specs.Rules.{name_of, rule_named}
use Rattle.model.specs.State.{Env, Volatile, with_rest, is_enabled}
use Rattle.model.specs.declared.Job.{Job}
use Rattle.model.specs.Activate.{Decision, begins, suppressed, unevaluable, decide, outcome, job_of, numbered, execute_wet, execute_dry, execute, decided, activate}
use Rattle.model.specs.declared.Mode.TheVariants.{Manual}
use Rattle.model.specs.Calls.{run_rule}
use Rattle.ledger.specs.Trace.{OnlyOf}
use Rattle.ledger.proofs.ListLaws.{by}
use Rattle.ledger.proofs.Accepted.{found_name}

module _ (e : Env) (r : ℕ) where
  one-outcome : (w : Job) (d : Decision) (v : Volatile) → w.rule ≡ r → w.trigger ≡ 0 → OnlyOf r (decided d e w v).outcomes
  unfolding execute_dry execute_wet outcome numbered
  one-outcome w (begins s) v name kind = go w.dry
    where
      go : (dry : Bool) → OnlyOf r (execute e w dry (with_rest s v)).outcomes
      go true = (name, kind)
      go false = (name, kind)
  one-outcome w (suppressed s) v name kind = tt
  one-outcome w (unevaluable s) v name kind = (name, kind)

  named-only : (o : Option ℕ) → rule_named e.set.image r ≡ o → (v : Volatile) → OnlyOf r (run_rule e o false v).outcomes
  unfolding activate job_of
  named-only None h v = tt
  named-only (Some i) h v =
      by (is_enabled v.rest i)
      (λ t. rw t (one-outcome (job_of e (name_of e.set.image i) i 0 false) (decide e i Manual v.rest) v (found_name e.set.image r i h) refl))
      (λ f. rw f tt)

  pub run_only : (v : Volatile) → OnlyOf r (run_rule e (rule_named e.set.image r) false v).outcomes
  run_only v = named-only (rule_named e.set.image r) refl v
