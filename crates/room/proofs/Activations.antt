-- One activation and one resumption: an outcome at the most, and the effects of one run.
use mathlib.Core.Path.{◌≡◌, sym, subst}
use Prim.Native.Nat.{ℕ, suc, ◌-◌, min, ◌≤◌}
use native.Mathlib.Omega.{arith}
use mathlib.Core.Bool.{Bool, true, false}
use mathlib.Core.List.{[]}
use Rattle.std.specs.Prelude.{Some}
use lib.ListN.{length, get_or, set, length-map}
use Rattle.model.specs.Lists.{or_else}
use Rattle.model.specs.Image.{budget}
use Rattle.model.specs.Rules.{name_of, rule_named}
use Rattle.model.specs.Steps.{FlatStep, start}
use Rattle.model.specs.declared.Pending.{Pending}
use Rattle.model.specs.Flat.{list_in, every_copy}
use Rattle.model.specs.State.{Env, Volatile, with_rest, next_number, with_last_activation, bump, activations_total, activations_dry, continuations_fired}
use Rattle.model.specs.declared.Job.{Job}
use Rattle.model.specs.Activate.{is_dry, Handled, job_of, numbered, with_number, outcome, Decision, begins, suppressed, unevaluable, decide, execute_wet, execute_dry, execute, decided, activate, resume}
use Rattle.model.specs.declared.Mode.{Mode}
use Rattle.model.specs.declared.Mode.TheVariants.{Auto, Manual, Dry}
use Rattle.model.specs.Calls.{effects_of}
use Rattle.ledger.proofs.SetRules.{SetOk, list_of}
use Rattle.ledger.proofs.RunRules.{pending_ok, Continues, continues}
use Rattle.room.proofs.Runs.{Onward, from-onward, run-few}
use Rattle.room.proofs.DryRuns.{dry-within}

-- at most one outcome, of at most m effects
pub record Single (m : ℕ) (x : Handled) : Type 0 where
  pub outcomes : length x.outcomes ≤ 1
  pub effects : effects_of x.outcomes ≤ m

module _ (e : Env) (ok : SetOk e.set) where
  -- a start of rule i, wet and dry
  abbrev pub wet_of : ℕ → ℕ
  wet_of i = min (budget e.set.image) (length (get_or e.set.flat i []))

  abbrev pub dry_of : ℕ → ℕ
  dry_of i = min (budget e.set.image) (every_copy (get_or e.set.flat i []))

  abbrev of_mode : Bool → ℕ → ℕ
  of_mode true i = dry_of i
  of_mode false i = wet_of i

  wet-single : (j : Job) (v : Volatile) → Single (wet_of j.index) (execute_wet e j v)
  unfolding execute_wet numbered outcome list_in
  wet-single j v =
      let s = with_last_activation (set v.rest.last_activation j.index (Some e.world.now)) (bump activations_total v.rest) in
      let a = run-few (budget e.set.image) e (numbered (next_number v.last_number) j) start (with_number (suc v.last_number) (with_rest s v)) tt in
      let b = length-map (get_or e.set.flat j.index []) (λ (x : FlatStep). x.step) in
      record { outcomes = omega arith; effects = omega arith }

  dry-single : (j : Job) (v : Volatile) → Single (dry_of j.index) (execute_dry e j v)
  unfolding execute_dry outcome
  dry-single j v =
      let a = dry-within e ok j (budget e.set.image) (bump activations_dry v.rest) in
      record { outcomes = omega arith; effects = omega arith }

  execute-single : (j : Job) (b : Bool) (v : Volatile) → Single (of_mode b j.index) (execute e j b v)
  execute-single j true v = dry-single j v
  execute-single j false v = wet-single j v

  decided-single : (j : Job) (d : Decision) (v : Volatile) → Single (of_mode j.dry j.index) (decided d e j v)
  unfolding outcome
  decided-single j (begins s) v = execute-single j j.dry (with_rest s v)
  decided-single j (suppressed s) v = record { outcomes = omega arith; effects = omega arith }
  decided-single j (unevaluable s) v = record { outcomes = omega arith; effects = omega arith }

  activate-single : (i kind : ℕ) (m : Mode) (v : Volatile) → Single (of_mode (is_dry m) i) (activate e i kind m v)
  unfolding activate job_of
  activate-single i kind m v = decided-single (job_of e (name_of e.set.image i) i kind (is_dry m)) (decide e i m v.rest) v

  pub auto-single : (i kind : ℕ) (v : Volatile) → Single (wet_of i) (activate e i kind Auto v)
  auto-single i kind v = activate-single i kind Auto v

  pub manual-single : (i : ℕ) (v : Volatile) → Single (wet_of i) (activate e i 0 Manual v)
  manual-single i v = activate-single i 0 Manual v

  pub dry-run-single : (i : ℕ) (v : Volatile) → Single (dry_of i) (activate e i 0 Dry v)
  dry-run-single i v = activate-single i 0 Dry v

  -- a resumption: one of the lists of its rule
  pub resume-single : (m : ℕ) (c : Pending) (v : Volatile) → ((i n : ℕ) → length (list_of e.set i n) ≤ m) → pending_ok e.set c ≡ true → Single (min (budget e.set.image - 1) m) (resume e c v)
  unfolding resume job_of numbered outcome
  resume-single m c v short k = go (continues e.set c k)
    where
      go : (i : ℕ) × Continues e.set c i → Single (min (budget e.set.image - 1) m) (resume e c v)
      go (i, z) =
          let n = or_else 0 (rule_named e.set.image c.rule) in
          let on : Onward c.point.jump = subst Onward (sym z.at.fits.jump) (from-onward 0 (list_of e.set i c.point.list) c.point.place) in
          let a = run-few c.budget e (numbered c.number (job_of e c.rule n c.trigger false)) c.point (with_rest (bump continuations_fired v.rest) v) on in
          let b = z.budget in
          let s = short n c.point.list in
          record { outcomes = omega arith; effects = omega arith }
