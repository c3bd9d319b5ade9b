-- A step accepts at most one continuation, and takes no activation number. Assumes nothing.
use Prim.Native.Nat.{ℕ, suc, ◌+◌, ◌≤◌}
use native.Mathlib.Omega.{arith}
use mathlib.Core.Path.{◌≡◌, refl, ap, ◌∙◌}
use mathlib.Core.Bool.{Bool, true, false, cond}
use mathlib.Core.List.{List}
use Rattle.std.specs.Prelude.{Option, None, Some}
use Rattle.model.specs.Actions as actions
use Rattle.model.specs.declared.Job.{Job}
use Rattle.model.specs.Eval.{condition_at}
use Rattle.model.specs.Exec.{after_prim, run_branch, exec, schedule, accepted, dropped, advance}
use Rattle.model.specs.State.{Env, Volatile, is_full, strike}
use Rattle.model.specs.Steps.{point}
use Rattle.model.specs.declared.Point.{Point}
use Rattle.model.specs.declared.Step.{Step}
use Rattle.model.specs.declared.Step.TheVariants.{Primitive, Wait, Branch, After, Fail}
use Rattle.state.specs.Meaning as state
use Rattle.state.specs.Meaning.{meaning, base}
use Rattle.state.proofs.Follows.{next-is, accepted-by-next}
use Rattle.exec.specs.Paid as paid
use Rattle.exec.specs.Done.{StepDone}

-- ---- numbers
after_next : (o : Option ℕ) (a : actions.PrimResult) (to : Point) (v : Volatile) → (after_prim o a to v).vol.next ≡ v.next
unfolding after_prim strike
after_next None a to v = refl
after_next (Some q) a to v = refl

schedule-next : (e : Env) (j : Job) (b ms : ℕ) (sp : Point) (v : Volatile) → (schedule e j b ms sp v).vol.next ≤ suc v.next
unfolding schedule accepted dropped
schedule-next e j b ms sp v = go (is_full v)
  where
    go : (t : Bool) → (cond t (dropped v) (accepted e j b ms sp v)).vol.next ≤ suc v.next
    go true = omega arith
    go false = omega arith

branch-next : (o : Option Bool) (t n : ℕ) (sp : Point) (v : Volatile) → (run_branch o t n sp v).vol.next ≤ suc v.next
unfolding run_branch
branch-next (Some true) t n sp v = omega arith
branch-next (Some false) t n sp v = omega arith
branch-next None t n sp v = omega (arith, after_next None (actions.fails v.rest) (advance sp (t + n)) v)

next_grows : (e : Env) (j : Job) (b : ℕ) (sp : Point) (x : Step) (v : Volatile) → (exec e j b sp x v).vol.next ≤ suc v.next
unfolding exec
next_grows e j b sp (Primitive i) v = let a = actions.prim_at e j v.rest i in omega (arith, after_next a.disables a (advance sp 0) v)
next_grows e j b sp (Wait ms) v = schedule-next e j b ms (advance sp 0) v
next_grows e j b sp (Branch c t n) v = branch-next (condition_at e v.rest c) t n sp v
next_grows e j b sp (After ms) v = schedule-next e j b ms (point (suc sp.place) 0 None) v
next_grows e j b sp Fail v = omega (arith, after_next None (actions.fails v.rest) (advance sp 0) v)

pub accepts-one :
    (e : Env) (j : Job) (b : ℕ) (sp : Point) (x : Step) (v : List ℕ) (d : StepDone) → paid.Steps v d (exec e j b sp x (meaning v))
    → state.accepted d.vol ≤ suc (state.accepted v)
accepts-one e j b sp x v d s = omega (arith, next_grows e j b sp x (meaning v), next-is v, accepted-by-next d.vol (base v) _ s.state)

-- ---- the last activation number stays
after_last : (o : Option ℕ) (a : actions.PrimResult) (to : Point) (v : Volatile) → (after_prim o a to v).vol.last_number ≡ v.last_number
unfolding after_prim strike
after_last None a to v = refl
after_last (Some q) a to v = refl

schedule-last : (e : Env) (j : Job) (b ms : ℕ) (sp : Point) (v : Volatile) → (schedule e j b ms sp v).vol.last_number ≡ v.last_number
unfolding schedule accepted dropped
schedule-last e j b ms sp v = go (is_full v)
  where
    go : (t : Bool) → (cond t (dropped v) (accepted e j b ms sp v)).vol.last_number ≡ v.last_number
    go true = refl
    go false = refl

branch-last : (o : Option Bool) (t n : ℕ) (sp : Point) (v : Volatile) → (run_branch o t n sp v).vol.last_number ≡ v.last_number
unfolding run_branch
branch-last (Some true) t n sp v = refl
branch-last (Some false) t n sp v = refl
branch-last None t n sp v = after_last None (actions.fails v.rest) (advance sp (t + n)) v

step-last : (e : Env) (j : Job) (b : ℕ) (sp : Point) (x : Step) (v : Volatile) → (exec e j b sp x v).vol.last_number ≡ v.last_number
unfolding exec
step-last e j b sp (Primitive i) v = let a = actions.prim_at e j v.rest i in after_last a.disables a (advance sp 0) v
step-last e j b sp (Wait ms) v = schedule-last e j b ms (advance sp 0) v
step-last e j b sp (Branch c t n) v = branch-last (condition_at e v.rest c) t n sp v
step-last e j b sp (After ms) v = schedule-last e j b ms (point (suc sp.place) 0 None) v
step-last e j b sp Fail v = after_last None (actions.fails v.rest) (advance sp 0) v

pub takes-none :
    (e : Env) (j : Job) (b : ℕ) (sp : Point) (x : Step) (v : List ℕ) (d : StepDone) → paid.Steps v d (exec e j b sp x (meaning v))
    → (meaning d.vol).last_number ≡ (meaning v).last_number
takes-none e j b sp x v d s = ap (λ (m : Volatile). m.last_number) s.state.says ∙ step-last e j b sp x (meaning v)
