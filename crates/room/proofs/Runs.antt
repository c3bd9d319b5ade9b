-- One run: each paid step gives one effect at the most, and no step is taken twice.
use mathlib.Core.Path.{◌≡◌, refl, ap}
use Prim.Native.Nat.{ℕ, zero, suc, ◌+◌, ◌-◌, min, ◌≤◌}
use native.Mathlib.Omega.{arith}
use mathlib.Core.Bool.{Bool, true, false}
use mathlib.Core.List.{List, [], ◌∷◌}
use Rattle.std.specs.Prelude.{Option, None, Some}
use lib.Dec.{ltb, eqb}
use lib.ListN.{length, length-append}
use borrow.Author.Tests.{eqb-true}
use Rattle.std.proofs.lemmas.Option.{slice_get_within}
use Rattle.model.specs.Lists.{to_list}
use Rattle.model.specs.declared.Step.{Step}
use Rattle.model.specs.declared.Step.TheVariants.{Primitive, Wait, Branch, After, Fail}
use Rattle.model.specs.declared.Jump.{Jump}
use Rattle.model.specs.Steps.{jump_at}
use Rattle.model.specs.declared.Point.{Point}
use Rattle.model.specs.Steps.{arrive}
use Rattle.model.specs.declared.Effect.{Effect}
use Rattle.model.specs.State.{Env, Volatile, RuleSet}
use Rattle.model.specs.Flat.{step_at}
use Rattle.model.specs.Eval.{condition_at}
use Rattle.model.specs.Actions.{PrimResult, fails, prim_at}
use Rattle.model.specs.declared.Job.{Job}
use Rattle.model.specs.Exec.{StepResult, after_prim, run_branch, exec, RunOutput, continue_run, with_step, run_steps}
use Rattle.model.specs.Store.{jump_over, jump_from}
use Rattle.ledger.proofs.ListLaws.{by, IfSome}
use Rattle.ledger.proofs.SetRules.{list_of}

-- a jump leads onwards
abbrev pub Onward : Option Jump → Type 0
Onward None = Unit {0}
Onward (Some j) = j.at ≤ j.to

over-onward : (x : Step) (i p : ℕ) (j : Option Jump) → Onward j → Onward (jump_over x i p j)
over-onward (Primitive a) i p j h = h
over-onward (Wait ms) i p j h = h
over-onward (Branch c t e) i p j h = by (ltb p t) (λ y. rw y (omega arith)) (λ n. rw n h)
over-onward (After ms) i p j h = h
over-onward Fail i p j h = h

-- the jump of a place of a list
pub from-onward : (i : ℕ) (xs : List Step) (p : ℕ) → Onward (jump_from i xs p)
from-onward i [] p = tt
from-onward i (x ∷ xs) zero = tt
from-onward i (x ∷ xs) (suc p) = over-onward x i p (jump_from (suc i) xs p) (from-onward (suc i) xs p)

-- ahead of place p of list n
pub record Ahead (n p : ℕ) (sp : Point) : Type 0 where
  pub list : sp.list ≡ n
  pub place : p ≤ sp.place
  pub jump : Onward sp.jump

pub arrive-ahead : (n p : ℕ) (j : Option Jump) → Onward j → Ahead n p (arrive n p j)
unfolding arrive
arrive-ahead n p None h = record { list = refl; place = omega arith; jump = tt }
arrive-ahead n p (Some j) h =
    by (eqb p j.at)
    (λ t. let e = eqb-true p j.at t in rw t (record { list = refl; place = omega arith; jump = tt }))
    (λ f. rw f (record { list = refl; place = omega arith; jump = h }))

pub further : (n p q : ℕ) (sp : Point) → q ≤ p → Ahead n p sp → Ahead n q sp
further n p q sp le h = let a = h.place in record { list = h.list; place = omega arith; jump = h.jump }

-- how many steps of a rule's list are left from a point on
abbrev pub left : RuleSet → ℕ → Point → ℕ
left set i sp = length (list_of set i sp.list) - sp.place

pub left-ahead : (set : RuleSet) (i p : ℕ) (sp to : Point) → Ahead sp.list p to → left set i to ≤ length (list_of set i sp.list) - p
left-ahead set i p sp to h = let a = ap (λ n. length (list_of set i n)) h.list in let b = h.place in omega arith

pub effect-one : (g : Option Effect) → length (to_list g) ≤ 1
effect-one None = omega arith
effect-one (Some x) = omega arith

-- ONE STEP --------------------------------------------------------------------------------------------------------------------------
AheadIf : ℕ → ℕ → Option Point → Type 0
AheadIf n p o = IfSome (Ahead n p) o

prim-ahead : (n p : ℕ) (q : Option ℕ) (a : PrimResult) (to : Point) (v : Volatile) → Ahead n p to → AheadIf n p (after_prim q a to v).next
unfolding after_prim AheadIf
prim-ahead n p None a to v h = h
prim-ahead n p (Some q) a to v h = h

branch-ahead : (x : Option Bool) (t f : ℕ) (sp : Point) (v : Volatile) → Onward sp.jump → AheadIf sp.list (suc sp.place) (run_branch x t f sp v).next
unfolding run_branch AheadIf
branch-ahead (Some true) t f sp v h =
    let p = suc sp.place in arrive-ahead sp.list p (Some (jump_at (p + t) (p + t + f))) (omega arith)
branch-ahead (Some false) t f sp v h = further _ _ _ _ (omega arith) (arrive-ahead sp.list (suc sp.place + t) sp.jump h)
branch-ahead None t f sp v h = unfold AheadIf in (prim-ahead _ _ None (fails v.rest) _ v (further _ _ _ _ (omega arith) (arrive-ahead sp.list (suc sp.place + (t + f)) sp.jump h)))

exec-ahead : (e : Env) (j : Job) (b : ℕ) (sp : Point) (x : Step) (v : Volatile) → Onward sp.jump → AheadIf sp.list (suc sp.place) (exec e j b sp x v).next
unfolding exec AheadIf
exec-ahead e j b sp (Primitive i) v h =
    unfold AheadIf in (prim-ahead _ _ (prim_at e j v.rest i).disables (prim_at e j v.rest i) _ v (further _ _ _ _ (omega arith) (arrive-ahead sp.list (suc sp.place + 0) sp.jump h)))
exec-ahead e j b sp (Wait ms) v h = tt
exec-ahead e j b sp (After ms) v h = further _ _ _ _ (omega arith) (arrive-ahead sp.list (suc sp.place + 0) sp.jump h)
exec-ahead e j b sp (Branch c t f) v h = branch-ahead (condition_at e v.rest c) t f sp v h
exec-ahead e j b sp Fail v h =
    unfold AheadIf in (prim-ahead _ _ None (fails v.rest) _ v (further _ _ _ _ (omega arith) (arrive-ahead sp.list (suc sp.place + 0) sp.jump h)))

-- A RUN -----------------------------------------------------------------------------------------------------------------------------
continue-few : (n p m : ℕ) (y : Step) (d : StepResult) (o : Option Point) (K : Point → Volatile → RunOutput) → AheadIf n p o
    → ((to : Point) (w : Volatile) → Ahead n p to → length (K to w).effects ≤ m) → length (continue_run y d o K).effects ≤ suc m
unfolding continue_run AheadIf
continue-few n p m y d None K h ih = let a = effect-one d.effect in omega arith
continue-few n p m y d (Some to) K h ih =
    let a = effect-one d.effect in
    let b = ih to d.vol h in
    let c = length-append (to_list d.effect) (K to d.vol).effects in
    omega arith

step-few : (b : ℕ) (e : Env) (j : Job) (sp : Point) (v : Volatile) → Onward sp.jump
    → ((to : Point) (w : Volatile) → Onward to.jump → length (run_steps b e j to w).effects ≤ min b (left e.set j.index to))
    → (o : Option Step) → step_at e.set j.index sp ≡ o
    → length (with_step o v (λ x. let d = exec e j b sp x v in continue_run x d d.next (λ sp' v'. run_steps b e j sp' v'))).effects ≤ min (suc b) (left e.set j.index sp)
unfolding with_step step_at
step-few b e j sp v h ih None here = omega arith
step-few b e j sp v h ih (Some x) here =
    let lt = slice_get_within (list_of e.set j.index sp.list) sp.place x here in
    let m = min b (length (list_of e.set j.index sp.list) - suc sp.place) in
    let a = continue-few sp.list (suc sp.place) m x (exec e j b sp x v) (exec e j b sp x v).next (λ sp' v'. run_steps b e j sp' v') (exec-ahead e j b sp x v h)
    (λ to w k. let c = ih to w k.jump in let d = left-ahead e.set j.index (suc sp.place) sp to k in omega arith) in
    omega arith

pub run-few : (b : ℕ) (e : Env) (j : Job) (sp : Point) (v : Volatile) → Onward sp.jump → length (run_steps b e j sp v).effects ≤ min b (left e.set j.index sp)
unfolding run_steps
run-few zero e j sp v h = omega arith
run-few (suc b) e j sp v h = step-few b e j sp v h (λ to w k. run-few b e j to w k) (step_at e.set j.index sp) refl
