-- The steps of a dry run. Assumes nothing.
use Prim.Native.Nat.{ℕ}
use mathlib.Core.Path.{◌≡◌, refl, ap, ◌∙◌}
use mathlib.Core.Bool.{Bool, true, false, cond}
use mathlib.Core.List.{List}
use Rattle.std.specs.Prelude.{Option, None, Some, Ok, Err}
use lib.Dec.{leb, ltb, eqb}
use lib.IntN.{ℤ, pos, negsuc}
use Rattle.model.specs.Image.{group_limit, text_limit}
use Rattle.model.specs.Lists.{present}
use Rattle.model.specs.Actions as actions
use Rattle.model.specs.Actions.{PrimResult, prim_light, prim_recall, prim_apply, prim_cycle, cycle_effect, level_at, selects, dims, arm_timer, var_set, prim_var_set, var_add, set_rule_bit, run_prim, run_known, fails}
use Rattle.model.specs.declared.Job.{Job}
use Rattle.model.specs.declared.VarConstant.TheVariants as constant
use Rattle.model.specs.declared.Action.{Action}
use Rattle.model.specs.declared.Action.TheVariants.{Light, Recall, Apply, Cycle, HclResume, HclHold, HclEnable, HclDisable, FeedbackOn, FeedbackOff, PanelSelect, CancelHold, CatchMovement, TimerStart, TimerRestart, TimerCancel, VarSet, VarAdd, RuleEnable, RuleDisable, MqttPublish, Log, StatCount, Percent}
use Rattle.model.specs.declared.VarValue.{VarValue}
use Rattle.model.specs.declared.VarValue.TheVariants.{Int, Text}
use Rattle.model.specs.Dry.{dry_step, dry_branch}
use Rattle.model.specs.Eval.{condition_at, value_at}
use Rattle.model.specs.Exec.{exec, after_prim, run_branch, advance}
use Rattle.model.specs.Rules.{rule_named, record_of, action_of}
use Rattle.model.specs.Rows as rows
use Rattle.model.specs.State.{Env, Rest, var_named, timer_named}
use Rattle.model.specs.declared.Point.{Point}
use Rattle.model.specs.declared.Step.TheVariants.{Primitive, Wait, Branch, After, Fail}
use Rattle.state.specs.Meaning.{meaning}
use Rattle.exec.specs.Paid.{Steps, GoesOn}
use Rattle.exec.specs.DryRuns.{DrySteps}
use Rattle.exec.specs.Done.{StepDone}

-- ---- a dry run disables no rule
either : (t : Bool) (a b : PrimResult) → a.disables ≡ None → b.disables ≡ None → (cond t a b).disables ≡ None
either true a b p q = p
either false a b p q = q

module _ (e : Env) (j : Job) (s : Rest) (dry : j.dry ≡ true) where
  arm-none : (name ms : ℕ) (s' : Rest) → (arm_timer e j s name ms s').disables ≡ None
  unfolding arm_timer
  arm-none name ms s' = rw dry

  set-none : (name : ℕ) (x : VarValue) → (var_set e j s name x).disables ≡ None
  unfolding var_set
  set-none name x = rw dry

  bit-none : (rule : ℕ) (on : Bool) (o : Option ℕ) → (set_rule_bit e j s rule on o).disables ≡ None
  unfolding fails
  bit-none rule on None = refl
  bit-none rule on (Some i) = rw dry

  select-none : (adapter group : ℕ) (n : Option ℤ) → (selects e j s adapter group n).disables ≡ None
  unfolding fails
  select-none adapter group None = refl
  select-none adapter group (Some (negsuc n)) = refl
  select-none adapter group (Some (pos n)) = either (leb n (group_limit e.set.image)) (actions.emits s 7 adapter group n 0) (fails s) refl refl

  dims-none : (target : ℕ) (hold level : Option ℕ) → (dims e j s target hold level).disables ≡ None
  unfolding fails
  dims-none target hold None = refl
  dims-none target hold (Some n) = refl

  add_none : (name : ℕ) (step : Option ℤ) (held : Option VarValue) → (var_add e j s name step held).disables ≡ None
  unfolding fails
  add_none name None held = refl
  add_none name (Some x) None = set-none name _
  add_none name (Some x) (Some (Int n)) = set-none name _
  add_none name (Some x) (Some (Text t)) = refl

  pub dry-none : (x : Action) → (run_prim e j s x).disables ≡ None
  unfolding run_prim prim_light prim_recall prim_apply prim_cycle cycle_effect prim_var_set fails
  dry-none (Light target hold (Ok (Some verb))) = refl
  dry-none (Light target hold (Ok None)) = refl
  dry-none (Light target hold (Err u)) = refl
  dry-none (Recall None mark target) = refl
  dry-none (Recall (Some scene) mark target) = refl
  dry-none (Apply None) = refl
  dry-none (Apply (Some scene)) = refl
  dry-none (Cycle first count) = either (eqb count 0) (fails s) (cycle_effect e j s first count) refl refl
  dry-none (HclResume target) = refl
  dry-none (HclHold target) = refl
  dry-none (HclEnable schedule) = refl
  dry-none (HclDisable schedule) = refl
  dry-none (FeedbackOn a i k) = refl
  dry-none (FeedbackOff a i k) = refl
  dry-none (PanelSelect a group v) = select-none a group (value_at e s v)
  dry-none (CancelHold a i k) = refl
  dry-none (CatchMovement a i k) = refl
  dry-none (TimerStart name ms) = either (present (timer_named s name)) (actions.no_effect s) (arm_timer e j s name ms s) refl (arm-none name ms s)
  dry-none (TimerRestart name ms) = arm-none name ms _
  dry-none (TimerCancel name) = refl
  dry-none (VarSet name (constant.Text text bytes)) =
      either (ltb (text_limit e.set.image) bytes) (fails s) (var_set e j s name (Text text)) refl (set-none name (Text text))
  dry-none (VarSet name (constant.Int n)) = set-none name (Int n)
  dry-none (VarAdd name v) = add_none name (value_at e s v) (var_named s name)
  dry-none (RuleEnable rule) = bit-none rule true (rule_named e.set.image rule)
  dry-none (RuleDisable rule) = bit-none rule false (rule_named e.set.image rule)
  dry-none (MqttPublish topic payload retain) = refl
  dry-none (Log t) = refl
  dry-none (StatCount name) = refl
  dry-none (Percent target hold v) = dims-none target hold (level_at (value_at e s v))

  pub known-none : (o : Option Action) → (run_known e j s o).disables ≡ None
  unfolding fails
  known-none None = refl
  known-none (Some x) = dry-none x

-- ---- the steps
module _ (e : Env) (j : Job) (b : ℕ) (sp : Point) (v : List ℕ) (r : StepDone) (qs : List Point) where
  pub primitive-dry : (i : ℕ) → j.dry ≡ true → Steps v r (exec e j b sp (Primitive i) (meaning v)) → DrySteps v r (dry_step e j (Primitive i) sp qs (meaning v).rest)
  unfolding exec dry_step after_prim
  primitive-dry i d s =
      let t = rw (known-none e j (meaning v).rest d (action_of (record_of e.set.image rows.actions i))) at s in
      record { state = t.state; effect = t.effect; reason = t.reason; next = t.next }

  pub fail-dry : Steps v r (exec e j b sp Fail (meaning v)) → DrySteps v r (dry_step e j Fail sp qs (meaning v).rest)
  unfolding exec dry_step after_prim
  fail-dry s = record { state = s.state; effect = s.effect; reason = s.reason; next = s.next }

  pub branch-dry : (c t n : ℕ) → Steps v r (exec e j b sp (Branch c t n) (meaning v)) → DrySteps v r (dry_step e j (Branch c t n) sp qs (meaning v).rest)
  unfolding exec dry_step run_branch dry_branch after_prim
  branch-dry c t n s = go (condition_at e (meaning v).rest c) s
    where
      go : (o : Option Bool) → Steps v r (run_branch o t n sp (meaning v)) → DrySteps v r (dry_branch o t n sp qs (meaning v).rest)
      go (Some true) u = record { state = u.state; effect = u.effect; reason = u.reason; next = u.next }
      go (Some false) u = record { state = u.state; effect = u.effect; reason = u.reason; next = u.next }
      go None u = record { state = u.state; effect = u.effect; reason = u.reason; next = u.next }

  pub wait-dry : (ms : ℕ) (to : Point) → to ≡ advance sp 0 → GoesOn v to r → DrySteps v r (dry_step e j (Wait ms) sp qs (meaning v).rest)
  unfolding dry_step
  wait-dry ms to h s = record { state = s.state; effect = s.effect; reason = s.reason; next = s.next ∙ ap Some h }

  pub after-dry : (ms : ℕ) (to : Point) → to ≡ advance sp 0 → GoesOn v to r → DrySteps v r (dry_step e j (After ms) sp qs (meaning v).rest)
  unfolding dry_step
  after-dry ms to h s = record { state = s.state; effect = s.effect; reason = s.reason; next = s.next ∙ ap Some h }
