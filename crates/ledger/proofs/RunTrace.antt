-- The trace of a run is the run of the rule's list, its reason that run's reason, and its effects are those of its paid steps.
use mathlib.Core.Path.{◌≡◌, refl, sym, ap, subst}
use mathlib.Core.Logic.{inl, inr}
use Prim.Native.Nat.{ℕ, zero, suc, ◌≤◌, zero-le, suc-le-suc}
use mathlib.Core.Bool.{Bool, true, false, cond, not, ◌&&◌}
use mathlib.Core.List.{[], ◌∷◌, ◌++◌, append-nil}
use Rattle.std.specs.Prelude.{Option, None, Some, Result, Ok, Err}
use lib.Dec.{leb, ltb, eqb}
use lib.IntN.{ℤ, pos, negsuc}
use lib.ListN.{length}
use Rattle.model.specs.Lists.{to_list, present}
use Rattle.model.specs.Image.{group_limit, text_limit}
use Rattle.model.specs.Rows.{actions}
use Rattle.model.specs.declared.Unevaluable.{Unevaluable}
use Rattle.model.specs.declared.VarConstant.{VarConstant}
use Rattle.model.specs.declared.VarConstant.TheVariants as constant
use Rattle.model.specs.declared.Action.{Action}
use Rattle.model.specs.declared.Action.TheVariants.{Light, Recall, Apply, Cycle, HclResume, HclHold, HclEnable, HclDisable, FeedbackOn, FeedbackOff, PanelSelect, CancelHold, CatchMovement, TimerStart, TimerRestart, TimerCancel, VarSet, VarAdd, RuleEnable, RuleDisable, MqttPublish, Log, StatCount, Percent}
use Rattle.model.specs.Rules.{record_of, rule_named, action_of}
use Rattle.model.specs.declared.Step.{Step}
use Rattle.model.specs.declared.Point.{Point}
use Rattle.model.specs.declared.Step.TheVariants.{Primitive, Wait, Branch, After, Fail}
use Rattle.model.specs.Outcome.{Report, plain, disables, defers, paid}
use Rattle.model.specs.declared.VarValue.{VarValue}
use Rattle.model.specs.declared.VarValue.TheVariants.{Int, Text}
use Rattle.model.specs.State.{Env, Rest, Volatile, RuleSet, is_full, cancel_timer, timer_named, var_named}
use Rattle.model.specs.Flat.{step_at}
use Rattle.model.specs.Eval.{condition_at, value_at}
use Rattle.model.specs.Actions.{PrimResult, no_effect, fails, run_prim, run_known, prim_at, prim_light, prim_recall, prim_apply, prim_cycle, cycle_effect, level_at, selects, dims, arm_timer, var_set, prim_var_set, var_add, set_rule_bit}
use Rattle.model.specs.declared.Job.{Job}
use Rattle.model.specs.Exec.{dropped, accepted, schedule, StepResult, after_prim, run_branch, exec, RunOutput, unpaid, continue_run, with_step, run_steps, advance, body_start}
use Rattle.ledger.specs.Trace.{effects_in, report_of, known_report, MayFail, reason_if, RunOf, ended, exhausted, waits, continues}
use Rattle.ledger.proofs.ListLaws.{by}

-- A RUN'S EFFECTS ARE THOSE OF ITS PAID STEPS, AND THESE ARE NO MORE THAN ITS BUDGET ---------------------------------------------
pub record RunEffects (b : ℕ) (x : RunOutput) : Type 0 where
  pub effects : x.effects ≡ effects_in x.trace
  pub paid : length x.trace ≤ b

continue-run : (b : ℕ) (y : Step) (d : StepResult) (o : Option Point) (K : Point → Volatile → RunOutput) → ((sp : Point) (v : Volatile) → RunEffects b (K sp v)) → RunEffects (suc b) (continue_run y d o K)
unfolding continue_run
continue-run b y d None K ih = record { effects = sym (append-nil (to_list d.effect)); paid = suc-le-suc zero-le }
continue-run b y d (Some sp) K ih =
    let i = ih sp d.vol in
    record { effects = ap (λ xs. to_list d.effect ++ xs) i.effects; paid = suc-le-suc i.paid }

with-step : (b : ℕ) (e : Env) (j : Job) (sp : Point) (v : Volatile) → ((sp' : Point) (v' : Volatile) → RunEffects b (run_steps b e j sp' v')) → (o : Option Step)
    → RunEffects (suc b) (with_step o v (λ x. let d = exec e j b sp x v in continue_run x d d.next (λ sp' v'. run_steps b e j sp' v')))
unfolding with_step
with-step b e j sp v ih None = record { effects = refl; paid = zero-le }
with-step b e j sp v ih (Some x) = continue-run b x (exec e j b sp x v) (exec e j b sp x v).next _ ih

pub run-effects : (b : ℕ) (e : Env) (j : Job) (sp : Point) (v : Volatile) → RunEffects b (run_steps b e j sp v)
unfolding run_steps
run-effects zero e j sp v = record { effects = refl; paid = zero-le }
run-effects (suc b) e j sp v = with-step b e j sp v (λ sp' v'. run-effects b e j sp' v') (step_at e.set j.index sp)

-- WHAT AN ACTION SAYS --------------------------------------------------------------------------------------------------------------
abbrev disable_report : Option ℕ → Report
disable_report None = plain
disable_report (Some q) = disables q

-- it disables no rule, and notes reason 1 at the most
NoDisable : PrimResult → Type 0
NoDisable a = (disable_report a.disables ≡ plain) × MayFail a.reason

either : (b : Bool) (x y : PrimResult) → NoDisable x → NoDisable y → NoDisable (cond b x y)
either true x y p q = p
either false x y p q = q

module _ (e : Env) (j : Job) (s : Rest) where
  fails-no-disable : (s' : Rest) → NoDisable (fails s')
  unfolding NoDisable fails
  fails-no-disable s' = (refl, inr refl)

  no-disable-same : (s' : Rest) → NoDisable (no_effect s')
  unfolding NoDisable
  no-disable-same s' = (refl, inl refl)

  no-disable-arm : (name ms : ℕ) (s' : Rest) → NoDisable (arm_timer e j s name ms s')
  unfolding arm_timer
  no-disable-arm name ms s' =
      either j.dry _ _ (no-disable-same _) (either (leb 16 (length s'.timers)) _ _ (fails-no-disable _) (no-disable-same _))

  no-disable-set : (name : ℕ) (x : VarValue) → NoDisable (var_set e j s name x)
  unfolding var_set
  no-disable-set name x =
      either j.dry _ _ (no-disable-same _)
      (either (not (present (var_named s name)) && leb 16 (length s.vars)) _ _ (fails-no-disable _) (no-disable-same _))

  no-disable-add : (name : ℕ) (o : Option ℤ) (h : Option VarValue) → NoDisable (var_add e j s name o h)
  no-disable-add name None h = fails-no-disable s
  no-disable-add name (Some x) None = no-disable-set name _
  no-disable-add name (Some x) (Some (Int n)) = no-disable-set name _
  no-disable-add name (Some x) (Some (Text t)) = fails-no-disable s

  no-disable-light : (t : ℕ) (h : Option ℕ) (a : Result (Option ℕ) Unevaluable) → NoDisable (prim_light e j s t h a)
  unfolding NoDisable prim_light
  no-disable-light t h (Ok (Some v)) = (refl, inl refl)
  no-disable-light t h (Ok None) = no-disable-same s
  no-disable-light t h (Err u) = fails-no-disable s

  no-disable-recall : (x : Option ℕ) (m t : ℕ) → NoDisable (prim_recall e j s x m t)
  unfolding NoDisable prim_recall
  no-disable-recall None m t = fails-no-disable _
  no-disable-recall (Some x) m t = (refl, inl refl)

  no-disable-apply : (x : Option ℕ) → NoDisable (prim_apply e j s x)
  unfolding NoDisable prim_apply
  no-disable-apply None = fails-no-disable _
  no-disable-apply (Some x) = (refl, inl refl)

  no-disable-selects : (a g : ℕ) (o : Option ℤ) → NoDisable (selects e j s a g o)
  unfolding NoDisable
  no-disable-selects a g None = fails-no-disable s
  no-disable-selects a g (Some (pos n)) = either (leb n (group_limit e.set.image)) _ _ (refl, inl refl) (fails-no-disable _)
  no-disable-selects a g (Some (negsuc n)) = fails-no-disable s

  no-disable-dims : (t : ℕ) (h o : Option ℕ) → NoDisable (dims e j s t h o)
  unfolding NoDisable
  no-disable-dims t h None = fails-no-disable s
  no-disable-dims t h (Some level) = (refl, inl refl)

  no-disable-varset : (n : ℕ) (v : VarConstant) → NoDisable (prim_var_set e j s n v)
  unfolding prim_var_set
  no-disable-varset n (constant.Text t b) = either (ltb (text_limit e.set.image) b) _ _ (fails-no-disable _) (no-disable-set n _)
  no-disable-varset n (constant.Int x) = no-disable-set n _

  no-disable-cycle : (f n : ℕ) → NoDisable (prim_cycle e j s f n)
  unfolding NoDisable prim_cycle cycle_effect
  no-disable-cycle f n = either (eqb n 0) _ _ (fails-no-disable s) (refl, inl refl)

  -- who enables or disables a rule, wet
  enable-reports : (r : ℕ) (o : Option ℕ) → NoDisable (set_rule_bit e j s r true o)
  unfolding NoDisable
  enable-reports r None = fails-no-disable s
  enable-reports r (Some i) = either j.dry _ _ (refl, inl refl) (refl, inl refl)

  disable-reports : j.dry ≡ false → (r : ℕ) (o : Option ℕ)
      → (disable_report (set_rule_bit e j s r false o).disables ≡ cond (present o) (disables r) plain) × MayFail (set_rule_bit e j s r false o).reason
  unfolding fails
  disable-reports wet r None = (refl, inr refl)
  disable-reports wet r (Some i) = rw wet (refl, inl refl)

  action-reports : j.dry ≡ false → (a : Action) → (disable_report (run_prim e j s a).disables ≡ report_of e.set.image a) × MayFail (run_prim e j s a).reason
  unfolding NoDisable run_prim
  action-reports wet (Light t h a) = no-disable-light t h a
  action-reports wet (Recall x m t) = no-disable-recall x m t
  action-reports wet (Apply x) = no-disable-apply x
  action-reports wet (Cycle f n) = no-disable-cycle f n
  action-reports wet (HclResume t) = (refl, inl refl)
  action-reports wet (HclHold t) = (refl, inl refl)
  action-reports wet (HclEnable x) = (refl, inl refl)
  action-reports wet (HclDisable x) = (refl, inl refl)
  action-reports wet (FeedbackOn a i k) = (refl, inl refl)
  action-reports wet (FeedbackOff a i k) = (refl, inl refl)
  action-reports wet (PanelSelect a g v) = no-disable-selects a g (value_at e s v)
  action-reports wet (CancelHold a i k) = (refl, inl refl)
  action-reports wet (CatchMovement a i k) = (refl, inl refl)
  action-reports wet (TimerStart t ms) = either (present (timer_named s t)) _ _ (refl, inl refl) (no-disable-arm t ms s)
  action-reports wet (TimerRestart t ms) = no-disable-arm t ms (cond j.dry s (cancel_timer t s))
  action-reports wet (TimerCancel t) = (refl, inl refl)
  action-reports wet (VarSet n v) = no-disable-varset n v
  action-reports wet (VarAdd n v) = no-disable-add n (value_at e s v) (var_named s n)
  action-reports wet (RuleEnable r) = enable-reports r (rule_named e.set.image r)
  action-reports wet (RuleDisable r) = disable-reports wet r (rule_named e.set.image r)
  action-reports wet (MqttPublish t p r) = (refl, inl refl)
  action-reports wet (Log t) = (refl, inl refl)
  action-reports wet (StatCount n) = (refl, inl refl)
  action-reports wet (Percent t h v) = no-disable-dims t h (level_at (value_at e s v))

  known-reports : j.dry ≡ false → (o : Option Action) → (disable_report (run_known e j s o).disables ≡ known_report e.set.image o) × MayFail (run_known e j s o).reason
  unfolding NoDisable
  known-reports wet None = fails-no-disable s
  known-reports wet (Some a) = action-reports wet a

-- A WAIT OR AN AFTER NOTES REASON 2 IF IT IS DROPPED ------------------------------------------------------------------------------------
schedule-reason : (e : Env) (j : Job) (b ms : ℕ) (sp : Point) (v : Volatile) → (schedule e j b ms sp v).reason ≡ reason_if (schedule e j b ms sp v).is_dropped
unfolding schedule dropped accepted
schedule-reason e j b ms sp v = by (is_full v) (λ t. rw t) (λ f. rw f)

waits-noting : (set : RuleSet) (i b ms : ℕ) (sp : Point) (d : Bool) (q : ℕ) → q ≡ reason_if d → step_at set i sp ≡ Some (Wait ms)
    → RunOf set i (suc b) sp (paid (Wait ms) (defers d ms (advance sp 0)) None ∷ []) q
waits-noting set i b ms sp d q e here = subst (λ r. RunOf set i (suc b) sp (paid (Wait ms) (defers d ms (advance sp 0)) None ∷ []) r) (sym e) (waits {d = d} here)

-- A WET RUN'S TRACE AND REASON ARE THE RUN OF THE RULE'S LIST -----------------------------------------------------------------------------
-- a run's output as such a run, with a budget, from a point on
abbrev pub Walks : Env → Job → ℕ → Point → RunOutput → Type 0
Walks e j b sp x = RunOf e.set j.index b sp x.trace x.reason

module _ (e : Env) (j : Job) (wet : j.dry ≡ false) (b : ℕ) (sp : Point) (v : Volatile) (K : Point → Volatile → RunOutput)
    (ih : (to : Point) (w : Volatile) → Walks e j b to (K to w)) where
  acted-trace : (i : ℕ) (a : PrimResult) (q : Option ℕ) → (disable_report q ≡ known_report e.set.image (action_of (record_of e.set.image actions i))) × MayFail a.reason
      → step_at e.set j.index sp ≡ Some (Primitive i)
      → Walks e j (suc b) sp (continue_run (Primitive i) (after_prim q a (advance sp 0) v) (after_prim q a (advance sp 0) v).next K)
  unfolding after_prim continue_run
  acted-trace i a None h here = continues a.reason here h refl (ih _ _)
  acted-trace i a (Some q) h here = continues a.reason here h refl (ih _ _)

  branched-trace : (c t n : ℕ) (x : Option Bool) → step_at e.set j.index sp ≡ Some (Branch c t n)
      → Walks e j (suc b) sp (continue_run (Branch c t n) (run_branch x t n sp v) (run_branch x t n sp v).next K)
  unfolding run_branch after_prim continue_run fails
  branched-trace c t n (Some true) here = continues 0 here (refl, refl, inl refl) (inl refl) (ih _ _)
  branched-trace c t n (Some false) here = continues 0 here (refl, refl, inl refl) (inr (inl refl)) (ih _ _)
  branched-trace c t n None here = continues 1 here (refl, refl, inr refl) (inr (inr refl)) (ih _ _)

  exec-trace : (x : Step) → step_at e.set j.index sp ≡ Some x → Walks e j (suc b) sp (continue_run x (exec e j b sp x v) (exec e j b sp x v).next K)
  unfolding exec after_prim continue_run fails
  exec-trace (Primitive i) here =
      acted-trace i (prim_at e j v.rest i) (prim_at e j v.rest i).disables (known-reports e j v.rest wet (action_of (record_of e.set.image actions i))) here
  exec-trace (Wait ms) here =
      let x = schedule e j b ms (advance sp 0) v in
      waits-noting e.set j.index b ms sp x.is_dropped x.reason (schedule-reason e j b ms (advance sp 0) v) here
  exec-trace (After ms) here =
      let x = schedule e j b ms (body_start sp) v in
      continues x.reason here (x.is_dropped, refl, refl, schedule-reason e j b ms (body_start sp) v) refl (ih _ _)
  exec-trace (Branch c t n) here = branched-trace c t n (condition_at e v.rest c) here
  exec-trace Fail here = continues 1 here (refl, refl, refl) refl (ih _ _)

  with-step-trace : (o : Option Step) → step_at e.set j.index sp ≡ o → Walks e j (suc b) sp (with_step o v (λ x. let d = exec e j b sp x v in continue_run x d d.next K))
  unfolding with_step
  with-step-trace None here = ended here
  with-step-trace (Some x) here = exec-trace x here

-- at budget 0 a step that is left notes reason 2
exhausted-trace : (set : RuleSet) (i : ℕ) (sp : Point) (o : Option Step) → step_at set i sp ≡ o → RunOf set i 0 sp [] (unpaid o)
exhausted-trace set i sp None here = ended here
exhausted-trace set i sp (Some x) here = exhausted here

pub run-trace : (b : ℕ) (e : Env) (j : Job) → j.dry ≡ false → (sp : Point) (v : Volatile) → Walks e j b sp (run_steps b e j sp v)
unfolding run_steps
run-trace zero e j wet sp v = exhausted-trace e.set j.index sp (step_at e.set j.index sp) refl
run-trace (suc b) e j wet sp v =
    with-step-trace e j wet b sp v (λ sp' v'. run_steps b e j sp' v') (λ sp' v'. run-trace b e j wet sp' v') (step_at e.set j.index sp) refl
