-- No action, step or run notes another reason than 0, 1 and 2. Assumes nothing.
use mathlib.Core.Path.{◌≡◌, refl}
use Prim.Native.Nat.{ℕ, zero, suc}
use mathlib.Core.Bool.{Bool, true, false, cond, not, ◌&&◌}
use mathlib.Core.List.{List}
use Rattle.std.specs.Prelude.{Option, None, Some, Ok, Err}
use lib.Dec.{leb, ltb, eqb}
use lib.IntN.{ℤ, pos, negsuc}
use lib.ListN.{length}
use Rattle.model.specs.Lists.{present}
use Rattle.model.specs.Image.{text_limit, group_limit}
use Rattle.model.specs.Rules.{rule_named}
use Rattle.model.specs.Flat.{step_at}
use Rattle.model.specs.declared.VarConstant.TheVariants as constant
use Rattle.model.specs.declared.Action.{Action}
use Rattle.model.specs.declared.Action.TheVariants.{Light, Recall, Apply, Cycle, HclResume, HclHold, HclEnable, HclDisable, FeedbackOn, FeedbackOff, PanelSelect, CancelHold, CatchMovement, TimerStart, TimerRestart, TimerCancel, VarSet, VarAdd, RuleEnable, RuleDisable, MqttPublish, Log, StatCount, Percent}
use Rattle.model.specs.declared.Point.{Point}
use Rattle.model.specs.declared.Step.{Step}
use Rattle.model.specs.declared.Step.TheVariants.{Primitive, Wait, Branch, After, Fail}
use Rattle.model.specs.declared.VarValue.{VarValue}
use Rattle.model.specs.declared.VarValue.TheVariants.{Int, Text}
use Rattle.model.specs.State.{Env, Rest, Volatile, timer_named, var_named, is_full}
use Rattle.model.specs.Eval.{value_at, condition_at}
use Rattle.model.specs.Actions.{PrimResult, fails, run_prim, run_known, prim_light, prim_recall, prim_apply, prim_cycle, cycle_effect, level_at, selects, dims, arm_timer, var_set, prim_var_set, var_add, set_rule_bit}
use Rattle.model.specs.declared.Job.{Job}
use Rattle.model.specs.Exec.{RunOutput, StepResult, first_reason, schedule, dropped, accepted, after_prim, run_branch, exec, continue_run, with_step, run_steps, unpaid}
use Rattle.model.specs.Dry.{DryOutput, NextStep, next_step, dry_branch, dry_step, dry_turn, run_steps_dry, unpaid_dry}
use Rattle.ledger.proofs.ListLaws.{by}

-- one of the three
abbrev pub Known : ℕ → Type 0
Known r = leb r 2 ≡ true

first-known : (a b : ℕ) → Known a → Known b → Known (first_reason a b)
first-known a b p q = by (eqb a 0) (λ t. rw t q) (λ f. rw f p)

module _ (e : Env) (j : Job) where
  -- ACTIONS ---------------------------------------------------------------------------------------------------------------------------
  either : (b : Bool) (x y : PrimResult) → Known x.reason → Known y.reason → Known (cond b x y).reason
  either true x y p q = p
  either false x y p q = q

  failing : (s : Rest) → Known (fails s).reason
  unfolding fails
  failing s = refl

  module _ (s : Rest) where
    choose : (o : Option ℤ) (a g : ℕ) → Known (selects e j s a g o).reason
    choose None a g = failing s
    choose (Some (negsuc n)) a g = failing s
    choose (Some (pos n)) a g = either (leb n (group_limit e.set.image)) _ _ refl (failing s)

    dim : (o : Option ℕ) (t : ℕ) (d : Option ℕ) → Known (dims e j s t d o).reason
    dim None t d = failing s
    dim (Some level) t d = refl

    arm : (name ms : ℕ) (s' : Rest) → Known (arm_timer e j s name ms s').reason
    unfolding arm_timer
    arm name ms s' = either j.dry _ _ refl (either (leb 16 (length s'.timers)) _ _ (failing s') refl)

    assign : (name : ℕ) (value : VarValue) → Known (var_set e j s name value).reason
    unfolding var_set
    assign name value = either j.dry _ _ refl (either (not (present (var_named s name)) && leb 16 (length s.vars)) _ _ (failing s) refl)

    add : (step : Option ℤ) (held : Option VarValue) (name : ℕ) → Known (var_add e j s name step held).reason
    add None held name = failing s
    add (Some x) None name = assign name _
    add (Some x) (Some (Int n)) name = assign name _
    add (Some x) (Some (Text t)) name = failing s

    bit : (i : Option ℕ) (rule : ℕ) (on : Bool) → Known (set_rule_bit e j s rule on i).reason
    bit None rule on = failing s
    bit (Some i) rule on = either j.dry _ _ refl refl

    action : (x : Action) → Known (run_prim e j s x).reason
    unfolding run_prim prim_light prim_recall prim_apply prim_cycle cycle_effect prim_var_set
    action (Light t d (Ok (Some v))) = refl
    action (Light t d (Ok None)) = refl
    action (Light t d (Err u)) = failing s
    action (Recall None m t) = failing s
    action (Recall (Some c) m t) = refl
    action (Apply None) = failing s
    action (Apply (Some c)) = refl
    action (Cycle f k) = either (eqb k 0) _ _ (failing s) refl
    action (HclResume t) = refl
    action (HclHold t) = refl
    action (HclEnable t) = refl
    action (HclDisable t) = refl
    action (FeedbackOn a i k) = refl
    action (FeedbackOff a i k) = refl
    action (PanelSelect a g v) = choose (value_at e s v) a g
    action (CancelHold a i k) = refl
    action (CatchMovement a i k) = refl
    action (TimerStart n ms) = either (present (timer_named s n)) _ _ refl (arm n ms s)
    action (TimerRestart n ms) = arm n ms _
    action (TimerCancel n) = refl
    action (VarSet n (constant.Text t b)) = either (ltb (text_limit e.set.image) b) _ _ (failing s) (assign n _)
    action (VarSet n (constant.Int x)) = assign n _
    action (VarAdd n v) = add (value_at e s v) (var_named s n) n
    action (RuleEnable r) = bit (rule_named e.set.image r) r true
    action (RuleDisable r) = bit (rule_named e.set.image r) r false
    action (MqttPublish t p r) = refl
    action (Log t) = refl
    action (StatCount n) = refl
    action (Percent t d v) = dim (level_at (value_at e s v)) t d

    known : (o : Option Action) → Known (run_known e j s o).reason
    known None = failing s
    known (Some x) = action x

  -- STEPS -----------------------------------------------------------------------------------------------------------------------------
  after : (o : Option ℕ) (a : PrimResult) (to : Point) (v : Volatile) → Known a.reason → Known (after_prim o a to v).reason
  unfolding after_prim
  after None a to v p = p
  after (Some q) a to v p = p

  later : (b ms : ℕ) (sp : Point) (v : Volatile) → Known (schedule e j b ms sp v).reason
  unfolding schedule dropped accepted
  later b ms sp v = by (is_full v) (λ t. rw t refl) (λ f. rw f refl)

  branched : (o : Option Bool) (t n : ℕ) (sp : Point) (v : Volatile) → Known (run_branch o t n sp v).reason
  unfolding run_branch
  branched (Some true) t n sp v = refl
  branched (Some false) t n sp v = refl
  branched None t n sp v = after None _ _ v (failing v.rest)

  step : (b : ℕ) (sp : Point) (x : Step) (v : Volatile) → Known (exec e j b sp x v).reason
  unfolding exec
  step b sp (Primitive i) v = after _ _ _ v (known v.rest _)
  step b sp (Wait ms) v = later b ms _ v
  step b sp (After ms) v = later b ms _ v
  step b sp (Branch c t n) v = branched (condition_at e v.rest c) t n sp v
  step b sp Fail v = after None _ _ v (failing v.rest)

  -- RUNS ------------------------------------------------------------------------------------------------------------------------------
  unpaid-known : (o : Option Step) → Known (unpaid o)
  unpaid-known None = refl
  unpaid-known (Some x) = refl

  goes_on : (x : Step) (d : StepResult) (o : Option Point) (k : Point → Volatile → RunOutput) → Known d.reason
      → ((sp : Point) (v : Volatile) → Known (k sp v).reason) → Known (continue_run x d o k).reason
  unfolding continue_run
  goes_on x d None k p q = p
  goes_on x d (Some sp) k p q = first-known d.reason (k sp d.vol).reason p (q sp d.vol)

  pub run-known : (b : ℕ) (sp : Point) (v : Volatile) → Known (run_steps b e j sp v).reason
  unfolding run_steps with_step
  run-known zero sp v = unpaid-known (step_at e.set j.index sp)
  run-known (suc b) sp v = from (step_at e.set j.index sp) (run-known b)
    where
      from : (o : Option Step) → ((sp' : Point) (v' : Volatile) → Known (run_steps b e j sp' v').reason)
          → Known (with_step o v (λ x. let d = exec e j b sp x v in continue_run x d d.next (λ sp' v'. run_steps b e j sp' v'))).reason
      from None ih = refl
      from (Some x) ih = goes_on x (exec e j b sp x v) (exec e j b sp x v).next (λ sp' v'. run_steps b e j sp' v') (step b sp x v) ih

  -- DRY RUNS --------------------------------------------------------------------------------------------------------------------------
  dry-branched : (o : Option Bool) (t n : ℕ) (sp : Point) (qs : List Point) (s : Rest) → Known (dry_branch o t n sp qs s).reason
  unfolding dry_branch
  dry-branched (Some true) t n sp qs s = refl
  dry-branched (Some false) t n sp qs s = refl
  dry-branched None t n sp qs s = failing s

  dry-step : (x : Step) (sp : Point) (qs : List Point) (s : Rest) → Known (dry_step e j x sp qs s).reason
  unfolding dry_step
  dry-step (Primitive i) sp qs s = known s _
  dry-step (Wait ms) sp qs s = refl
  dry-step (After ms) sp qs s = refl
  dry-step (Branch c t n) sp qs s = dry-branched (condition_at e s c) t n sp qs s
  dry-step Fail sp qs s = failing s

  unpaid-dry : (o : Option NextStep) → Known (unpaid_dry o)
  unpaid-dry None = refl
  unpaid-dry (Some x) = refl

  turn : (o : Option NextStep) (s : Rest) (k : Point → List Point → Rest → DryOutput)
      → ((sp : Point) (qs : List Point) (t : Rest) → Known (k sp qs t).reason) → Known (dry_turn e j o s k).reason
  unfolding dry_turn
  turn None s k q = refl
  turn (Some a) s k q =
      let d = dry_step e j a.step a.point a.bodies s in
      first-known d.reason (k d.next d.bodies d.rest).reason (dry-step a.step a.point a.bodies s) (q d.next d.bodies d.rest)

  pub dry-known : (b : ℕ) (sp : Point) (qs : List Point) (s : Rest) → Known (run_steps_dry b e j sp qs s).reason
  unfolding run_steps_dry
  dry-known zero sp qs s = unpaid-dry (next_step e j sp qs)
  dry-known (suc b) sp qs s = turn (next_step e j sp qs) s (λ sp' qs' s'. run_steps_dry b e j sp' qs' s') (dry-known b)
