-- Conditions, values and actions do not read the previous week minute, and leave it as it is.
use mathlib.Core.Path.{◌≡◌, refl, ap, sym, subst}
use Prim.Native.Nat.{ℕ}
use mathlib.Core.Bool.{Bool, true, false, cond, not, ◌&&◌}
use lib.ListN.{length}
use Rattle.words.specs.Saturating.{saturating_add, max64}
use mathlib.Core.List.{List, [], ◌∷◌}
use Rattle.std.specs.Prelude.{Option, None, Some, Result, Ok, Err}
use lib.Dec.{leb, ltb, eqb}
use lib.IntN.{ℤ, pos, negsuc}
use Rattle.model.specs.Lists.{◌>>=◌, present}
use Rattle.model.specs.Image.{group_limit, text_limit}
use Rattle.model.specs.Rows.{values, bounds}
use Rattle.model.specs.declared.Reading as sort
use Rattle.model.specs.declared.Reading.TheVariants as reading
use Rattle.model.specs.Rules.{record_of, rule_named, value_of, bound_of}
use Rattle.model.specs.declared.Value.{Value}
use Rattle.model.specs.declared.Value.TheVariants.{Literal, Reading, Offset}
use Rattle.model.specs.declared.Cmp.{Cmp}
use Rattle.model.specs.declared.HclState as hcl
use Rattle.model.specs.declared.HclState.TheVariants.{Enabled, Overridden}
use Rattle.model.specs.declared.VarOperand.{VarOperand}
use Rattle.model.specs.declared.VarOperand.TheVariants as operand
use Rattle.model.specs.declared.TimeBound.{TimeBound}
use Rattle.model.specs.declared.TimeBound.TheVariants.{Clock, Solar}
use Rattle.model.specs.declared.Condition.{Condition}
use Rattle.model.specs.declared.Condition.TheVariants.{TimeInRange, DayIn, SunIs, LampIs, LampLevel, LampCct, GroupState, InputOccupancy, InputLight, HclState, DeviceOnline, RuleEnabled, LastFiredOlderThan, TimerRunning, ControllerActive, VarCompare}
use Rattle.model.specs.declared.Unevaluable.{Unevaluable}
use Rattle.model.specs.declared.VarConstant.{VarConstant}
use Rattle.model.specs.declared.VarConstant.TheVariants as constant
use Rattle.model.specs.declared.Action.{Action}
use Rattle.model.specs.declared.Action.TheVariants.{Light, Recall, Apply, Cycle, HclResume, HclHold, HclEnable, HclDisable, FeedbackOn, FeedbackOff, PanelSelect, CancelHold, CatchMovement, TimerStart, TimerRestart, TimerCancel, VarSet, VarAdd, RuleEnable, RuleDisable, MqttPublish, Log, StatCount, Percent}
use Rattle.model.specs.World.{lamp, device, hcl_target}
use Rattle.model.specs.declared.LampState.{LampState}
use Rattle.model.specs.declared.DeviceState.{DeviceState}
use Rattle.model.specs.declared.HclTargetState.{HclTargetState}
use Rattle.model.specs.declared.VarValue.{VarValue}
use Rattle.model.specs.declared.VarValue.TheVariants.{Int, Text}
use Rattle.model.specs.State.{Env, Rest, with_prev_week_min, bump_by, is_enabled, last_activation_at, cycle_pos_at, timer_named, cancel_timer, add_timer, var_named, put_var, with_vars}
use Rattle.model.specs.Eval.{sun_is_up, eval_reading, eval_value, value_at, resolve_time_bound, bound_at, level_is, compare_var, hcl_is, older_than, device_online, rule_enabled, last_fired_older, eval_condition, conditions_hold}
use Rattle.model.specs.Actions.{PrimResult, emits, no_effect, fails, run_prim, run_known, prim_light, prim_recall, prim_apply, prim_cycle, cycle_effect, selects, arm_timer, var_set, prim_var_set, var_add, set_rule_bit, level_at, dims}
use Rattle.model.specs.declared.Job.{Job}

-- CONDITIONS AND VALUES ---------------------------------------------------------------------------------------------------------
module _ (m : Option ℕ) (e : Env) (s : Rest) where
  reading-same : (r : sort.Reading) → eval_reading e (with_prev_week_min m s) r ≡ eval_reading e s r
  unfolding eval_reading sun_is_up var_named
  reading-same (reading.LampLevel a i) = refl
  reading-same (reading.LampCct a i) = refl
  reading-same (reading.LampIsOn a i) = refl
  reading-same (reading.LampLastLevel a i) = refl
  reading-same (reading.GroupAnyOn a i) = refl
  reading-same (reading.GroupAllOff a i) = refl
  reading-same (reading.GroupMemberCount a i) = refl
  reading-same (reading.InputOccupied a i k) = refl
  reading-same (reading.InputLight a i k) = refl
  reading-same (reading.InputPosition a i k) = refl
  reading-same (reading.InputLastEventAge a i k) = refl
  reading-same reading.TimeNow = refl
  reading-same reading.TimeHour = refl
  reading-same reading.TimeMinute = refl
  reading-same reading.TimeWeekday = refl
  reading-same reading.SunRise = refl
  reading-same reading.SunSet = refl
  reading-same reading.SunIsUp = refl
  reading-same (reading.Var name) = refl
  reading-same reading.EventValue = refl
  reading-same reading.EventDevice = refl
  reading-same reading.EventInstance = refl
  reading-same reading.EventOption = refl

  value_same : (v : Value) → eval_value e (with_prev_week_min m s) v ≡ eval_value e s v
  unfolding eval_value
  value_same (Literal low high) = refl
  value_same (Reading r) = reading-same r
  value_same (Offset r delta) = rw (reading-same r)

  value_at-same : (i : ℕ) → value_at e (with_prev_week_min m s) i ≡ value_at e s i
  value_at-same i = known (value_of (record_of e.set.image values i))
    where
      known : (o : Option Value) → (o >>= eval_value e (with_prev_week_min m s)) ≡ (o >>= eval_value e s)
      known None = refl
      known (Some v) = value_same v

  bound-same : (b : TimeBound) → resolve_time_bound e (with_prev_week_min m s) b ≡ resolve_time_bound e s b
  unfolding resolve_time_bound
  bound-same (Clock hour minute) = refl
  bound-same (Solar event offset) = refl

  bound_at-same : (i : ℕ) → bound_at e (with_prev_week_min m s) i ≡ bound_at e s i
  bound_at-same i = known (bound_of (record_of e.set.image bounds i))
    where
      known : (o : Option TimeBound) → (o >>= resolve_time_bound e (with_prev_week_min m s)) ≡ (o >>= resolve_time_bound e s)
      known None = refl
      known (Some b) = bound-same b

  level-same : (cmp : Option Cmp) (o : Option ℕ) (v : ℕ) → level_is e (with_prev_week_min m s) cmp o v ≡ level_is e s cmp o v
  level-same cmp None v = refl
  level-same cmp (Some level) v = rw (value_at-same v)

  lamp-level-same : (cmp : Option Cmp) (v : ℕ) (o : Option LampState)
      → (o >>= (λ l. level_is e (with_prev_week_min m s) cmp l.level v)) ≡ (o >>= (λ l. level_is e s cmp l.level v))
  lamp-level-same cmp v None = refl
  lamp-level-same cmp v (Some l) = level-same cmp l.level v

  compare_same : (o : Option VarValue) (cmp : Option Cmp) (x : VarOperand) → compare_var e (with_prev_week_min m s) o cmp x ≡ compare_var e s o cmp x
  compare_same None cmp x = refl
  compare_same (Some (Text t)) cmp (operand.Text x) = refl
  compare_same (Some (Text t)) cmp (operand.Value x) = refl
  compare_same (Some (Int n)) cmp (operand.Text x) = refl
  compare_same (Some (Int n)) cmp (operand.Value x) = rw (value_at-same x)

  hcl-same : (o : Option HclTargetState) (state : hcl.HclState) → hcl_is e (with_prev_week_min m s) o state ≡ hcl_is e s o state
  hcl-same None state = refl
  hcl-same (Some h) Enabled = refl
  hcl-same (Some h) Overridden = refl

  online-same : (o : Option DeviceState) → device_online e (with_prev_week_min m s) o ≡ device_online e s o
  online-same None = refl
  online-same (Some d) = refl

  enabled-same : (o : Option ℕ) → rule_enabled e (with_prev_week_min m s) o ≡ rule_enabled e s o
  unfolding is_enabled
  enabled-same None = refl
  enabled-same (Some i) = refl

  older-same : (o : Option ℕ) (ms : ℕ) → last_fired_older e (with_prev_week_min m s) o ms ≡ last_fired_older e s o ms
  unfolding last_fired_older last_activation_at
  older-same None ms = refl
  older-same (Some i) ms = at (last_activation_at s i)
    where
      at : (o : Option ℕ) → older_than e (with_prev_week_min m s) ms o ≡ older_than e s ms o
      at None = refl
      at (Some x) = refl

  pub condition-same : (c : Condition) → eval_condition e (with_prev_week_min m s) c ≡ eval_condition e s c
  unfolding eval_condition eval_reading sun_is_up timer_named var_named
  condition-same (TimeInRange start end) = rw (bound_at-same start, bound_at-same end)
  condition-same (DayIn days) = refl
  condition-same (SunIs up) = refl
  condition-same (LampIs a i on) = refl
  condition-same (LampLevel a i cmp v) = lamp-level-same cmp v (lamp e.world a i)
  condition-same (LampCct a i cmp v) = rw (value_at-same v)
  condition-same (GroupState a i state) = refl
  condition-same (InputOccupancy a i k occupied) = refl
  condition-same (InputLight a i k above v) = rw (value_at-same v)
  condition-same (HclState target state) = ap Some (hcl-same (hcl_target e.world target) state)
  condition-same (DeviceOnline a i) = ap Some (online-same (device e.world a i))
  condition-same (RuleEnabled rule) = ap Some (enabled-same (rule_named e.set.image rule))
  condition-same (LastFiredOlderThan rule ms) = ap Some (older-same (rule_named e.set.image rule) ms)
  condition-same (TimerRunning timer) = refl
  condition-same ControllerActive = refl
  condition-same (VarCompare name cmp x) = compare_same (var_named s name) cmp x

  pub known_condition : (o : Option Condition) → (o >>= eval_condition e (with_prev_week_min m s)) ≡ (o >>= eval_condition e s)
  known_condition None = refl
  known_condition (Some c) = condition-same c

  pub conditions-same : (cs : List (Option Condition)) → conditions_hold e (with_prev_week_min m s) cs ≡ conditions_hold e s cs
  unfolding conditions_hold
  conditions-same [] = refl
  conditions-same (None ∷ cs) = refl
  conditions-same (Some c ∷ cs) = rw (condition-same c) (rest_of (eval_condition e s c) (conditions-same cs))
    where
      rest_of : (o : Option Bool) → conditions_hold e (with_prev_week_min m s) cs ≡ conditions_hold e s cs
          → (◌>>=◌ {B = Bool} o (λ holds. elim holds [ true ↦ conditions_hold e (with_prev_week_min m s) cs | false ↦ Some false ]))
          ≡ (◌>>=◌ {B = Bool} o (λ holds. elim holds [ true ↦ conditions_hold e s cs | false ↦ Some false ]))
      rest_of None h = refl
      rest_of (Some true) h = h
      rest_of (Some false) h = refl

-- ACTIONS ---------------------------------------------------------------------------------------------------------------------
module _ (m : Option ℕ) where
  pub rest-cond : (b : Bool) (x y : Rest) → cond b (with_prev_week_min m x) (with_prev_week_min m y) ≡ with_prev_week_min m (cond b x y)
  rest-cond true x y = refl
  rest-cond false x y = refl

  -- the same but for the minute
  pub record SamePrim (a a' : PrimResult) : Type 0 where
    pub rest : a'.rest ≡ with_prev_week_min m a.rest
    pub effect : a'.effect ≡ a.effect
    pub disables : a'.disables ≡ a.disables
    pub reason : a'.reason ≡ a.reason

  either : (b : Bool) {x y x' y' : PrimResult} → SamePrim x x' → SamePrim y y' → SamePrim (cond b x y) (cond b x' y')
  either true p q = p
  either false p q = q

  none-same : (s : Rest) → SamePrim (no_effect s) (no_effect (with_prev_week_min m s))
  none-same s = record { rest = refl; effect = refl; disables = refl; reason = refl }

  emits-same : (s : Rest) (kind a b c d : ℕ) → SamePrim (emits s kind a b c d) (emits (with_prev_week_min m s) kind a b c d)
  emits-same s kind a b c d = record { rest = refl; effect = refl; disables = refl; reason = refl }

  pub fails-same : (s : Rest) → SamePrim (fails s) (fails (with_prev_week_min m s))
  unfolding fails bump_by
  fails-same s = (record { rest = refl; effect = refl; disables = refl; reason = refl })

  module _ (e : Env) (j : Job) where
    arm_same : (s₀ s : Rest) (name ms : ℕ) → SamePrim (arm_timer e j s₀ name ms s) (arm_timer e j (with_prev_week_min m s₀) name ms (with_prev_week_min m s))
    unfolding arm_timer
    arm_same s₀ s name ms = either j.dry (none-same s) (either (leb 16 (length s.timers)) (fails-same s) (none-same (add_timer name (saturating_add max64 e.world.now ms) s)))

    cancel-same : (s : Rest) (name : ℕ) → cond j.dry (with_prev_week_min m s) (cancel_timer name (with_prev_week_min m s)) ≡ with_prev_week_min m (cond j.dry s (cancel_timer name s))
    unfolding cancel_timer
    cancel-same s name = rest-cond j.dry s _

    module _ (s : Rest) where
      set_same : (name : ℕ) (x : VarValue) → SamePrim (var_set e j s name x) (var_set e j (with_prev_week_min m s) name x)
      unfolding var_set var_named
      set_same name x = either j.dry (none-same s) (either (not (present (var_named s name)) && leb 16 (length s.vars)) (fails-same s) (none-same (with_vars (put_var name x s.vars) s)))

      varset-same : (n : ℕ) (v : VarConstant) → SamePrim (prim_var_set e j s n v) (prim_var_set e j (with_prev_week_min m s) n v)
      unfolding prim_var_set
      varset-same n (constant.Text t b) = either (ltb (text_limit e.set.image) b) (fails-same s) (set_same n _)
      varset-same n (constant.Int x) = set_same n _

      add_same : (name : ℕ) (o : Option ℤ) (h : Option VarValue) → SamePrim (var_add e j s name o h) (var_add e j (with_prev_week_min m s) name o h)
      add_same name None h = fails-same s
      add_same name (Some x) None = set_same name _
      add_same name (Some x) (Some (Int n)) = set_same name _
      add_same name (Some x) (Some (Text t)) = fails-same s

      light-same : (t : ℕ) (h : Option ℕ) (a : Result (Option ℕ) Unevaluable) → SamePrim (prim_light e j s t h a) (prim_light e j (with_prev_week_min m s) t h a)
      unfolding prim_light
      light-same t h (Ok (Some v)) = record { rest = refl; effect = refl; disables = refl; reason = refl }
      light-same t h (Ok None) = record { rest = refl; effect = refl; disables = refl; reason = refl }
      light-same t h (Err u) = fails-same s

      recall-same : (x : Option ℕ) (k t : ℕ) → SamePrim (prim_recall e j s x k t) (prim_recall e j (with_prev_week_min m s) x k t)
      unfolding prim_recall
      recall-same None k t = fails-same s
      recall-same (Some x) k t = record { rest = refl; effect = refl; disables = refl; reason = refl }

      apply-same : (x : Option ℕ) → SamePrim (prim_apply e j s x) (prim_apply e j (with_prev_week_min m s) x)
      unfolding prim_apply
      apply-same None = fails-same s
      apply-same (Some x) = record { rest = refl; effect = refl; disables = refl; reason = refl }

      effect-same : (f n : ℕ) → SamePrim (cycle_effect e j s f n) (cycle_effect e j (with_prev_week_min m s) f n)
      unfolding cycle_effect cycle_pos_at
      effect-same f n = record { rest = rest-cond j.dry s _; effect = refl; disables = refl; reason = refl }

      cycle-same : (f n : ℕ) → SamePrim (prim_cycle e j s f n) (prim_cycle e j (with_prev_week_min m s) f n)
      unfolding prim_cycle
      cycle-same f n = either (eqb n 0) (fails-same s) (effect-same f n)

      selects-same : (a g : ℕ) (o : Option ℤ) → SamePrim (selects e j s a g o) (selects e j (with_prev_week_min m s) a g o)
      selects-same a g None = fails-same s
      selects-same a g (Some (pos n)) = either (leb n (group_limit e.set.image)) (record { rest = refl; effect = refl; disables = refl; reason = refl }) (fails-same s)
      selects-same a g (Some (negsuc n)) = fails-same s

      dims-same : (t : ℕ) (h o : Option ℕ) → SamePrim (dims e j s t h o) (dims e j (with_prev_week_min m s) t h o)
      dims-same t h None = fails-same s
      dims-same t h (Some level) = record { rest = refl; effect = refl; disables = refl; reason = refl }

      bit-same : (r : ℕ) (on : Bool) (o : Option ℕ) → SamePrim (set_rule_bit e j s r on o) (set_rule_bit e j (with_prev_week_min m s) r on o)
      bit-same r on None = fails-same s
      bit-same r on (Some i) = either j.dry (record { rest = refl; effect = refl; disables = refl; reason = refl }) (record { rest = refl; effect = refl; disables = refl; reason = refl })

      pub prim-same : (a : Action) → SamePrim (run_prim e j s a) (run_prim e j (with_prev_week_min m s) a)
      unfolding run_prim timer_named var_named
      prim-same (Light t h a) = light-same t h a
      prim-same (Recall x k t) = recall-same x k t
      prim-same (Apply x) = apply-same x
      prim-same (Cycle f n) = cycle-same f n
      prim-same (HclResume t) = (record { rest = refl; effect = refl; disables = refl; reason = refl })
      prim-same (HclHold t) = (record { rest = refl; effect = refl; disables = refl; reason = refl })
      prim-same (HclEnable x) = (record { rest = refl; effect = refl; disables = refl; reason = refl })
      prim-same (HclDisable x) = (record { rest = refl; effect = refl; disables = refl; reason = refl })
      prim-same (FeedbackOn a i k) = (record { rest = refl; effect = refl; disables = refl; reason = refl })
      prim-same (FeedbackOff a i k) = (record { rest = refl; effect = refl; disables = refl; reason = refl })
      prim-same (PanelSelect a g v) = rw (value_at-same m e s v) (selects-same a g (value_at e s v))
      prim-same (CancelHold a i k) = (record { rest = refl; effect = refl; disables = refl; reason = refl })
      prim-same (CatchMovement a i k) = (record { rest = refl; effect = refl; disables = refl; reason = refl })
      prim-same (TimerStart t ms) = either (present (timer_named s t)) (record { rest = refl; effect = refl; disables = refl; reason = refl }) (arm_same s s t ms)
      prim-same (TimerRestart t ms) = subst (λ r. SamePrim (arm_timer e j s t ms (cond j.dry s (cancel_timer t s))) (arm_timer e j (with_prev_week_min m s) t ms r)) (sym (cancel-same s t)) (arm_same s (cond j.dry s (cancel_timer t s)) t ms)
      prim-same (TimerCancel t) = record { rest = cancel-same s t; effect = refl; disables = refl; reason = refl }
      prim-same (VarSet n v) = varset-same n v
      prim-same (VarAdd n v) = rw (value_at-same m e s v) (add_same n (value_at e s v) (var_named s n))
      prim-same (RuleEnable r) = bit-same r true (rule_named e.set.image r)
      prim-same (RuleDisable r) = bit-same r false (rule_named e.set.image r)
      prim-same (MqttPublish t p r) = (record { rest = refl; effect = refl; disables = refl; reason = refl })
      prim-same (Log t) = (record { rest = refl; effect = refl; disables = refl; reason = refl })
      prim-same (StatCount n) = (record { rest = refl; effect = refl; disables = refl; reason = refl })
      prim-same (Percent t h v) = rw (value_at-same m e s v) (dims-same t h (level_at (value_at e s v)))

      pub known-same : (o : Option Action) → SamePrim (run_known e j s o) (run_known e j (with_prev_week_min m s) o)
      known-same None = fails-same s
      known-same (Some a) = prim-same a
