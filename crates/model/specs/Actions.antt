-- The primitive actions: `run_prim` and below, exec.rs. The effects are those of document 01, "Outcomes and effects".
use Rattle.std.specs.Prelude.{ℕ, suc, ◌+◌, ◌%◌, Bool, true, false, cond, not, ◌&&◌, leb, ltb, eqb, ℤ, pos, negsuc, length, set}
use Rattle.std.specs.Prelude.{Option, None, Some, Result, Ok, Err}
use Rattle.words.specs.Saturating.{saturating_add, max64}
use Rattle.words.specs.Signed.{signed64, bits64, saturating_add_i64}
use Rattle.curve.specs.Curve.{level_of}
use Rattle.model.specs.Lists.{or_else, present}
use Rattle.model.specs.Image.{word_at, text_limit, group_limit}
use Rattle.model.specs.Rows.{actions, pool}
use Rattle.model.specs.Rules.{record_of, rule_named, Action, Light, Recall, Apply, Cycle, HclResume, HclHold, HclEnable, HclDisable, FeedbackOn, FeedbackOff, PanelSelect, CancelHold, CatchMovement, TimerStart, TimerRestart, TimerCancel, VarSet, VarAdd, RuleEnable, RuleDisable, MqttPublish, Log, StatCount, Percent, action_of}
use Rattle.model.specs.Rules.{Unevaluable, VarConstant}
use Rattle.model.specs.declared.VarConstant.TheVariants as constant
use Rattle.model.specs.Outcome.{Effect}
use Rattle.model.specs.State.{Env, Rest, VarValue, Int, Text, actions_failed, bump, cycle_pos_at, timer_named, cancel_timer, add_timer, var_named, put_var, with_cycle_pos, with_vars, with_enabled}
use Rattle.model.specs.Eval.{value_at}
-- what a run knows of its rule: name, place in the image, hold_hcl; the trigger for the outcome; and the number of the activation, 0 for none
pub use Rattle.model.specs.declared.Job.{Job}

-- what an action did: the rest after it, its effect, the rule that it disabled, the reason that it notes
pub record PrimResult : Type 0 where
  pub rest : Rest
  pub effect : Option Effect
  pub disables : Option ℕ
  pub reason : ℕ

abbrev pub condition_unevaluable : ℕ
condition_unevaluable = 1

-- `Ok(Some(effect))`, `Ok(None)`, `Err(Unevaluable)`
abbrev pub emits : Rest → ℕ → ℕ → ℕ → ℕ → ℕ → PrimResult
emits s kind a b c d =
    record { rest = s; effect = Some (record { kind = kind; a = a; b = b; c = c; d = d }); disables = None; reason = 0 }

abbrev pub no_effect : Rest → PrimResult
no_effect s = record { rest = s; effect = None; disables = None; reason = 0 }

unfoldable pub fails : Rest → PrimResult
fails s = record { rest = bump actions_failed s; effect = None; disables = None; reason = condition_unevaluable }

-- the level of a value in parts per million, where it can be evaluated and has one
abbrev pub level_at : Option ℤ → Option ℕ
level_at None = None
level_at (Some x) = level_of x

module _ (e : Env) (j : Job) (s : Rest) where
  -- the stored answers of `light_verb` and `scene_number`; hold_hcl of a light is its own, or the rule's
  unfoldable pub prim_light : ℕ → Option ℕ → Result (Option ℕ) Unevaluable → PrimResult
  prim_light target hold (Ok (Some verb)) = emits s 0 target verb (or_else j.hold hold) 0
  prim_light target hold (Ok None) = no_effect s
  prim_light target hold (Err u) = fails s

  unfoldable pub prim_recall : Option ℕ → ℕ → ℕ → PrimResult
  prim_recall None mark target = fails s
  prim_recall (Some scene) mark target = emits s 1 scene mark target j.hold

  unfoldable pub prim_apply : Option ℕ → PrimResult
  prim_apply None = fails s
  prim_apply (Some scene) = emits s 2 scene j.hold 0 0

  -- one position for each rule, taken modulo the length of the list at hand
  unfoldable pub cycle_effect : ℕ → ℕ → PrimResult
  cycle_effect first count =
      let at = or_else 0 (cycle_pos_at s j.index) % count in
      emits (cond j.dry s (with_cycle_pos (set s.cycle_pos j.index (Some (suc at % count))) s))
      1 (word_at e.set.image pool (first + at) 0) 0 0 j.hold

  unfoldable pub prim_cycle : ℕ → ℕ → PrimResult
  prim_cycle first count = cond (eqb count 0) (fails s) (cycle_effect first count)

  -- `selected` from 0 to the group limit
  abbrev pub selects : ℕ → ℕ → Option ℤ → PrimResult
  selects adapter group None = fails s
  selects adapter group (Some (negsuc n)) = fails s
  selects adapter group (Some (pos n)) = cond (leb n (group_limit e.set.image)) (emits s 7 adapter group n 0) (fails s)

  -- a light at a level, or a value that has none
  abbrev pub dims : ℕ → Option ℕ → Option ℕ → PrimResult
  dims target hold None = fails s
  dims target hold (Some level) = emits s 12 target level (or_else j.hold hold) 0

  -- 16 timers, and 16 variables
  unfoldable pub arm_timer : ℕ → ℕ → Rest → PrimResult
  arm_timer name ms s' =
      cond j.dry (no_effect s')
      (cond (leb 16 (length s'.timers)) (fails s') (no_effect (add_timer name (saturating_add max64 e.world.now ms) s')))

  unfoldable pub var_set : ℕ → VarValue → PrimResult
  var_set name value =
      cond j.dry (no_effect s)
      (cond (not (present (var_named s name)) && leb 16 (length s.vars)) (fails s) (no_effect (with_vars (put_var name value s.vars) s)))

  -- a text of more bytes than the limit is refused, in a dry run too
  unfoldable pub prim_var_set : ℕ → VarConstant → PrimResult
  prim_var_set name (constant.Text text bytes) = cond (ltb (text_limit e.set.image) bytes) (fails s) (var_set name (Text text))
  prim_var_set name (constant.Int n) = var_set name (Int n)

  abbrev pub var_add : ℕ → Option ℤ → Option VarValue → PrimResult
  var_add name None held = fails s
  var_add name (Some step) None = var_set name (Int (bits64 step))
  var_add name (Some step) (Some (Int n)) = var_set name (Int (bits64 (saturating_add_i64 (signed64 n) step)))
  var_add name (Some step) (Some (Text t)) = fails s

  -- the bit of a rule of the set; who disables also strikes the rule's continuations
  abbrev pub set_rule_bit : ℕ → Bool → Option ℕ → PrimResult
  set_rule_bit rule on None = fails s
  set_rule_bit rule on (Some i) =
      cond j.dry (no_effect s)
      (record { rest = with_enabled (set s.enabled i on) s; effect = None; disables = cond on None (Some rule); reason = 0 })

  unfoldable pub run_prim : Action → PrimResult
  run_prim (Light target hold answer) = prim_light target hold answer
  run_prim (Recall scene mark target) = prim_recall scene mark target
  run_prim (Apply scene) = prim_apply scene
  run_prim (Cycle first count) = prim_cycle first count
  run_prim (HclResume target) = emits s 3 target 0 0 0
  run_prim (HclHold target) = emits s 4 target 0 0 0
  run_prim (HclEnable schedule) = emits s 5 schedule 1 0 0
  run_prim (HclDisable schedule) = emits s 5 schedule 0 0 0
  run_prim (FeedbackOn a i k) = emits s 6 a i k 1
  run_prim (FeedbackOff a i k) = emits s 6 a i k 0
  run_prim (PanelSelect a group v) = selects a group (value_at e s v)
  run_prim (CancelHold a i k) = emits s 8 a i k 0
  run_prim (CatchMovement a i k) = emits s 9 a i k 0
  run_prim (TimerStart name ms) = cond (present (timer_named s name)) (no_effect s) (arm_timer name ms s)
  run_prim (TimerRestart name ms) = arm_timer name ms (cond j.dry s (cancel_timer name s))
  run_prim (TimerCancel name) = no_effect (cond j.dry s (cancel_timer name s))
  run_prim (VarSet name value) = prim_var_set name value
  run_prim (VarAdd name v) = var_add name (value_at e s v) (var_named s name)
  run_prim (RuleEnable rule) = set_rule_bit rule true (rule_named e.set.image rule)
  run_prim (RuleDisable rule) = set_rule_bit rule false (rule_named e.set.image rule)
  run_prim (MqttPublish topic payload retain) = emits s 10 topic payload retain 0
  run_prim (Log t) = emits s 11 t 0 0 0
  run_prim (StatCount name) = no_effect s
  run_prim (Percent target hold v) = dims target hold (level_at (value_at e s v))

  -- a record of no kind of action fails
  abbrev pub run_known : Option Action → PrimResult
  run_known None = fails s
  run_known (Some a) = run_prim a

  -- action i of the image
  abbrev pub prim_at : ℕ → PrimResult
  prim_at i = run_known (action_of (record_of e.set.image actions i))
