-- Continuations, timers and Every leave the remembered minute as it was.
use mathlib.Core.Path.{◌≡◌, refl, sym, ◌∙◌}
use Prim.Native.Nat.{ℕ, zero, suc}
use mathlib.Core.Bool.{Bool, true, false, cond, not, ◌&&◌, false≢true}
use mathlib.Core.List.{List, [], ◌∷◌}
use Rattle.std.specs.Prelude.{Option, None, Some, Result, Ok, Err}
use lib.Dec.{leb, ltb, eqb}
use lib.ListN.{length}
use lib.IntN.{ℤ, pos, negsuc}
use Rattle.model.specs.Lists.{present}
use Rattle.model.specs.Image.{budget, group_limit, text_limit}
use Rattle.model.specs.Rows.{actions}
use Rattle.model.specs.declared.Unevaluable.{Unevaluable}
use Rattle.model.specs.declared.VarConstant.{VarConstant}
use Rattle.model.specs.declared.VarConstant.TheVariants as constant
use Rattle.model.specs.declared.Action.{Action}
use Rattle.model.specs.declared.Action.TheVariants.{Light, Recall, Apply, Cycle, Percent, HclResume, HclHold, HclEnable, HclDisable, FeedbackOn, FeedbackOff, PanelSelect, CancelHold, CatchMovement, TimerStart, TimerRestart, TimerCancel, VarSet, VarAdd, RuleEnable, RuleDisable, MqttPublish, Log, StatCount}
use Rattle.model.specs.Rules.{record_of, rule_named, conditions_of_rule, action_of}
use Rattle.model.specs.declared.Step.{Step}
use Rattle.model.specs.declared.Point.{Point}
use Rattle.model.specs.declared.Step.TheVariants.{Primitive, Wait, Branch, After, Fail}
use Rattle.model.specs.declared.Pending.{Pending}
use Rattle.model.specs.declared.VarValue.{VarValue}
use Rattle.model.specs.declared.VarValue.TheVariants.{Int, Text}
use Rattle.model.specs.declared.Effect.{Effect}
use Rattle.model.specs.State.{next_number, Env, Rest, Volatile, with_rest, bump_by, bump, cancel_timer, timer_named, var_named, strike, is_full, is_enabled, partial_outcomes, effects_emitted, suppressed_cooldown, actions_failed, activations_total, conditions_rejected, continuations_dropped, continuations_fired, continuations_scheduled}
use Rattle.model.specs.Eval.{condition_at, conditions_hold, value_at}
use Rattle.model.specs.Actions.{PrimResult, fails, run_prim, run_known, prim_light, prim_recall, prim_apply, prim_cycle, cycle_effect, level_at, selects, dims, arm_timer, var_set, prim_var_set, var_add, set_rule_bit, prim_at}
use Rattle.model.specs.declared.Job.{Job}
use Rattle.model.specs.Exec.{Scheduled, dropped, accepted, schedule, StepResult, after_prim, run_branch, exec, RunOutput, continue_run, with_step, run_steps}
use Rattle.model.specs.Flat.{step_at}
use Rattle.model.specs.Activate.{Handled, job_of, numbered, Decision, begins, suppressed, unevaluable, verdict, in_cooldown, decide, finish_wet, execute_wet, execute, decided, activate, resume}
use Rattle.model.specs.declared.Mode.TheVariants.{Auto}
use Rattle.model.specs.Wheel.{resume_all, not_due, fire_continuations, activate_if_enabled, activate_each, timers_due, every_due, fire_timers, fire_every}
use Rattle.set_back.specs.Ticks.{before_wall}

abbrev Same : Rest → Rest → Type 0
Same s s' = s'.prev_week_min ≡ s.prev_week_min

abbrev SameIn : Volatile → Volatile → Type 0
SameIn v v' = Same v.rest v'.rest

bumped : (k n : ℕ) (s : Rest) → Same s (bump_by k n s)
unfolding bump_by
bumped k n s = refl

-- AN ACTION ---------------------------------------------------------------------------------------------------------------------
Kept : Rest → PrimResult → Type 0
Kept s a = Same s a.rest

either : (s : Rest) (b : Bool) (x y : PrimResult) → Kept s x → Kept s y → Kept s (cond b x y)
either s true x y p q = p
either s false x y p q = q

one_of : (s : Rest) (b : Bool) (x y : Rest) → Same s x → Same s y → Same s (cond b x y)
one_of s true x y p q = p
one_of s false x y p q = q

module _ (e : Env) (j : Job) (s : Rest) where
  failed : (s' : Rest) → Same s s' → Kept s (fails s')
  unfolding Kept fails
  failed s' p = bumped actions_failed 1 s' ∙ p

  canceled : (name : ℕ) → Same s (cond j.dry s (cancel_timer name s))
  unfolding cancel_timer
  canceled name = one_of s j.dry s (cancel_timer name s) refl refl

  armed : (name ms : ℕ) (s' : Rest) → Same s s' → Kept s (arm_timer e j s name ms s')
  unfolding Kept arm_timer
  armed name ms s' p = either s j.dry _ _ p (either s (leb 16 (length s'.timers)) _ _ (failed s' p) p)

  assigned : (name : ℕ) (x : VarValue) → Kept s (var_set e j s name x)
  unfolding Kept var_set
  assigned name x = either s j.dry _ _ refl (either s (not (present (var_named s name)) && leb 16 (length s.vars)) _ _ (failed s refl) refl)

  added : (name : ℕ) (o : Option ℤ) (h : Option VarValue) → Kept s (var_add e j s name o h)
  added name None h = failed s refl
  added name (Some x) None = assigned name _
  added name (Some x) (Some (Int n)) = assigned name _
  added name (Some x) (Some (Text t)) = failed s refl

  lit : (t : ℕ) (h : Option ℕ) (a : Result (Option ℕ) Unevaluable) → Kept s (prim_light e j s t h a)
  unfolding Kept prim_light
  lit t h (Ok (Some v)) = refl
  lit t h (Ok None) = refl
  lit t h (Err u) = failed s refl

  recalled : (x : Option ℕ) (m t : ℕ) → Kept s (prim_recall e j s x m t)
  unfolding Kept prim_recall
  recalled None m t = failed s refl
  recalled (Some x) m t = refl

  applied : (x : Option ℕ) → Kept s (prim_apply e j s x)
  unfolding Kept prim_apply
  applied None = failed s refl
  applied (Some x) = refl

  cycled : (f n : ℕ) → Kept s (prim_cycle e j s f n)
  unfolding Kept prim_cycle cycle_effect
  cycled f n = either s (eqb n 0) _ _ (failed s refl) (one_of s j.dry s _ refl refl)

  selected : (a g : ℕ) (o : Option ℤ) → Kept s (selects e j s a g o)
  unfolding Kept
  selected a g None = failed s refl
  selected a g (Some (pos n)) = either s (leb n (group_limit e.set.image)) _ _ refl (failed s refl)
  selected a g (Some (negsuc n)) = failed s refl

  dimmed : (t : ℕ) (h o : Option ℕ) → Kept s (dims e j s t h o)
  unfolding Kept
  dimmed t h None = failed s refl
  dimmed t h (Some level) = refl

  text-or-number : (n : ℕ) (v : VarConstant) → Kept s (prim_var_set e j s n v)
  unfolding prim_var_set
  text-or-number n (constant.Text t b) = either s (ltb (text_limit e.set.image) b) _ _ (failed s refl) (assigned n _)
  text-or-number n (constant.Int x) = assigned n _

  bit-set : (r : ℕ) (on : Bool) (o : Option ℕ) → Kept s (set_rule_bit e j s r on o)
  unfolding Kept
  bit-set r on None = failed s refl
  bit-set r on (Some i) = either s j.dry _ _ refl refl

  action : (a : Action) → Kept s (run_prim e j s a)
  unfolding Kept run_prim
  action (Light t h a) = lit t h a
  action (Recall x m t) = recalled x m t
  action (Apply x) = applied x
  action (Cycle f n) = cycled f n
  action (Percent t h v) = dimmed t h (level_at (value_at e s v))
  action (HclResume t) = refl
  action (HclHold t) = refl
  action (HclEnable x) = refl
  action (HclDisable x) = refl
  action (FeedbackOn a i k) = refl
  action (FeedbackOff a i k) = refl
  action (PanelSelect a g v) = selected a g (value_at e s v)
  action (CancelHold a i k) = refl
  action (CatchMovement a i k) = refl
  action (TimerStart t ms) = either s (present (timer_named s t)) _ _ refl (armed t ms s refl)
  action (TimerRestart t ms) = armed t ms (cond j.dry s (cancel_timer t s)) (canceled t)
  action (TimerCancel t) = canceled t
  action (VarSet n v) = text-or-number n v
  action (VarAdd n v) = added n (value_at e s v) (var_named s n)
  action (RuleEnable r) = bit-set r true (rule_named e.set.image r)
  action (RuleDisable r) = bit-set r false (rule_named e.set.image r)
  action (MqttPublish t p r) = refl
  action (Log t) = refl
  action (StatCount n) = refl

  known : (o : Option Action) → Kept s (run_known e j s o)
  known None = failed s refl
  known (Some a) = action a

-- A RUN -------------------------------------------------------------------------------------------------------------------------
struck : (r : ℕ) (v : Volatile) → SameIn v (strike r v)
unfolding strike
struck r v = bumped continuations_dropped _ v.rest

module _ (e : Env) (j : Job) where
  scheduled : (b ms : ℕ) (sp : Point) (v : Volatile) → SameIn v (schedule e j b ms sp v).vol
  unfolding schedule dropped accepted
  scheduled b ms sp v = go (is_full v) _ _ (bumped continuations_dropped 1 v.rest) (bumped continuations_scheduled 1 v.rest)
    where
      go : (full : Bool) (x y : Scheduled) → SameIn v x.vol → SameIn v y.vol → SameIn v (cond full x y).vol
      go true x y p q = p
      go false x y p q = q

  after-action : (o : Option ℕ) (a : PrimResult) (to : Point) (v : Volatile) → Kept v.rest a → SameIn v (after_prim o a to v).vol
  unfolding Kept after_prim
  after-action None a to v p = p
  after-action (Some r) a to v p = struck r (with_rest a.rest v) ∙ p

  branched : (o : Option Bool) (t n : ℕ) (sp : Point) (v : Volatile) → SameIn v (run_branch o t n sp v).vol
  unfolding run_branch
  branched (Some true) t n sp v = refl
  branched (Some false) t n sp v = refl
  branched None t n sp v = after-action None (fails v.rest) _ v (failed e j v.rest v.rest refl)

  step : (b : ℕ) (sp : Point) (x : Step) (v : Volatile) → SameIn v (exec e j b sp x v).vol
  unfolding exec
  step b sp (Primitive i) v = let a = prim_at e j v.rest i in after-action a.disables a _ v (known e j v.rest (action_of (record_of e.set.image actions i)))
  step b sp (Wait ms) v = scheduled b ms _ v
  step b sp (After ms) v = scheduled b ms _ v
  step b sp (Branch c t n) v = branched (condition_at e v.rest c) t n sp v
  step b sp Fail v = after-action None (fails v.rest) _ v (failed e j v.rest v.rest refl)

  continued : (x : Step) (d : StepResult) (o : Option Point) (k : Point → Volatile → RunOutput) (v : Volatile) → SameIn v d.vol
      → ((sp : Point) (v' : Volatile) → SameIn v' (k sp v').vol) → SameIn v (continue_run x d o k).vol
  unfolding continue_run
  continued x d None k v p h = p
  continued x d (Some sp) k v p h = h sp d.vol ∙ p

  runs : (b : ℕ) (sp : Point) (v : Volatile) → SameIn v (run_steps b e j sp v).vol
  unfolding run_steps with_step
  runs zero sp v = refl
  runs (suc b) sp v = go (step_at e.set j.index sp) (λ sp' v'. runs b sp' v')
    where
      go : (o : Option Step) → ((sp' : Point) (v' : Volatile) → SameIn v' (run_steps b e j sp' v').vol)
          → SameIn v (with_step o v (λ x. let d = exec e j b sp x v in continue_run x d d.next (λ sp' v'. run_steps b e j sp' v'))).vol
      go None h = refl
      go (Some x) h = continued x (exec e j b sp x v) (exec e j b sp x v).next (λ sp' v'. run_steps b e j sp' v') v (step b sp x v) h

finishes : (effects : List Effect) (reason : ℕ) (v : Volatile) → SameIn v (finish_wet effects reason v)
unfolding finish_wet
finishes effects reason v =
    let s = bump_by effects_emitted _ v.rest in
    let p = bumped effects_emitted _ v.rest in
    one_of v.rest (eqb reason 0) s (bump partial_outcomes s) p (bumped partial_outcomes 1 s ∙ p)

-- AN ACTIVATION, A RESUMPTION -----------------------------------------------------------------------------------------------------
module _ (e : Env) where
  executes : (j : Job) (v : Volatile) → SameIn v (execute_wet e j v).vol
  unfolding execute_wet
  executes j v =
      finishes _ _ _ ∙ (runs e (numbered (next_number v.last_number) j) (budget e.set.image) _ _ ∙ bumped activations_total 1 v.rest)

  -- what a decision leaves
  abbrev Left : Rest → Decision → Type 0
  Left s (begins s') = Same s s'
  Left s (suppressed s') = Same s s'
  Left s (unevaluable s') = Same s s'

  decides : (i : ℕ) (s : Rest) → Left s (decide e i Auto s)
  unfolding decide
  decides i s = go (in_cooldown e i s) (conditions_hold e s (conditions_of_rule e.set.image i))
    where
      go : (b : Bool) (o : Option Bool) → Left s (cond b (suppressed (bump suppressed_cooldown s)) (verdict o false s))
      go true o = bumped suppressed_cooldown 1 s
      go false (Some true) = refl
      go false (Some false) = bumped conditions_rejected 1 s
      go false None = bumped partial_outcomes 1 s

  wet : (b : Bool) (j : Job) (v : Volatile) → b ≡ false → SameIn v (execute e j b v).vol
  wet true j v f = absurd (false≢true (sym f))
  wet false j v f = executes j v

  does : (d : Decision) (j : Job) (v : Volatile) → j.dry ≡ false → Left v.rest d → SameIn v (decided d e j v).vol
  does (begins s) j v f p = wet j.dry j (with_rest s v) f ∙ p
  does (suppressed s) j v f p = p
  does (unevaluable s) j v f p = p

  activates : (i kind : ℕ) (v : Volatile) → SameIn v (activate e i kind Auto v).vol
  unfolding activate job_of
  activates i kind v = does (decide e i Auto v.rest) _ v refl (decides i v.rest)

  resumes : (c : Pending) (v : Volatile) → SameIn v (resume e c v).vol
  unfolding resume
  resumes c v = finishes _ _ _ ∙ (runs e _ c.budget c.point _ ∙ bumped continuations_fired 1 v.rest)

  -- THE PARTS OF A TICK -----------------------------------------------------------------------------------------------------------
  resumes-all : (cs : List Pending) (v : Volatile) → SameIn v (resume_all e cs v).vol
  unfolding resume_all
  resumes-all [] v = refl
  resumes-all (c ∷ cs) v = resumes-all cs _ ∙ resumes c v

  if-enabled : (kind i : ℕ) (v : Volatile) → SameIn v (activate_if_enabled e kind i v).vol
  unfolding activate_if_enabled
  if-enabled kind i v = go (is_enabled v.rest i) _ (activates i kind v)
    where
      go : (b : Bool) (x : Handled) → SameIn v x.vol → SameIn v (cond b x (record { vol = v; outcomes = []; trace = [] })).vol
      go true x p = p
      go false x p = refl

  each : (kind : ℕ) (is : List ℕ) (v : Volatile) → SameIn v (activate_each e kind is v).vol
  unfolding activate_each
  each kind [] v = refl
  each kind (i ∷ is) v = each kind is _ ∙ if-enabled kind i v

  continuations : (v : Volatile) → SameIn v (fire_continuations e v).vol
  unfolding fire_continuations not_due
  continuations v = resumes-all _ _

  timers : (v : Volatile) → SameIn v (fire_timers e v).vol
  unfolding fire_timers timers_due
  timers v = each 1 _ _

  slots : (v : Volatile) → SameIn v (fire_every e v).vol
  unfolding fire_every every_due
  slots v = each 2 _ _

  pub minute-kept : (v : Volatile) → (before_wall e v).vol.rest.prev_week_min ≡ v.rest.prev_week_min
  unfolding before_wall
  minute-kept v = slots _ ∙ (timers _ ∙ continuations v)
