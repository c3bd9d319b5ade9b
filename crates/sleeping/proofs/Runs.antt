-- Runs, wet and dry, and activations do not read the previous week minute, and leave it as it is.
use mathlib.Core.Path.{◌≡◌, refl, ap, ap₂, sym, subst, ◌∙◌}
use Prim.Native.Nat.{ℕ, zero, suc, ◌+◌}
use mathlib.Core.Bool.{Bool, true, false, cond, ◌&&◌}
use mathlib.Core.List.{List, [], ◌∷◌, ◌++◌}
use Rattle.std.specs.Prelude.{Option, None, Some}
use lib.Dec.{leb, eqb}
use lib.ListN.{length, set}
use Rattle.model.specs.Lists.{to_list}
use Rattle.model.specs.Image.{budget}
use Rattle.model.specs.Rows.{actions, conditions}
use Rattle.model.specs.Rules.{record_of, action_of, condition_of, name_of, conditions_of_rule}
use Rattle.model.specs.declared.Step.{Step}
use Rattle.model.specs.declared.Point.{Point}
use Rattle.model.specs.declared.Step.TheVariants.{Primitive, Wait, Branch, After, Fail}
use Rattle.model.specs.declared.Effect.{Effect}
use Rattle.model.specs.declared.Pending.{Pending}
use Rattle.model.specs.Outcome.{Item, started, resumed, paid, defers}
use Rattle.model.specs.State.{Env, Rest, Volatile, with_rest, next_number, with_prev_week_min, with_last_activation, bump, bump_by, is_full, strike, last_activation_at, activations_total, activations_dry, continuations_fired}
use Rattle.model.specs.Flat.{step_at}
use Rattle.model.specs.Steps.{start}
use Rattle.model.specs.Actions.{PrimResult, prim_at}
use Rattle.model.specs.declared.Job.{Job}
use Rattle.model.specs.Eval.{condition_at, conditions_hold}
use Rattle.model.specs.Exec.{advance, body_start, first_reason, Scheduled, dropped, accepted, schedule, StepResult, after_prim, run_branch, exec, RunOutput, continue_run, with_step, run_steps}
use Rattle.model.specs.Dry.{NextStep, next_step, DryStepResult, dry_branch, dry_step, DryOutput, dry_turn, run_steps_dry}
use Rattle.model.specs.Activate.{is_auto, is_dry, Handled, no_outcome, and_then, outcome, job_of, numbered, with_number, in_cooldown, Decision, begins, suppressed, unevaluable, verdict, decide, finish_wet, finished, execute_wet, execute_dry, execute, decided, activate, resume}
use Rattle.model.specs.declared.Mode.{Mode}
use Rattle.sleeping.specs.Sleeping.{with_minute}
use Rattle.sleeping.proofs.Minute.{known_condition, conditions-same, rest-cond, SamePrim, fails-same, known-same}

module _ (m : Option ℕ) where
  -- A STEP ----------------------------------------------------------------------------------------------------------------------
  record SameScheduled (x x' : Scheduled) : Type 0 where
    vol : x'.vol ≡ with_minute m x.vol
    reason : x'.reason ≡ x.reason
    is_dropped : x'.is_dropped ≡ x.is_dropped

  record SameStep (d d' : StepResult) : Type 0 where
    vol : d'.vol ≡ with_minute m d.vol
    report : d'.report ≡ d.report
    effect : d'.effect ≡ d.effect
    reason : d'.reason ≡ d.reason
    next : d'.next ≡ d.next

  pub strike-same : (q : ℕ) (v : Volatile) → strike q (with_minute m v) ≡ with_minute m (strike q v)
  unfolding strike bump_by
  strike-same q v = refl

  schedule-same : (e : Env) (j : Job) (b ms : ℕ) (sp : Point) (v : Volatile) → SameScheduled (schedule e j b ms sp v) (schedule e j b ms sp (with_minute m v))
  unfolding schedule is_full dropped accepted bump_by
  schedule-same e j b ms sp v = full (leb 32 (length v.pending))
    where
      full : (y : Bool) → SameScheduled (cond y (dropped v) (accepted e j b ms sp v)) (cond y (dropped (with_minute m v)) (accepted e j b ms sp (with_minute m v)))
      full true = record { vol = refl; reason = refl; is_dropped = refl }
      full false = record { vol = refl; reason = refl; is_dropped = refl }

  after_same : (o : Option ℕ) (a a' : PrimResult) (to : Point) (v : Volatile) → SamePrim m a a' → SameStep (after_prim o a to v) (after_prim o a' to (with_minute m v))
  unfolding after_prim
  after_same None a a' to v h = record { vol = ap (λ r. with_rest r v) h.rest; report = refl; effect = h.effect; reason = h.reason; next = refl }
  after_same (Some q) a a' to v h =
      record { vol = ap (λ r. strike q (with_rest r v)) h.rest ∙ strike-same q (with_rest a.rest v); report = refl; effect = h.effect; reason = h.reason; next = refl }

  branch_same : (o : Option Bool) (t n : ℕ) (sp : Point) (v : Volatile) → SameStep (run_branch o t n sp v) (run_branch o t n sp (with_minute m v))
  unfolding run_branch
  branch_same (Some true) t n sp v = record { vol = refl; report = refl; effect = refl; reason = refl; next = refl }
  branch_same (Some false) t n sp v = record { vol = refl; report = refl; effect = refl; reason = refl; next = refl }
  branch_same None t n sp v = after_same None _ _ (advance sp (t + n)) v (fails-same m v.rest)

  exec-same : (e : Env) (j : Job) (b : ℕ) (sp : Point) (x : Step) (v : Volatile) → SameStep (exec e j b sp x v) (exec e j b sp x (with_minute m v))
  unfolding exec
  exec-same e j b sp (Primitive i) v =
      let h = known-same m e j v.rest (action_of (record_of e.set.image actions i)) in
      subst (λ o. SameStep (after_prim (prim_at e j v.rest i).disables (prim_at e j v.rest i) (advance sp 0) v) (after_prim o (prim_at e j (with_prev_week_min m v.rest) i) (advance sp 0) (with_minute m v)))
      (sym h.disables)
      (after_same (prim_at e j v.rest i).disables _ _ (advance sp 0) v h)
  exec-same e j b sp (Wait ms) v =
      let h = schedule-same e j b ms (advance sp 0) v in record { vol = h.vol; report = ap (λ d. defers d ms (advance sp 0)) h.is_dropped; effect = refl; reason = h.reason; next = refl }
  exec-same e j b sp (After ms) v =
      let h = schedule-same e j b ms (body_start sp) v in record { vol = h.vol; report = ap (λ d. defers d ms (body_start sp)) h.is_dropped; effect = refl; reason = h.reason; next = refl }
  exec-same e j b sp (Branch c t n) v =
      subst (λ o. SameStep (run_branch (condition_at e v.rest c) t n sp v) (run_branch o t n sp (with_minute m v)))
      (sym (known_condition m e v.rest (condition_of (record_of e.set.image conditions c))))
      (branch_same (condition_at e v.rest c) t n sp v)
  exec-same e j b sp Fail v = after_same None _ _ (advance sp 0) v (fails-same m v.rest)

  -- A RUN, WET --------------------------------------------------------------------------------------------------------------------
  record SameRun (r r' : RunOutput) : Type 0 where
    vol : r'.vol ≡ with_minute m r.vol
    effects : r'.effects ≡ r.effects
    reason : r'.reason ≡ r.reason
    trace : r'.trace ≡ r.trace

  continue-same : (x : Step) (d d' : StepResult) (o : Option Point) (k : Point → Volatile → RunOutput) → SameStep d d'
      → ((sp : Point) (v : Volatile) → SameRun (k sp v) (k sp (with_minute m v)))
      → SameRun (continue_run x d o k) (continue_run x d' o k)
  unfolding continue_run
  continue-same x d d' None k h f =
      record { vol = h.vol; effects = ap to_list h.effect; reason = h.reason; trace = ap₂ (λ r g. paid x r g ∷ []) h.report h.effect }
  continue-same x d d' (Some sp) k h f =
      let r = subst (λ v. SameRun (k sp d.vol) (k sp v)) (sym h.vol) (f sp d.vol) in
      record {
        vol = r.vol;
        effects = ap₂ (λ g es. to_list g ++ es) h.effect r.effects;
        reason = ap₂ first_reason h.reason r.reason;
        trace = ap₂ ◌∷◌ (ap₂ (λ p g. paid x p g) h.report h.effect) r.trace;
      }

  run-same : (b : ℕ) (e : Env) (j : Job) (sp : Point) (v : Volatile) → SameRun (run_steps b e j sp v) (run_steps b e j sp (with_minute m v))
  unfolding run_steps with_step
  run-same zero e j sp v = record { vol = refl; effects = refl; reason = refl; trace = refl }
  run-same (suc b) e j sp v = at (step_at e.set j.index sp) (λ sp' v'. run-same b e j sp' v')
    where
      at : (o : Option Step) → ((sp' : Point) (v' : Volatile) → SameRun (run_steps b e j sp' v') (run_steps b e j sp' (with_minute m v')))
          → SameRun (with_step o v (λ x. let d = exec e j b sp x v in continue_run x d d.next (λ sp' v'. run_steps b e j sp' v')))
          (with_step o (with_minute m v) (λ x. let d = exec e j b sp x (with_minute m v) in continue_run x d d.next (λ sp' v'. run_steps b e j sp' v')))
      at None f = record { vol = refl; effects = refl; reason = refl; trace = refl }
      at (Some x) f =
          let h = exec-same e j b sp x v in
          subst (λ o. SameRun (continue_run x (exec e j b sp x v) (exec e j b sp x v).next (λ sp' v'. run_steps b e j sp' v')) (continue_run x (exec e j b sp x (with_minute m v)) o (λ sp' v'. run_steps b e j sp' v')))
          (sym h.next)
          (continue-same x _ _ (exec e j b sp x v).next _ h f)

  -- A RUN, DRY --------------------------------------------------------------------------------------------------------------------
  record SameDryStep (d d' : DryStepResult) : Type 0 where
    rest : d'.rest ≡ with_prev_week_min m d.rest
    report : d'.report ≡ d.report
    effect : d'.effect ≡ d.effect
    reason : d'.reason ≡ d.reason
    next : d'.next ≡ d.next
    bodies : d'.bodies ≡ d.bodies

  dry-branch-same : (o : Option Bool) (t n : ℕ) (sp : Point) (qs : List Point) (s : Rest) → SameDryStep (dry_branch o t n sp qs s) (dry_branch o t n sp qs (with_prev_week_min m s))
  unfolding dry_branch
  dry-branch-same (Some true) t n sp qs s = record { rest = refl; report = refl; effect = refl; reason = refl; next = refl; bodies = refl }
  dry-branch-same (Some false) t n sp qs s = record { rest = refl; report = refl; effect = refl; reason = refl; next = refl; bodies = refl }
  dry-branch-same None t n sp qs s =
      let h = fails-same m s in record { rest = h.rest; report = refl; effect = h.effect; reason = h.reason; next = refl; bodies = refl }

  dry-step-same : (e : Env) (j : Job) (x : Step) (sp : Point) (qs : List Point) (s : Rest) → SameDryStep (dry_step e j x sp qs s) (dry_step e j x sp qs (with_prev_week_min m s))
  unfolding dry_step
  dry-step-same e j (Primitive i) sp qs s =
      let h = known-same m e j s (action_of (record_of e.set.image actions i)) in
      record { rest = h.rest; report = refl; effect = h.effect; reason = h.reason; next = refl; bodies = refl }
  dry-step-same e j (Wait ms) sp qs s = record { rest = refl; report = refl; effect = refl; reason = refl; next = refl; bodies = refl }
  dry-step-same e j (After ms) sp qs s = record { rest = refl; report = refl; effect = refl; reason = refl; next = refl; bodies = refl }
  dry-step-same e j (Branch c t n) sp qs s =
      subst (λ o. SameDryStep (dry_branch (condition_at e s c) t n sp qs s) (dry_branch o t n sp qs (with_prev_week_min m s)))
      (sym (known_condition m e s (condition_of (record_of e.set.image conditions c))))
      (dry-branch-same (condition_at e s c) t n sp qs s)
  dry-step-same e j Fail sp qs s =
      let h = fails-same m s in record { rest = h.rest; report = refl; effect = h.effect; reason = h.reason; next = refl; bodies = refl }

  record SameDryRun (r r' : DryOutput) : Type 0 where
    rest : r'.rest ≡ with_prev_week_min m r.rest
    effects : r'.effects ≡ r.effects
    reason : r'.reason ≡ r.reason
    trace : r'.trace ≡ r.trace

  turn-same : (e : Env) (j : Job) (o : Option NextStep) (s : Rest) (k : Point → List Point → Rest → DryOutput)
      → ((sp : Point) (qs : List Point) (s' : Rest) → SameDryRun (k sp qs s') (k sp qs (with_prev_week_min m s')))
      → SameDryRun (dry_turn e j o s k) (dry_turn e j o (with_prev_week_min m s) k)
  unfolding dry_turn
  turn-same e j None s k f = record { rest = refl; effects = refl; reason = refl; trace = refl }
  turn-same e j (Some a) s k f =
      let d = dry_step e j a.step a.point a.bodies s in
      let d' = dry_step e j a.step a.point a.bodies (with_prev_week_min m s) in
      let h = dry-step-same e j a.step a.point a.bodies s in
      let r : SameDryRun (k d.next d.bodies d.rest) (k d'.next d'.bodies d'.rest) = rw (h.next, h.bodies, h.rest) (f d.next d.bodies d.rest) in
      record {
        rest = r.rest;
        effects = ap₂ (λ g es. to_list g ++ es) h.effect r.effects;
        reason = ap₂ first_reason h.reason r.reason;
        trace = ap₂ ◌∷◌ (ap₂ (λ p g. paid a.step p g) h.report h.effect) r.trace;
      }

  dry-run-same : (b : ℕ) (e : Env) (j : Job) (sp : Point) (qs : List Point) (s : Rest) → SameDryRun (run_steps_dry b e j sp qs s) (run_steps_dry b e j sp qs (with_prev_week_min m s))
  unfolding run_steps_dry
  dry-run-same zero e j sp qs s = record { rest = refl; effects = refl; reason = refl; trace = refl }
  dry-run-same (suc b) e j sp qs s = turn-same e j (next_step e j sp qs) s _ (λ sp' qs' s'. dry-run-same b e j sp' qs' s')

  -- AN ACTIVATION -----------------------------------------------------------------------------------------------------------------
  pub record SameHandled (x x' : Handled) : Type 0 where
    pub vol : x'.vol ≡ with_minute m x.vol
    pub outcomes : x'.outcomes ≡ x.outcomes
    pub trace : x'.trace ≡ x.trace

  pub silent-same : (v : Volatile) → SameHandled (no_outcome v) (no_outcome (with_minute m v))
  silent-same v = record { vol = refl; outcomes = refl; trace = refl }

  pub then_same : {x x' : Handled} (k : Volatile → Handled) → SameHandled x x' → ((v : Volatile) → SameHandled (k v) (k (with_minute m v))) → SameHandled (and_then x k) (and_then x' k)
  then_same {x} {x'} k h f =
      let y = subst (λ v. SameHandled (k x.vol) (k v)) (sym h.vol) (f x.vol) in
      record { vol = y.vol; outcomes = ap₂ ◌++◌ h.outcomes y.outcomes; trace = ap₂ ◌++◌ h.trace y.trace }

  finish-same : (es : List Effect) (n : ℕ) (v : Volatile) → finish_wet es n (with_minute m v) ≡ with_minute m (finish_wet es n v)
  unfolding finish_wet bump_by
  finish-same es n v = ap (λ r. with_rest r v) (rest-cond m (eqb n 0) _ _)

  finished-same : (j : Job) (i : Item) (r r' : RunOutput) → SameRun r r' → SameHandled (finished j i r) (finished j i r')
  finished-same j i r r' h =
      record {
        vol = ap (λ v. finish_wet r'.effects r'.reason v) h.vol ∙ ap₂ (λ es n. finish_wet es n (with_minute m r.vol)) h.effects h.reason ∙ finish-same r.effects r.reason r.vol;
        outcomes = ap₂ (λ es n. outcome j es n ∷ []) h.effects h.reason;
        trace = ap (λ ts. i ∷ ts) h.trace;
      }

  execute-same : (e : Env) (j : Job) (dry : Bool) (v : Volatile) → SameHandled (execute e j dry v) (execute e j dry (with_minute m v))
  unfolding execute_wet execute_dry bump_by
  execute-same e j true v =
      let h = dry-run-same (budget e.set.image) e j start [] (bump activations_dry v.rest) in
      record { vol = ap (λ r. with_rest r v) h.rest; outcomes = ap₂ (λ es n. outcome j es n ∷ []) h.effects h.reason; trace = ap (λ ts. started j.rule ∷ ts) h.trace }
  execute-same e j false v =
      let w = numbered (next_number v.last_number) j in
      let s = with_last_activation (set v.rest.last_activation j.index (Some e.world.now)) (bump activations_total v.rest) in
      finished-same w (started j.rule) _ _ (run-same (budget e.set.image) e w start (with_number (suc v.last_number) (with_rest s v)))

  -- what is decided, with the minute
  decision_with : Decision → Decision
  decision_with (begins s) = begins (with_prev_week_min m s)
  decision_with (suppressed s) = suppressed (with_prev_week_min m s)
  decision_with (unevaluable s) = unevaluable (with_prev_week_min m s)

  either : (b : Bool) (x y x' y' : Decision) → x' ≡ decision_with x → y' ≡ decision_with y → cond b x' y' ≡ decision_with (cond b x y)
  either true x y x' y' p q = p
  either false x y x' y' p q = q

  verdict-same : (o : Option Bool) (dry : Bool) (s : Rest) → verdict o dry (with_prev_week_min m s) ≡ decision_with (verdict o dry s)
  unfolding decision_with bump_by
  verdict-same (Some true) dry s = refl
  verdict-same (Some false) dry s = refl
  verdict-same None dry s = ap unevaluable (rest-cond m dry s _)

  decide-same : (e : Env) (i : ℕ) (mode : Mode) (s : Rest) → decide e i mode (with_prev_week_min m s) ≡ decision_with (decide e i mode s)
  unfolding decide in_cooldown last_activation_at decision_with bump_by
  decide-same e i mode s =
      either (is_auto mode && in_cooldown e i s) _ _ _ _ refl
      (ap (λ o. verdict o (is_dry mode) (with_prev_week_min m s)) (conditions-same m e s (conditions_of_rule e.set.image i)) ∙ verdict-same (conditions_hold e s (conditions_of_rule e.set.image i)) (is_dry mode) s)

  decided-same : (d : Decision) (e : Env) (j : Job) (v : Volatile) → SameHandled (decided d e j v) (decided (decision_with d) e j (with_minute m v))
  unfolding decision_with
  decided-same (begins s) e j v = execute-same e j j.dry (with_rest s v)
  decided-same (suppressed s) e j v = record { vol = refl; outcomes = refl; trace = refl }
  decided-same (unevaluable s) e j v = record { vol = refl; outcomes = refl; trace = refl }

  pub activate-same : (e : Env) (i kind : ℕ) (mode : Mode) (v : Volatile) → SameHandled (activate e i kind mode v) (activate e i kind mode (with_minute m v))
  unfolding activate
  activate-same e i kind mode v =
      rw (decide-same e i mode v.rest) (decided-same (decide e i mode v.rest) e (job_of e (name_of e.set.image i) i kind (is_dry mode)) v)

  pub resume-same : (e : Env) (c : Pending) (v : Volatile) → SameHandled (resume e c v) (resume e c (with_minute m v))
  unfolding resume bump_by
  resume-same e c v =
      finished-same _ (resumed c) _ _ (run-same c.budget e _ c.point (with_rest (bump continuations_fired v.rest) v))
