-- An activation and a resumption whole. Assumes nothing.
use Prim.Native.Nat.{ℕ}
use mathlib.Core.Path.{◌≡◌, refl, ap, subst, ◌∙◌}
use mathlib.Core.Bool.{Bool, true, false, false≢true, true≢false}
use mathlib.Core.List.{List, [], ◌∷◌}
use Rattle.std.specs.Prelude.{Some}
use Rattle.model.specs.Activate as model
use Rattle.model.specs.Actions as actions
use Rattle.model.specs.Dry.{run_steps_dry}
use Rattle.model.specs.Exec.{run_steps}
use Rattle.model.specs.Image.{budget}
use Rattle.model.specs.Outcome.{started, resumed, aborted}
use Rattle.model.specs.Rules.{name_of, hold_hcl_of, rule_named}
use Rattle.model.specs.State as model-state
use Rattle.model.specs.State.{Env, Rest, next_number, with_rest, bump, activations_dry, continuations_fired}
use Rattle.model.specs.Steps.{FlatStep, start}
use Rattle.model.specs.declared.Pending.{Pending}
use Rattle.state.specs.Meaning.{meaning}
use Rattle.eval.specs.Answers.{env_of}
use Rattle.model.specs.declared.Job.{Job}
use Rattle.activate.specs.Handled.{Handles, Activates, Resumes}
use Rattle.activate.specs.Outcomes.{Pushes}
use Rattle.model.specs.Activate.{is_dry}
use Rattle.activate.specs.Decisions.{decision_of, Decides}
use Rattle.activate.specs.Executes.{Changes, begun_in, NotesPartial, Starts, RunsWet, RunsDry, Executes, dry_outcome}
use Rattle.activate.specs.Carried.{Carried, carried}
use Rattle.activate.specs.declared.Handled.{Handled}
use Rattle.model.specs.declared.Mode.{Mode}
use Rattle.activate.specs.declared.decide.Decision.{Decision}
use Rattle.activate.specs.declared.decide.Decision.TheVariants.{Begins, InCooldown, Rejected, Unevaluable}
use Rattle.activate.proofs.Continues.{with_vol}
use Rattle.activate.proofs.Running.{changed, after-change, after-start, same-handles, refuses}

-- ---- `execute`
dry-case : (e : Env) (j : Job) (v : model-state.Volatile) (t : Bool) → t ≡ true → model.execute_dry e j v ≡ model.execute e j t v
dry-case e j v true h = refl
dry-case e j v false h = absurd (false≢true h)

wet-case : (e : Env) (j : Job) (v : model-state.Volatile) (t : Bool) → t ≡ false → model.execute_wet e j v ≡ model.execute e j t v
wet-case e j v false h = refl
wet-case e j v true h = absurd (true≢false h)

-- ---- a wet run counts that it is partial, a dry one does not
pub noted : (dry : Bool) (v u : List ℕ) → dry ≡ false → Changes v (bump model-state.partial_outcomes (meaning v).rest) u → NotesPartial dry v u
noted dry v u e m = rw e m

pub not-noted : (dry : Bool) (v : List ℕ) → dry ≡ true → NotesPartial dry v v
not-noted dry v e = rw e (record { says = refl; based = refl })

module _ (snapshot image part : List ℕ) (own : ℕ) (j : Job) (x : Carried) (w ow ew : List ℕ) (r : Carried) (ow' ew' : List ℕ) where
  abbrev rest_of : Rest
  rest_of = (meaning x.vol).rest

  pub executes-dry : j.dry ≡ true → Changes x.vol (bump activations_dry rest_of) w → RunsDry snapshot image part own j (with_vol w x) ow ew r ow' ew' → Executes snapshot image part own j x ow ew r ow' ew'
  unfolding model.execute_dry
  executes-dry t a h =
      let k : List (List FlatStep) → model-state.Volatile → model.Handled =
      λ flat m. dry_outcome j (run_steps_dry (budget image) (env_of snapshot image flat) j start [] m.rest) m in
      same-handles part own j.index _ _ x ow ew r ow' ew' (λ flat. dry-case (env_of snapshot image flat) j (meaning x.vol) j.dry t) (after-change x w _ a part own j.index k ow ew r ow' ew' h)

  pub executes-wet : (b : ℕ) (begun : Job) → j.dry ≡ false → b ≡ budget image → Starts snapshot j x.vol w begun → RunsWet snapshot image part own begun start b (with_vol w x) ow ew r ow' ew'
      → Executes snapshot image part own j x ow ew r ow' ew'
  unfolding model.execute_wet model.numbered
  executes-wet b begun f e a h =
      let u : Job = model.numbered (next_number (meaning x.vol).last_number) j in
      let k : List (List FlatStep) → model-state.Volatile → model.Handled =
      λ flat m. model.finished u (started j.rule) (run_steps (budget image) (env_of snapshot image flat) u start m) in
      let run : RunsWet snapshot image part own u start (budget image) (with_vol w x) ow ew r ow' ew' =
      subst (λ (n : ℕ). RunsWet snapshot image part own u start n (with_vol w x) ow ew r ow' ew') e (subst (λ (y : Job). RunsWet snapshot image part own y start b (with_vol w x) ow ew r ow' ew') a.1 h) in
      same-handles part own j.index _ _ x ow ew r ow' ew' (λ flat. wet-case (env_of snapshot image flat) j (meaning x.vol) j.dry f)
      (after-start x w (begun_in snapshot j (meaning x.vol)) a.0 refl refl part own j.index k ow ew r ow' ew' (run.0 (started j.rule)) run.1)

-- ---- `activate`
module _ (snapshot image part : List ℕ) (own i kind : ℕ) (mode : Mode) (v : List ℕ) (x : Handled) (ow ew : List ℕ) where
  abbrev rest : Rest
  rest = (meaning v).rest

  abbrev pub job_with : Bool → Job
  job_with dry = record { rule = name_of image i; index = i; hold = hold_hcl_of image i; trigger = kind; dry = dry; number = 0 }

  abbrev job : Job
  job = job_with (is_dry mode)

  activated : (a d : Decision) → Decides snapshot image i mode rest a → a ≡ d → (flat : List (List FlatStep))
      → model.decided (decision_of d (is_dry mode) rest) (env_of snapshot image flat) job (meaning v) ≡ model.activate (env_of snapshot image flat) i kind mode (meaning v)
  unfolding model.activate model.job_of
  activated a d h e flat = rw (h flat, e)

  module _ (j : Job) (dry : Bool) (e : j ≡ job_with dry) (w : dry ≡ is_dry mode) (a : Decision) (d : Decides snapshot image i mode rest a) where
    is-job : j ≡ job
    is-job = e ∙ ap job_with w

    pub begins : (r : Carried) (ow' ew' : List ℕ) → a ≡ Begins → Executes snapshot image part own j (carried v x) ow ew r ow' ew' → Activates snapshot image part own i kind mode (carried v x) ow ew r ow' ew'
    begins r ow' ew' t h =
        same-handles part own i _ _ (carried v x) ow ew r ow' ew' (activated a Begins d t) (subst (λ (k : Job). Executes snapshot image part own k (carried v x) ow ew r ow' ew') is-job h)

    refusing : (u : List ℕ) (r : Handled) (ow' : List ℕ) (s : Rest) (reason : ℕ) → Changes v s u → Pushes x ow j reason x.effects r ow'
        → Handles part own i (λ flat. record { vol = with_rest s (meaning v); outcomes = model.outcome job [] reason ∷ []; trace = aborted job.rule ∷ [] }) (carried v x) ow ew (carried u r) ow' ew
    refusing u r ow' s reason c h = refuses part own i v x ow ew u s job reason (aborted job.rule ∷ []) r ow' c (subst (λ (k : Job). Pushes x ow k reason x.effects r ow') is-job h)

    pub unevaluable : (u : List ℕ) (r : Handled) (ow' : List ℕ) → a ≡ Unevaluable → NotesPartial dry v u → Pushes x ow j actions.condition_unevaluable x.effects r ow'
        → Activates snapshot image part own i kind mode (carried v x) ow ew (carried u r) ow' ew
    unevaluable u r ow' t c h =
        same-handles part own i _ _ (carried v x) ow ew (carried u r) ow' ew (activated a Unevaluable d t) (refusing u r ow' _ actions.condition_unevaluable (subst (λ (z : Bool). NotesPartial z v u) w c) h)

  module _ (u : List ℕ) (a : Decision) (d : Decides snapshot image i mode rest a) where
    pub in-cooldown : a ≡ InCooldown → Changes v (bump model-state.suppressed_cooldown rest) u → Activates snapshot image part own i kind mode (carried v x) ow ew (carried u x) ow ew
    in-cooldown t c = same-handles part own i _ _ (carried v x) ow ew (carried u x) ow ew (activated a InCooldown d t) (changed (carried v x) u _ c part own i ow ew)

    pub rejected : a ≡ Rejected → Changes v (bump model-state.conditions_rejected rest) u → Activates snapshot image part own i kind mode (carried v x) ow ew (carried u x) ow ew
    rejected t c = same-handles part own i _ _ (carried v x) ow ew (carried u x) ow ew (activated a Rejected d t) (changed (carried v x) u _ c part own i ow ew)

-- ---- `resume`
module _ (snapshot image part : List ℕ) (own i : ℕ) (c : Pending) (x : Carried) (w ow ew : List ℕ) (r : Carried) (ow' ew' : List ℕ) where
  abbrev resumed_job : Job
  resumed_job = record { rule = c.rule; index = i; hold = hold_hcl_of image i; trigger = c.trigger; dry = false; number = c.number }

  abbrev resumed_run : List (List FlatStep) → model-state.Volatile → model.Handled
  resumed_run flat m = model.finished resumed_job (resumed c) (run_steps c.budget (env_of snapshot image flat) resumed_job c.point m)

  abbrev counted : Rest
  counted = bump continuations_fired (meaning x.vol).rest

  is-resumed : rule_named image c.rule ≡ Some i → (flat : List (List FlatStep)) → resumed_run flat (with_rest counted (meaning x.vol)) ≡ model.resume (env_of snapshot image flat) c (meaning x.vol)
  unfolding model.resume model.job_of model.numbered
  is-resumed h flat = rw h

  pub resumes : (j : Job) → j ≡ resumed_job → rule_named image c.rule ≡ Some i → Changes x.vol counted w → RunsWet snapshot image part own j c.point c.budget (with_vol w x) ow ew r ow' ew'
      → Resumes snapshot image part own i c x ow ew r ow' ew'
  resumes j e named a h =
      same-handles part own i _ _ x ow ew r ow' ew' (is-resumed named)
      (after-change x w counted a part own i resumed_run ow ew r ow' ew' ((subst (λ (k : Job). RunsWet snapshot image part own k c.point c.budget (with_vol w x) ow ew r ow' ew') e h).0 (resumed c)))
