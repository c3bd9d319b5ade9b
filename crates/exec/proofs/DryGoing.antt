-- The loop of a dry run: what is left to run from here is what the whole run makes. Assumes nothing.
use Prim.Native.Nat.{ℕ, zero, suc, ◌+◌, ◌-◌, ◌≤◌, ◌<◌}
use native.Mathlib.Omega.{arith}
use native.Mathlib.Nat.{add_assoc, add-zero}
use mathlib.Core.Path.{◌≡◌, refl, sym, ap, ◌∙◌}
use mathlib.Core.Bool.{true, false}
use mathlib.Core.Bool.{Bool}
use mathlib.Core.List.{List, [], ◌∷◌}
use Rattle.std.specs.Prelude.{Option, None, Some, slice_get}
use Rattle.std.specs.Option.{unwrap_or}
use Rattle.std.specs.List.{remove}
use lib.ListN.{length, get_or, drop, length-append}
use Rattle.model.specs.Dry.{next_step, found, dry_step, dry_branch, dry_turn, run_steps_dry, unpaid_dry, DryStepResult, DryOutput}
use Rattle.model.specs.Eval.{condition_at}
use Rattle.model.specs.Exec.{first_reason}
use Rattle.model.specs.Flat.{step_at}
use Rattle.model.specs.Lists.{to_list}
use Rattle.model.specs.State as model-state
use Rattle.model.specs.State.{Env, Rest, with_rest}
use Rattle.model.specs.Steps.{FlatStep}
use Rattle.model.specs.declared.Point.{Point}
use Rattle.model.specs.declared.Step.{Step}
use Rattle.model.specs.declared.Step.TheVariants.{Primitive, Wait, Branch, After, Fail}
use Rattle.flat.specs.Words.{Says}
use Rattle.state.specs.Meaning.{Means, meaning, base, accepted}
use Rattle.state.specs.Reasons.{reason_number}
use Rattle.eval.specs.Answers.{env_of}
use Rattle.lent_words.specs.PutEffects.{put_effects}
use Rattle.flat.specs.Near.{step_in}
use Rattle.exec.specs.Runs.{Taken, RanFrom, unpaid_of}
use Rattle.exec.specs.DryRuns.{body_point, bodies_of, queued_by, Queues, next_found, Moves, DrySteps, RunsDry}
use Rattle.model.specs.declared.Job.{Job}
use Rattle.flat.specs.declared.Placed.{Placed}
use Rattle.exec.specs.declared.RunResult.{RunResult}
use Rattle.exec.specs.declared.StepResult.{StepResult}
use Rattle.exec.specs.Done.{step_done, run_done}
use Rattle.state.proofs.Follows.{next-is, accepted-by-next}
use Rattle.lent_words.proofs.Written.{put-append}
use Rattle.flat.proofs.Decoded.{is-step}
use Rattle.exec.proofs.Going.{few, reason-none, reason-assoc, Finished, finished}

-- ---- the queue behind a step
step-bodies : (e : Env) (j : Job) (x : Step) (sp : Point) (qs : List Point) (s : Rest) → (dry_step e j x sp qs s).bodies ≡ queued_by x sp qs
unfolding dry_step dry_branch
step-bodies e j (Primitive i) sp qs s = refl
step-bodies e j (Wait ms) sp qs s = refl
step-bodies e j (Branch c t n) sp qs s = go (condition_at e s c)
  where
    go : (o : Option Bool) → (dry_branch o t n sp qs s).bodies ≡ qs
    go (Some true) = refl
    go (Some false) = refl
    go None = refl
step-bodies e j (After ms) sp qs s = refl
step-bodies e j Fail sp qs s = refl

-- ---- the queue, of which the oldest list is taken out
pub oldest : (xs : List ℕ) (k : ℕ) → slice_get (drop k xs) 0 ≡ slice_get xs k
oldest [] zero = refl
oldest [] (suc k) = refl
oldest (x ∷ xs) zero = refl
oldest (x ∷ xs) (suc k) = oldest xs k

-- ---- the next step
-- from a point and a queue the search for the next step has come to q and rs
pub record Moving (part : List ℕ) (own : ℕ) (p : Point) (ns : List ℕ) (q : Point) (rs : List ℕ) : Type 0 where
  pub says : (e : Env) (j : Job) → Says part own (get_or e.set.flat j.index []) → next_step e j p (bodies_of ns) ≡ next_step e j q (bodies_of rs)
  pub most : length rs ≤ length ns

module _ (e : Env) (j : Job) (p : Point) where
  next-stands : (x : Step) (qs : List Point) → Some x ≡ step_at e.set j.index p → next_step e j p qs ≡ found (Some x) p qs None
  unfolding next_step
  next-stands x [] h = rw (← h)
  next-stands x (q ∷ qs) h = rw (← h)

  next-pops : (q : Point) (qs : List Point) → None ≡ step_at e.set j.index p → next_step e j p (q ∷ qs) ≡ next_step e j q qs
  unfolding next_step
  next-pops q qs h = rw (← h)

  next_none : None ≡ step_at e.set j.index p → next_step e j p [] ≡ None
  unfolding next_step
  next_none h = rw (← h)

module _ (part : List ℕ) (own : ℕ) (p : Point) (ns : List ℕ) (q : Point) (rs : List ℕ) (inv : Moving part own p ns q rs) where
  pub stands : (x : Placed) → Some x.step ≡ step_in part own q → x.point ≡ q → Moves part own p ns rs (Some x)
  stands x h at =
      record {
        says = λ e j s. inv.says e j s ∙ next-stands e j q x.step (bodies_of rs) (h ∙ is-step part own q e j s) ∙ rw at refl;
        most = inv.most;
      }

  module _ (none-here : None ≡ step_in part own q) where
    pub empties : (us : List ℕ) → slice_get rs 0 ≡ None → us ≡ rs → Moves part own p ns us None
    empties us h u = go rs h u inv
      where
        go : (rs : List ℕ) → slice_get rs 0 ≡ None → us ≡ rs → Moving part own p ns q rs → Moves part own p ns us None
        go [] h u m =
            record {
              says = λ e j s. m.says e j s ∙ next_none e j q (none-here ∙ is-step part own q e j s);
              most = rw u m.most;
            }
        go (n ∷ rs) h u m = cc

    pub pops : (n : ℕ) (us : List ℕ) → slice_get rs 0 ≡ Some n → us ≡ remove rs 0 → Moving part own p ns (body_point n) us
    pops n us h u = go rs h u inv
      where
        go : (rs : List ℕ) → slice_get rs 0 ≡ Some n → us ≡ remove rs 0 → Moving part own p ns q rs → Moving part own p ns (body_point n) us
        go [] h u m = cc
        go (k ∷ rs) h u m =
            let same : k ≡ n = cc in
            record {
              says = λ e j s. m.says e j s ∙ next-pops e j q (body_point k) (bodies_of rs) (none-here ∙ is-step part own q e j s) ∙ rw (same, u);
              most = let l = m.most in rw u (omega arith);
            }

-- ---- a dry run under way, over the words of its effects
pub record DryMachine : Type 0 where
  pub vol : model-state.Volatile
  pub point : Point
  pub bodies : List Point
  pub reason : ℕ
  pub count : ℕ
  pub words : List ℕ

abbrev pub dry_machine : List ℕ → Point → List ℕ → RunResult → List ℕ → DryMachine
dry_machine v p ns r w = record { vol = meaning v; point = p; bodies = bodies_of ns; reason = reason_number r.reason; count = r.count; words = w }

abbrev pub stopped_dry : ℕ → DryMachine → Finished
stopped_dry reason m = record { vol = m.vol; reason = first_reason m.reason reason; count = m.count; words = m.words }

-- it goes on to this output
unfoldable pub finish_dry : DryMachine → DryOutput → Finished
finish_dry m o =
    record {
      vol = with_rest o.rest m.vol;
      reason = first_reason m.reason o.reason;
      count = m.count + length o.effects;
      words = put_effects m.words m.count o.effects;
    }

-- what is left of it, with b steps in the budget
abbrev pub left_dry : ℕ → Env → Job → DryMachine → Finished
left_dry b e j m = finish_dry m (run_steps_dry b e j m.point m.bodies m.vol.rest)

-- a paid step is taken over
unfoldable pub take_dry : DryStepResult → DryMachine → DryMachine
take_dry d m =
    record {
      vol = with_rest d.rest m.vol;
      point = d.next;
      bodies = d.bodies;
      reason = first_reason m.reason d.reason;
      count = m.count + length (to_list d.effect);
      words = put_effects m.words m.count (to_list d.effect);
    }

module _ (e : Env) (j : Job) (m : DryMachine) where
  -- no step is left
  past : (b : ℕ) → next_step e j m.point m.bodies ≡ None → stopped_dry 0 m ≡ left_dry b e j m
  unfolding run_steps_dry dry_turn finish_dry put_effects
  past zero h = rw (h, add-zero)
  past (suc b) h = rw (h, add-zero)

  -- no step is paid
  spent : stopped_dry (unpaid_dry (next_step e j m.point m.bodies)) m ≡ left_dry 0 e j m
  unfolding run_steps_dry finish_dry put_effects
  spent = rw add-zero

  goes : (b : ℕ) (x : Step) (p : Point) (qs : List Point) → next_step e j m.point m.bodies ≡ Some (record { step = x; point = p; bodies = qs })
      → left_dry b e j (take_dry (dry_step e j x p qs m.vol.rest) m) ≡ left_dry (suc b) e j m
  unfolding run_steps_dry dry_turn take_dry finish_dry
  goes b x p qs h = rw (h, reason-assoc, put-append, length-append, add_assoc)

-- ---- the code's step
-- all that is no continuation may change, and nothing is accepted
same-accepted : (v w : List ℕ) (s : Rest) → Means w (base v) (with_rest s (meaning v)) → accepted w ≡ accepted v
same-accepted v w s m = omega (arith, accepted-by-next w (base v) _ m, next-is v)

taken_is :
    (v v' : List ℕ) (p q to : Point) (ns rs us : List ℕ) (run r : RunResult) (w exit : List ℕ) (x : Step) (d : StepResult) (y : DryStepResult)
    → Taken run w d r exit → DrySteps v (step_done v' d) y → y.bodies ≡ queued_by x q (bodies_of rs) → Queues rs q x us → to ≡ unwrap_or d.next q
    → dry_machine v' to us r exit ≡ take_dry y (dry_machine v p ns run w)
unfolding take_dry
taken_is v v' p q to ns rs us run r w exit x d y t s z k h =
    let b : bodies_of us ≡ y.bodies = k.says ∙ sym z in
    let n : to ≡ y.next = h ∙ ap (λ (o : Option Point). unwrap_or o q) s.next in
    rw (t.reason, t.count, t.written, s.state.says, s.effect, s.reason, b, n)

unpaid-found : (o : Option Placed) (rs : List ℕ) → unpaid_of o ≡ unpaid_dry (next_found o rs)
unpaid-found None rs = refl
unpaid-found (Some x) rs = refl

-- ---- the loop
pub record GoingDry (snapshot image part : List ℕ) (own : ℕ) (job : Job) (budget : ℕ) (from : DryMachine) (v₀ v : List ℕ) (point : Point) (ns : List ℕ) (run : RunResult) (w : List ℕ) (left : ℕ) : Type 0 where
  pub says :
      (flat : List (List FlatStep)) → Says part own (get_or flat job.index [])
      → left_dry left (env_of snapshot image flat) job (dry_machine v point ns run w) ≡ left_dry budget (env_of snapshot image flat) job from
  pub based : base v ≡ base v₀
  pub accepts : accepted v ≡ accepted v₀
  pub grows : from.count ≤ run.count
  pub counts : run.count + left ≤ from.count + budget
  pub last : (meaning v).last_number ≡ from.vol.last_number
  pub long : length w ≡ length from.words

module _ (snapshot image part : List ℕ) (own : ℕ) (job : Job) (budget : ℕ) (v₀ : List ℕ) (start : Point) (count : ℕ) (w₀ : List ℕ) where
  abbrev from : DryMachine
  from = dry_machine v₀ start [] (record { reason = None; count = count }) w₀

  -- what a whole run comes to
  runs :
      (v : List ℕ) (r : RunResult) (w : List ℕ) → accepted v ≡ accepted v₀ → RanFrom v₀ budget count (run_done v r)
      → ((flat : List (List FlatStep)) → Says part own (get_or flat job.index []) → finished v r w ≡ left_dry budget (env_of snapshot image flat) job from)
      → RunsDry snapshot image part own job v₀ start budget count w₀ (run_done v r) w
  unfolding finish_dry
  runs v r w a k h =
      record {
        says = λ flat e.
            let f = h flat e in (
              record { says = ap (λ (x : Finished). x.vol) f; based = k.based },
              ap (λ (x : Finished). x.reason) f,
              ap (λ (x : Finished). x.count) f,
              ap (λ (x : Finished). x.words) f,
            );
        accepted = a;
        ran = k;
      }

  module _
      (v : List ℕ) (point : Point) (ns : List ℕ) (run : RunResult) (w : List ℕ) (left : ℕ) (inv : GoingDry snapshot image part own job budget from v₀ v point ns run w left)
      (rs : List ℕ) (o : Option Placed) (moves : Moves part own point ns rs o)
    where
      pub runs-past : o ≡ None → RunsDry snapshot image part own job v₀ start budget count w₀ (run_done v run) w
      runs-past h =
          runs v run w inv.accepts (record { based = inv.based; grows = inv.grows; counted = omega (arith, inv.counts); last = inv.last })
          (λ flat s.
          let e = env_of snapshot image flat in
          ap (λ (n : ℕ). record { vol = meaning v; reason = n; count = run.count; words = w }) (sym (reason-none (reason_number run.reason)))
          ∙ past e job (dry_machine v point ns run w) left (moves.says e job s ∙ ap (λ (x : Option Placed). next_found x rs) h)
          ∙ inv.says flat s)

      pub runs-spent : (r : RunResult) → left ≤ 0 → reason_number r.reason ≡ first_reason (reason_number run.reason) (unpaid_of o) → r.count ≡ run.count
          → RunsDry snapshot image part own job v₀ start budget count w₀ (run_done v r) w
      runs-spent r z n c =
          runs v r w inv.accepts (record { based = inv.based; grows = omega (arith, inv.grows, c); counted = omega (arith, inv.counts, c); last = inv.last })
          (λ flat s.
          let e = env_of snapshot image flat in
          let m = dry_machine v point ns run w in
          let none_left : 0 ≡ left = omega arith in
          rw (n, c) (ap (λ (k : ℕ). stopped_dry k m) (unpaid-found o rs ∙ ap unpaid_dry (sym (moves.says e job s))))
          ∙ spent e job m
          ∙ ap (λ (b : ℕ). left_dry b e job m) none_left
          ∙ inv.says flat s)

      pub goes-on :
          (x : Placed) → o ≡ Some x → 0 < left → (d : StepResult) (v' : List ℕ)
          → ((flat : List (List FlatStep)) (qs : List Point) → DrySteps v (step_done v' d) (dry_step (env_of snapshot image flat) job x.step x.point qs (meaning v).rest))
          → (r : RunResult) (exit : List ℕ) → Taken run w d r exit → (us : List ℕ) → Queues rs x.point x.step us → (to : Point) → to ≡ unwrap_or d.next x.point → length exit ≡ length w
          → GoingDry snapshot image part own job budget from v₀ v' to us r exit (left - 1)
      goes-on x h paid d v' steps r exit taken us k to next l =
          record {
            says = λ flat s.
                let e = env_of snapshot image flat in
                let m = dry_machine v point ns run w in
                let one : suc (left - 1) ≡ left = omega arith in
                ap (left_dry (left - 1) e job) (taken_is v v' point x.point to ns rs us run r w exit x.step d _ taken (steps flat (bodies_of rs)) (step-bodies e job x.step x.point (bodies_of rs) _) k next)
                ∙ goes e job m (left - 1) x.step x.point (bodies_of rs) (moves.says e job s ∙ ap (λ (y : Option Placed). next_found y rs) h)
                ∙ ap (λ (b : ℕ). left_dry b e job m) one
                ∙ inv.says flat s;
            based = (steps [] []).state.based ∙ inv.based;
            accepts = same-accepted v v' _ (steps [] []).state ∙ inv.accepts;
            grows = omega (arith, taken.count, inv.grows);
            counts = omega (arith, taken.count, few d.effect, inv.counts);
            last = ap (λ (m : model-state.Volatile). m.last_number) (steps [] []).state.says ∙ inv.last;
            long = l ∙ inv.long;
          }
