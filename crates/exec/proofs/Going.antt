-- The loop of a run: what is left to run from here is what the whole run makes. Assumes nothing.
use Prim.Native.Nat.{ℕ, zero, suc, ◌+◌, ◌-◌, ◌≤◌, ◌<◌}
use native.Mathlib.Omega.{arith}
use native.Mathlib.Nat.{add_assoc, add-zero}
use mathlib.Core.Path.{◌≡◌, refl, sym, ap, ◌∙◌}
use mathlib.Core.Bool.{false}
use mathlib.Core.List.{List, []}
use Rattle.std.specs.Prelude.{Option, None, Some}
use lib.Dec.{eqb}
use borrow.Author.Tests.{ne_eqb}
use lib.ListN.{length, get_or, length-append}
use Rattle.model.specs.Exec as model
use Rattle.model.specs.Exec.{run_steps, with_step, continue_run, exec, first_reason, unpaid}
use Rattle.model.specs.Flat.{step_at}
use Rattle.model.specs.Lists.{to_list}
use Rattle.model.specs.State as model-state
use Rattle.model.specs.State.{Env}
use Rattle.model.specs.Steps.{FlatStep}
use Rattle.model.specs.declared.Point.{Point}
use Rattle.model.specs.declared.Step.{Step}
use Rattle.flat.specs.Words.{Says}
use Rattle.state.specs.Meaning.{meaning, base, accepted}
use Rattle.state.specs.Reasons.{reason_number}
use Rattle.eval.specs.Answers.{env_of}
use Rattle.exec.specs.Paid.{Steps}
use Rattle.lent_words.specs.PutEffects.{put_effects}
use Rattle.flat.specs.Near.{step_in}
use Rattle.exec.specs.Runs.{Taken, RanFrom, Runs, unpaid_of}
use Rattle.flat.specs.Stands.{step_of_placed}
use Rattle.model.specs.declared.Job.{Job}
use Rattle.flat.specs.declared.Placed.{Placed}
use Rattle.exec.specs.declared.RunResult.{RunResult}
use Rattle.exec.specs.declared.StepResult.{StepResult}
use Rattle.exec.specs.Done.{step_done, run_done}
use Rattle.lent_words.proofs.Written.{put-append}
use Rattle.exec.proofs.Bounds.{accepts-one, takes-none}
use Rattle.flat.proofs.Decoded.{is-step}

-- a step emits at most one effect
pub few : {A : Type 0} (o : Option A) → length (to_list o) ≤ 1
few None = omega arith
few (Some a) = omega arith

-- ---- reasons
some-reason : (a : ℕ) → eqb (suc a) 0 ≡ false
some-reason a = ne_eqb (suc a) 0 (differs a)
  where
    differs : (a : ℕ) → suc a ≡ 0 → ⊥
    differs a h = omega arith

pub reason-none : (a : ℕ) → first_reason a 0 ≡ a
reason-none zero = refl
reason-none (suc a) = rw (some-reason a)

pub reason-assoc : (a b c : ℕ) → first_reason a (first_reason b c) ≡ first_reason (first_reason a b) c
reason-assoc zero b c = refl
reason-assoc (suc a) b c = simp (some-reason a)

-- ---- a run under way, over the words of its effects, and what came of one
pub record Machine : Type 0 where
  pub vol : model-state.Volatile
  pub point : Point
  pub reason : ℕ
  pub count : ℕ
  pub words : List ℕ

pub record Finished : Type 0 where
  pub vol : model-state.Volatile
  pub reason : ℕ
  pub count : ℕ
  pub words : List ℕ

abbrev pub machine : List ℕ → Point → RunResult → List ℕ → Machine
machine v p r w = record { vol = meaning v; point = p; reason = reason_number r.reason; count = r.count; words = w }

abbrev pub finished : List ℕ → RunResult → List ℕ → Finished
finished v r w = record { vol = meaning v; reason = reason_number r.reason; count = r.count; words = w }

-- no step is left, or none is paid, for this reason
abbrev pub stopped : ℕ → Machine → Finished
stopped reason m = record { vol = m.vol; reason = first_reason m.reason reason; count = m.count; words = m.words }

-- a run under way goes on to this output
unfoldable pub finish : Machine → model.RunOutput → Finished
finish m o =
    record {
      vol = o.vol;
      reason = first_reason m.reason o.reason;
      count = m.count + length o.effects;
      words = put_effects m.words m.count o.effects;
    }

-- what is left of a run, with b steps in the budget
abbrev pub left_of : ℕ → Env → Job → Machine → Finished
left_of b e j m = finish m (run_steps b e j m.point m.vol)

-- a paid step is taken over, and the run stands at p
unfoldable pub take_step : model.StepResult → Point → Machine → Machine
take_step d p m =
    record {
      vol = d.vol;
      point = p;
      reason = first_reason m.reason d.reason;
      count = m.count + length (to_list d.effect);
      words = put_effects m.words m.count (to_list d.effect);
    }

module _ (e : Env) (j : Job) (m : Machine) where
  -- no step is left
  past : (b : ℕ) → None ≡ step_at e.set j.index m.point → stopped 0 m ≡ left_of b e j m
  unfolding run_steps with_step finish put_effects
  past zero h = rw (← h, add-zero)
  past (suc b) h = rw (← h, add-zero)

  -- no step is paid
  spent : stopped (unpaid (step_at e.set j.index m.point)) m ≡ left_of 0 e j m
  unfolding run_steps finish put_effects
  spent = rw add-zero

  module _ (b : ℕ) (x : Step) (at : Some x ≡ step_at e.set j.index m.point) where
    ends : None ≡ (exec e j b m.point x m.vol).next → stopped 0 (take_step (exec e j b m.point x m.vol) m.point m) ≡ left_of (suc b) e j m
    unfolding run_steps with_step continue_run finish take_step
    ends h = rw (← at, ← h, reason-none)

    goes : (p : Point) → Some p ≡ (exec e j b m.point x m.vol).next → left_of b e j (take_step (exec e j b m.point x m.vol) p m) ≡ left_of (suc b) e j m
    unfolding run_steps with_step continue_run finish take_step
    goes p h = rw (← at, ← h, reason-assoc, put-append, length-append, add_assoc)

-- ---- the code's step
taken_is :
    (v v' : List ℕ) (p q : Point) (run r : RunResult) (w exit : List ℕ) (d : StepResult) (x : model.StepResult)
    → Taken run w d r exit → Steps v (step_done v' d) x → machine v' q r exit ≡ take_step x q (machine v p run w)
unfolding take_step
taken_is v v' p q run r w exit d x t s = rw (t.reason, t.count, t.written, s.state.says, s.effect, s.reason)

unpaid-stands : (o : Option Placed) → unpaid_of o ≡ unpaid (step_of_placed o)
unpaid-stands None = refl
unpaid-stands (Some x) = refl

-- ---- the loop
pub record Going (snapshot image part : List ℕ) (own : ℕ) (job : Job) (budget : ℕ) (from : Machine) (v₀ v : List ℕ) (point : Point) (run : RunResult) (w : List ℕ) (left : ℕ) : Type 0 where
  pub says :
      (flat : List (List FlatStep)) → Says part own (get_or flat job.index [])
      → left_of left (env_of snapshot image flat) job (machine v point run w) ≡ left_of budget (env_of snapshot image flat) job from
  pub based : base v ≡ base v₀
  pub accepts : accepted v + left ≤ accepted v₀ + budget
  pub grows : from.count ≤ run.count
  pub counts : run.count + left ≤ from.count + budget
  pub last : (meaning v).last_number ≡ from.vol.last_number
  pub long : length w ≡ length from.words

module _ (snapshot image part : List ℕ) (own : ℕ) (job : Job) (budget : ℕ) (v₀ : List ℕ) (start : Point) (count : ℕ) (w₀ : List ℕ) where
  abbrev from : Machine
  from = machine v₀ start (record { reason = None; count = count }) w₀

  -- what a whole run comes to
  runs :
      (v : List ℕ) (r : RunResult) (w : List ℕ) → accepted v ≤ accepted v₀ + budget → RanFrom v₀ budget count (run_done v r)
      → ((flat : List (List FlatStep)) → Says part own (get_or flat job.index []) → finished v r w ≡ left_of budget (env_of snapshot image flat) job from)
      → Runs snapshot image part own job v₀ start budget count w₀ (run_done v r) w
  unfolding finish
  runs v r w a k h =
      record {
        says = λ flat e.
            let f = h flat e in (
              record { says = ap (λ (x : Finished). x.vol) f; based = k.based },
              ap (λ (x : Finished). x.reason) f,
              ap (λ (x : Finished). x.count) f,
              ap (λ (x : Finished). x.words) f,
            );
        accepted = a;
        ran = k;
      }

  module _ (v : List ℕ) (point : Point) (run : RunResult) (w : List ℕ) (left : ℕ) (inv : Going snapshot image part own job budget from v₀ v point run w left) where
    pub runs-past : None ≡ step_in part own point → Runs snapshot image part own job v₀ start budget count w₀ (run_done v run) w
    runs-past h =
        runs v run w (omega (arith, inv.accepts)) (record { based = inv.based; grows = inv.grows; counted = omega (arith, inv.counts); last = inv.last })
        (λ flat s.
        let e = env_of snapshot image flat in
        ap (λ (n : ℕ). record { vol = meaning v; reason = n; count = run.count; words = w }) (sym (reason-none (reason_number run.reason)))
        ∙ past e job (machine v point run w) left (h ∙ is-step part own point e job s)
        ∙ inv.says flat s)

    pub runs-spent : (o : Option Placed) (r : RunResult) → left ≤ 0 → step_of_placed o ≡ step_in part own point → reason_number r.reason ≡ first_reason (reason_number run.reason) (unpaid_of o) → r.count ≡ run.count
        → Runs snapshot image part own job v₀ start budget count w₀ (run_done v r) w
    runs-spent o r z h n c =
        runs v r w (omega (arith, inv.accepts)) (record { based = inv.based; grows = omega (arith, inv.grows, c); counted = omega (arith, inv.counts, c); last = inv.last })
        (λ flat s.
        let e = env_of snapshot image flat in
        let none_left : 0 ≡ left = omega arith in
        rw (n, c, unpaid-stands o) (ap (λ (x : Option Step). stopped (unpaid x) (machine v point run w)) (h ∙ is-step part own point e job s))
        ∙ spent e job (machine v point run w)
        ∙ ap (λ (b : ℕ). left_of b e job (machine v point run w)) none_left
        ∙ inv.says flat s)

    module _
        (x : Step) (here : Some x ≡ step_in part own point) (paid : 0 < left) (d : StepResult) (v' : List ℕ)
        (steps : (flat : List (List FlatStep)) → Steps v (step_done v' d) (exec (env_of snapshot image flat) job (left - 1) point x (meaning v)))
        (r : RunResult) (exit : List ℕ) (taken : Taken run w d r exit)
      where
        one : suc (left - 1) ≡ left
        one = omega arith

        stays : base v' ≡ base v₀
        stays = (steps []).state.based ∙ inv.based

        accepts : accepted v' ≤ suc (accepted v)
        accepts = accepts-one (env_of snapshot image []) job (left - 1) point x v (step_done v' d) (steps [])

        counts : r.count ≤ suc run.count
        counts = omega (arith, taken.count, few d.effect)

        grows : count ≤ r.count
        grows = omega (arith, taken.count, inv.grows)

        last : (meaning v').last_number ≡ (meaning v₀).last_number
        last = takes-none (env_of snapshot image []) job (left - 1) point x v (step_done v' d) (steps []) ∙ inv.last

        pub runs-ended : None ≡ d.next → Runs snapshot image part own job v₀ start budget count w₀ (run_done v' r) exit
        runs-ended h =
            runs v' r exit (omega (arith, accepts, inv.accepts)) (record { based = stays; grows = grows; counted = omega (arith, counts, inv.counts); last = last })
            (λ flat s.
            let e = env_of snapshot image flat in
            let m = machine v point run w in
            ap (λ (n : ℕ). record { vol = meaning v'; reason = n; count = r.count; words = exit }) (sym (reason-none (reason_number r.reason)))
            ∙ ap (stopped 0) (taken_is v v' point point run r w exit d _ taken (steps flat))
            ∙ ends e job m (left - 1) x (here ∙ is-step part own point e job s) (h ∙ (steps flat).next)
            ∙ ap (λ (b : ℕ). left_of b e job m) one
            ∙ inv.says flat s)

        pub goes-on : (p : Point) → Some p ≡ d.next → length exit ≡ length w → Going snapshot image part own job budget from v₀ v' p r exit (left - 1)
        goes-on p h l =
            record {
              says = λ flat s.
                  let e = env_of snapshot image flat in
                  let m = machine v point run w in
                  ap (left_of (left - 1) e job) (taken_is v v' point p run r w exit d _ taken (steps flat))
                  ∙ goes e job m (left - 1) x (here ∙ is-step part own point e job s) p (h ∙ (steps flat).next)
                  ∙ ap (λ (b : ℕ). left_of b e job m) one
                  ∙ inv.says flat s;
              based = stays;
              accepts = omega (arith, accepts, inv.accepts);
              grows = grows;
              counts = omega (arith, counts, inv.counts);
              last = last;
              long = l ∙ inv.long;
            }
