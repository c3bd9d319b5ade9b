-- The trace of a tick or a wet run is made of runs of its rules' lists, each with its outcome.
use mathlib.Core.Path.{◌≡◌, refl, sym, ◌∙◌, ap, subst}
use Prim.Native.Nat.{ℕ, zero, suc}
use mathlib.Core.Bool.{Bool, true, false, cond, true≢false}
use mathlib.Core.List.{List, [], ◌∷◌, ◌++◌, append-nil, append_assoc}
use Rattle.std.specs.Prelude.{Option, None, Some}
use Rattle.model.specs.Lists.{or_else}
use Rattle.model.specs.Image.{budget}
use Rattle.model.specs.Rules.{name_of, rule_named, name_order}
use Rattle.model.specs.Snapshot.{snapshot_refusal}
use Rattle.model.specs.Load.{image_refusal_with}
use Rattle.model.specs.Flat.{Flattened, flatten_rules}
use Rattle.model.specs.World.{now_of, world_of}
use Rattle.model.specs.declared.Effect.{Effect}
use Rattle.model.specs.Outcome.{Outcome, Item, started, resumed, aborted}
use Rattle.model.specs.declared.Pending.{Pending}
use Rattle.model.specs.declared.Point.{Point}
use Rattle.model.specs.State.{next_number, Env, Volatile, RuleSet, Store, with_rest, is_enabled, bump, continuations_fired}
use Rattle.model.specs.Actions.{condition_unevaluable}
use Rattle.model.specs.declared.Job.{Job}
use Rattle.model.specs.Exec.{RunOutput, run_steps}
use Rattle.model.specs.Activate.{is_dry, Handled, no_outcome, and_then, outcome, job_of, numbered, Decision, begins, suppressed, unevaluable, decide, finished, execute_wet, execute, decided, activate, resume}
use Rattle.model.specs.declared.Mode.{Mode}
use Rattle.model.specs.declared.Mode.TheVariants.{Auto, Manual}
use Rattle.model.specs.Steps.{start}
use Rattle.model.specs.Wheel.{due_now, resume_all, fire_continuations, service_tick}
use Rattle.model.specs.Calls.{Call, new, load, unload, enable, tick, run, deadline, counters, Done, overflow, loading, call_load, call_unload, enabling, rule_in, call_enable, committing, committed, tick_with, run_rule, run_with, given, refuse, call}
use Rattle.ledger.specs.Ledger.{resumed_in}
use Rattle.ledger.specs.Trace.{effects_in, RunOf, ended, exhausted, waits, continues, wet_outcome, ActivationsOf, no_more, activation, TraceOf, activations, resumption, NoOutput, Ticks, OnlyOf, RunsWet, Conforms}
use Rattle.ledger.specs.Trace as trace
use Rattle.ledger.proofs.RunTrace.{run-effects, run-trace}
use Rattle.ledger.proofs.ListLaws.{by}
use Rattle.ledger.proofs.Wheel.{WheelLaws, every_any, wheel}
use Rattle.ledger.proofs.WetRuns.{run_only}

-- PARTS OF A CALL: first these records resume, in order, then come activations ------------------------------------------------------
pub data PartOf (set : RuleSet) : List Pending → List Item → List Outcome → Type 0 where
  behind : {ms : List Item} {os : List Outcome} → ActivationsOf set ms os → PartOf set [] ms os
  first : {c : Pending} {cs : List Pending} {reason : ℕ} {ms rest : List Item} {os : List Outcome}
      → RunOf set (or_else 0 (rule_named set.image c.rule)) c.budget c.point ms reason → PartOf set cs rest os
      → PartOf set (c ∷ cs) (resumed c ∷ (ms ++ rest)) (wet_outcome c.rule c.trigger reason c.number ms ∷ os)

trace-of : {set : RuleSet} {cs : List Pending} {ms : List Item} {os : List Outcome} → PartOf set cs ms os → TraceOf set ms os
trace-of (behind p) = activations p
trace-of (first w p) = resumption w (trace-of p)

activations-of : {set : RuleSet} {ms : List Item} {os : List Outcome} → PartOf set [] ms os → ActivationsOf set ms os
activations-of (behind p) = p

-- the records of a part are those of its trace: a run's steps and activations resume none
run-resumes : {set : RuleSet} {i b reason : ℕ} {sp : Point} {ms : List Item} (rest : List Item) → RunOf set i b sp ms reason → resumed_in (ms ++ rest) ≡ resumed_in rest
run-resumes rest (ended h) = refl
run-resumes rest (exhausted h) = refl
run-resumes rest (waits h) = refl
run-resumes rest (continues q h r l w) = run-resumes rest w

none-resumed : {set : RuleSet} {ms : List Item} {os : List Outcome} → ActivationsOf set ms os → resumed_in ms ≡ []
none-resumed no_more = refl
none-resumed (activation {rest = rest} w p) = run-resumes rest w ∙ none-resumed p
none-resumed (trace.unevaluable i p) = none-resumed p

pub part-resumes : {set : RuleSet} {cs : List Pending} {ms : List Item} {os : List Outcome} → PartOf set cs ms os → resumed_in ms ≡ cs
part-resumes (behind p) = none-resumed p
part-resumes (first {c = c} {rest = rest} w p) = ap (λ cs. c ∷ cs) (run-resumes rest w ∙ part-resumes p)

-- one part behind another
activations-append : {set : RuleSet} {a b : List Item} {os bs : List Outcome} → ActivationsOf set a os → ActivationsOf set b bs → ActivationsOf set (a ++ b) (os ++ bs)
activations-append no_more q = q
activations-append {set} {b = b} {bs = bs} (activation {i = i} {kind = kind} {reason = reason} {number = number} {ms = ms} {rest = rest} {os = os} w p) q =
    subst (λ zs. ActivationsOf set (started (name_of set.image i) ∷ zs) (wet_outcome (name_of set.image i) kind reason number ms ∷ (os ++ bs))) (sym (append_assoc ms rest b))
    (activation w (activations-append p q))
activations-append (trace.unevaluable i p) q = trace.unevaluable i (activations-append p q)

part-append : {set : RuleSet} {cs : List Pending} {a b : List Item} {os bs : List Outcome} → PartOf set cs a os → ActivationsOf set b bs → PartOf set cs (a ++ b) (os ++ bs)
part-append (behind p) q = behind (activations-append p q)
part-append {set} {b = b} {bs = bs} (first {c = c} {cs = cs} {reason = reason} {ms = ms} {rest = rest} {os = os} w p) q =
    subst (λ zs. PartOf set (c ∷ cs) (resumed c ∷ zs) (wet_outcome c.rule c.trigger reason c.number ms ∷ (os ++ bs))) (sym (append_assoc ms rest b)) (first w (part-append p q))

pub record Faithful (set : RuleSet) (cs : List Pending) (x : Handled) : Type 0 where
  pub part : PartOf set cs x.trace x.outcomes

module _ (e : Env) where
  no-outcome : (v : Volatile) → Faithful e.set [] (no_outcome v)
  no-outcome v = record { part = behind no_more }

  and-then : (cs : List Pending) (x : Handled) (K : Volatile → Handled) → Faithful e.set cs x → Faithful e.set [] (K x.vol) → Faithful e.set cs (and_then x K)
  and-then cs x K p q = record { part = part-append p.part (activations-of q.part) }

  -- the outcome of a wet job tells its rule, its trigger and the run's effects and reason
  wet-outcome : (w : Job) (name : ℕ) (effects : List Effect) (reason : ℕ) (ms : List Item) → w.dry ≡ false → w.rule ≡ name → effects ≡ effects_in ms
      → outcome w effects reason ≡ wet_outcome name w.trigger reason w.number ms
  unfolding outcome
  wet-outcome w name effects reason ms wet er y =
      λ i. record { rule = er i; dry = cond (wet i) 1 0; trigger = w.trigger; reason = reason; effects = y i; number = w.number }

  -- a wet activation of the rule at the job's place
  starts : (w : Job) (r : RunOutput) → w.dry ≡ false → w.rule ≡ name_of e.set.image w.index
      → RunOf e.set w.index (budget e.set.image) start r.trace r.reason → r.effects ≡ effects_in r.trace
      → Faithful e.set [] (finished w (started w.rule) r)
  starts w r wet er z y =
      let name = name_of e.set.image w.index in
      let a : ActivationsOf e.set (started name ∷ (r.trace ++ [])) (wet_outcome name w.trigger r.reason w.number r.trace ∷ []) = activation z no_more in
      let b = subst (λ ms. ActivationsOf e.set (started name ∷ ms) (wet_outcome name w.trigger r.reason w.number r.trace ∷ [])) (append-nil r.trace) a in
      let c = subst (λ n. ActivationsOf e.set (started n ∷ r.trace) (wet_outcome name w.trigger r.reason w.number r.trace ∷ [])) (sym er) b in
      record {
        part = behind (subst (λ o. ActivationsOf e.set (started w.rule ∷ r.trace) (o ∷ [])) (sym (wet-outcome w name r.effects r.reason r.trace wet er y)) c);
      }

  aborts : (w : Job) (v : Volatile) → w.number ≡ 0 → w.dry ≡ false → w.rule ≡ name_of e.set.image w.index
      → Faithful e.set [] (record { vol = v; outcomes = outcome w [] condition_unevaluable ∷ []; trace = aborted w.rule ∷ [] })
  aborts w v en wet er =
      let name = name_of e.set.image w.index in
      let a : ActivationsOf e.set (aborted name ∷ []) (wet_outcome name w.trigger condition_unevaluable 0 [] ∷ []) = trace.unevaluable w.index no_more in
      let b = subst (λ n. ActivationsOf e.set (aborted n ∷ []) (wet_outcome name w.trigger condition_unevaluable 0 [] ∷ [])) (sym er) a in
      record { part = behind (subst (λ o. ActivationsOf e.set (aborted w.rule ∷ []) (o ∷ [])) (sym (wet-outcome w name [] condition_unevaluable [] wet er refl ∙ ap (λ n. wet_outcome name w.trigger condition_unevaluable n []) en)) b) }

  wet-execute : (w : Job) (d : Bool) (v : Volatile) → d ≡ false → w.dry ≡ false → w.rule ≡ name_of e.set.image w.index → Faithful e.set [] (execute e w d v)
  unfolding execute_wet numbered
  wet-execute w true v t wet er = absurd (true≢false t)
  wet-execute w false v t wet er =
      let u = numbered (next_number v.last_number) w in
      starts u _ wet er (run-trace (budget e.set.image) e u wet start _) (run-effects (budget e.set.image) e u start _).effects

  decides : (w : Job) (d : Decision) (v : Volatile) → w.number ≡ 0 → w.dry ≡ false → w.rule ≡ name_of e.set.image w.index → Faithful e.set [] (decided d e w v)
  decides w (begins s) v en wet er = wet-execute w w.dry (with_rest s v) wet wet er
  decides w (suppressed s) v en wet er = no-outcome (with_rest s v)
  decides w (unevaluable s) v en wet er = aborts w (with_rest s v) en wet er

  activates : (i kind : ℕ) (m : Mode) (v : Volatile) → is_dry m ≡ false → Faithful e.set [] (activate e i kind m v)
  unfolding activate job_of
  activates i kind m v wet =
      decides (job_of e (name_of e.set.image i) i kind (is_dry m)) (decide e i m v.rest) v refl wet refl

  -- behind the resumptions there are activations only
  trace-laws : WheelLaws e (List Pending) (λ i. Unit {0}) (λ cs. Unit {0}) (λ cs v. cs ≡ []) (Faithful e.set)
  trace-laws =
      record {
        next = λ cs x. [];
        nothing = λ cs v p. subst (λ ds. Faithful e.set ds (no_outcome v)) (sym p) (no-outcome v);
        within = λ cs v p. tt;
        behind = λ cs x p a. refl;
        both = λ cs x K a b. and-then cs x K a b;
        order = every_any (name_order e.set.image);
        slot = λ r i q. tt;
        starts = λ cs i kind v our le p. subst (λ ds. Faithful e.set ds (activate e i kind Auto v)) (sym p) (activates i kind Auto v refl);
        timers = λ cs v p. p;
        slots = λ cs v p. p;
        unsynced = λ cs v p. p;
        week = λ cs v w q p. p;
        no-week = λ cs v p. p;
      }

  resumes : (cs : List Pending) (v : Volatile) → Faithful e.set cs (resume_all e cs v)
  unfolding resume_all resume job_of numbered
  resumes [] v = no-outcome v
  resumes (c ∷ cs) v =
      let w : Job = numbered c.number (job_of e c.rule (or_else 0 (rule_named e.set.image c.rule)) c.trigger false) in
      let s = with_rest (bump continuations_fired v.rest) v in
      let r = run_steps c.budget e w c.point s in
      let ih = resumes cs (resume e c v).vol in
      let rest = resume_all e cs (resume e c v).vol in
      record {
        part =
            subst (λ o. PartOf e.set (c ∷ cs) (resumed c ∷ (r.trace ++ rest.trace)) (o ∷ rest.outcomes))
            (sym (wet-outcome w c.rule r.effects r.reason r.trace refl refl (run-effects c.budget e w c.point s).effects))
            (first (run-trace c.budget e w refl c.point s) ih.part);
      }

  pub ticks : (v : Volatile) → Faithful e.set (due_now e.world.now v.pending) (service_tick e v)
  unfolding service_tick fire_continuations
  ticks v =
      wheel e (List Pending) (λ i. Unit {0}) (λ cs. Unit {0}) (λ cs u. cs ≡ []) (Faithful e.set) trace-laws (due_now e.world.now v.pending) (fire_continuations e v) tt
      (resumes _ _)

  pub runs-wet : (x : Option ℕ) (v : Volatile) → Faithful e.set [] (run_rule e x false v)
  runs-wet None v = no-outcome v
  runs-wet (Some i) v = by (is_enabled v.rest i) (λ t. rw t (activates i 0 Manual v refl)) (λ f. rw f (no-outcome _))

-- THE CALLS ---------------------------------------------------------------------------------------------------------------------------
-- a tick, with the set in the store or without one
ticks-refused : (o : Option RuleSet) (n : ℕ) (s : Store) → Ticks o (refuse n s)
ticks-refused None n s = record { trace = refl; outcomes = refl }
ticks-refused (Some set) n s = activations no_more

tick-commits : (n now : ℕ) (x : Handled) (s : Store) (set : RuleSet) (cs : List Pending) → Faithful set cs x → Ticks (Some set) (committing n now x s)
tick-commits zero now x s set cs h = trace-of h.part
tick-commits (suc n) now x s set cs h = ticks-refused (Some set) (suc n) s

no-output-commits : (n now : ℕ) (v : Volatile) (s : Store) → NoOutput (committing n now (no_outcome v) s)
no-output-commits zero now v s = record { trace = refl; outcomes = refl }
no-output-commits (suc n) now v s = record { trace = refl; outcomes = refl }

tick-of : (o : Option RuleSet) (snap : List ℕ) (os es : ℕ) (s : Store) → Ticks o (tick_with o snap os es s)
unfolding tick_with committed
tick-of None snap os es s = no-output-commits (overflow os es (no_outcome s.vol)) (now_of snap) s.vol s
tick-of (Some set) snap os es s =
    let e : Env = record { world = world_of snap; set = set } in
    tick-commits (overflow os es (service_tick e s.vol)) (now_of snap) (service_tick e s.vol) s set _ (ticks e s.vol)

tick-given : (o : Option RuleSet) (n : ℕ) (s : Store) (K : Store → Done) → Ticks o (K s) → Ticks o (given n s K)
tick-given o zero s K h = h
tick-given o (suc n) s K h = ticks-refused o (suc n) s

-- a wet run
runs-refused : (o : Option RuleSet) (r n : ℕ) (s : Store) → RunsWet r o (refuse n s)
runs-refused None r n s = record { trace = refl; outcomes = refl }
runs-refused (Some set) r n s = record { runs = no_more; only = tt }

run-commits : (n now : ℕ) (x : Handled) (s : Store) (set : RuleSet) (r : ℕ) → Faithful set [] x → OnlyOf r x.outcomes → RunsWet r (Some set) (committing n now x s)
run-commits zero now x s set r h only = record { runs = activations-of h.part; only = only }
run-commits (suc n) now x s set r h only = runs-refused (Some set) r (suc n) s

run_of : (o : Option RuleSet) (r : ℕ) (snap : List ℕ) (os es : ℕ) (s : Store) → RunsWet r o (run_with o r false snap os es s)
unfolding run_with committed
run_of None r snap os es s = no-output-commits (overflow os es (no_outcome s.vol)) (now_of snap) s.vol s
run_of (Some set) r snap os es s =
    let e : Env = record { world = world_of snap; set = set } in
    let x = run_rule e (rule_named set.image r) false s.vol in
    run-commits (overflow os es x) (now_of snap) x s set r (runs-wet e (rule_named set.image r) s.vol) (run_only e r s.vol)

run-given : (o : Option RuleSet) (r n : ℕ) (s : Store) (K : Store → Done) → RunsWet r o (K s) → RunsWet r o (given n s K)
run-given o r zero s K h = h
run-given o r (suc n) s K h = runs-refused o r (suc n) s

-- the other calls
load-no-output : (n t : ℕ) (img : List ℕ) (fs : List Flattened) (s : Store) → NoOutput (loading n t img fs s)
load-no-output zero t img fs s = record { trace = refl; outcomes = refl }
load-no-output (suc n) t img fs s = record { trace = refl; outcomes = refl }

enable-no-output : (o : Option ℕ) (r : ℕ) (on : Bool) (s : Store) → NoOutput (enabling o r on s)
enable-no-output None r on s = record { trace = refl; outcomes = refl }
enable-no-output (Some i) r on s = record { trace = refl; outcomes = refl }

pub call-conforms : (c : Call) (s : Store) → Conforms c s.loaded (call c s)
unfolding call call_load call_unload call_enable
call-conforms (new t) s = record { trace = refl; outcomes = refl }
call-conforms (load t img) s = load-no-output (image_refusal_with img (flatten_rules img)) t img (flatten_rules img) s
call-conforms (unload t) s = record { trace = refl; outcomes = refl }
call-conforms (enable r on) s = enable-no-output (rule_in s.loaded r) r on s
call-conforms (tick snap os es) s = tick-given s.loaded (snapshot_refusal snap) s (λ s'. tick_with s'.loaded snap os es s') (tick-of s.loaded snap os es s)
call-conforms (run r true snap os es) s = tt
call-conforms (run r false snap os es) s = run-given s.loaded r (snapshot_refusal snap) s (λ s'. run_with s'.loaded r false snap os es s') (run_of s.loaded r snap os es s)
call-conforms deadline s = record { trace = refl; outcomes = refl }
call-conforms counters s = record { trace = refl; outcomes = refl }
