-- The bound on effects, for every call and every list of calls.
use mathlib.Core.Path.{◌≡◌, refl, sym, ◌∙◌, ap, ap₂}
use Prim.Native.Nat.{ℕ, zero, suc, ◌+◌, ◌-◌, ◌*◌, ◌/◌, ◌≤◌}
use native.Mathlib.Omega.{arith}
use mathlib.Core.Bool.{Bool, true, false, ◌&&◌, true≢false}
use mathlib.Core.List.{List, [], ◌∷◌, map, tail, cons≢nil, head-eq_of_cons-eq, tail-eq_of_cons-eq}
use Rattle.std.specs.Prelude.{Option, None, Some}
use lib.Dec.{leb, ltb, eqb}
use lib.ListN.{set}
use borrow.Author.Tests.{ltb-true, eqb-true, lt-ltb, le-ltb}
use Rattle.model.specs.Lists.{keep, all, or_else}
use Rattle.model.specs.Image as image
use Rattle.model.specs.Rules.{name_of, rule_indices, rule_named}
use Rattle.model.specs.Snapshot.{snapshot_refusal}
use Rattle.model.specs.Load.{image_refusal_with}
use Rattle.model.specs.World.{now_of, world_of}
use Rattle.model.specs.declared.Step.{Step}
use Rattle.model.specs.declared.Point.{Point}
use Rattle.model.specs.Outcome.{Outcome, started, resumed, aborted, paid}
use Rattle.model.specs.declared.Pending.{Pending}
use Rattle.model.specs.State.{next_number, Rest, Env, Volatile, RuleSet, Store, with_rest, with_last_activation, is_enabled, bump, activations_total, continuations_fired}
use Rattle.model.specs.Flat.{Flattened, flatten_rule, flatten_rules, set_of, step_at}
use Rattle.model.specs.Steps.{start}
use Rattle.model.specs.declared.Job.{Job}
use Rattle.model.specs.Exec.{StepResult, exec, RunOutput, continue_run, with_step, run_steps}
use Rattle.model.specs.Activate.{is_dry, Handled, no_outcome, and_then, job_of, numbered, with_number, Decision, begins, suppressed, unevaluable, decide, execute_wet, execute, decided, activate, resume}
use Rattle.model.specs.declared.Mode.{Mode}
use Rattle.model.specs.declared.Mode.TheVariants.{Auto, Manual}
use Rattle.model.specs.Wheel.{due_now, not_due, resume_all, fire_continuations, service_tick}
use Rattle.model.specs.Rules.{name_order}
use Rattle.model.specs.Calls.{Call, new, load, unload, enable, tick, run, deadline, counters, Done, refuse, fresh, loading, call_load, call_unload, enabling, rule_in, call_enable, overflow, committing, committed, tick_with, run_rule, run_with, given, call}
use Rattle.ledger.specs.Ledger.{made, cleared, disabled, ticked, ran, Activation, Posting, Ledger, leaves_before, leaving, staying, resumed_payer, post_item, post_items, post, post_all, events_of, entry_of, is_refused, budget_of, start_ledger, notices, post_call, final_ledger}
use Rattle.ledger.specs.Effects.{same_activation, from, only_if, effects_from}
use Rattle.ledger.proofs.Sound.{Sound}
use Rattle.ledger.proofs.ListLaws.{and_l, and_r, and_from, by}
use Rattle.ledger.proofs.Simulation.{Aged, aged_pending, aged_posting, Sim, post-append, post-traced}
use Rattle.ledger.proofs.TickSimulation.{dues}
use Rattle.ledger.proofs.History.{Agree, follows, starts}
use Rattle.ledger.proofs.Potential.{most, most-bound, potential, potential_of, sum-split, sum-sort}
use Rattle.ledger.proofs.RunBound.{amortized, struck-sum, runs-bound}
use Rattle.ledger.proofs.Shapes.{list_ok, own_ok, flat_ok, flats_ok}
use Rattle.model.specs.Steps.{steps_of}
use Rattle.ledger.proofs.Accepted.{rule-shape}
use Rattle.ledger.proofs.Wheel.{WheelLaws, wheel, every_any}

-- a run changes neither the set's budget, nor what is still to resume, nor the number of activations
pub record Unchanged (l l' : Ledger) : Type 0 where
  pub budget : l'.budget ≡ l.budget
  pub due : l'.due ≡ l.due
  pub count : l'.count ≡ l.count

continue-unchanged : (y : Step) (d : StepResult) (x : Option Point) (K : Point → Volatile → RunOutput) (l : Ledger) → ((sp : Point) (v : Volatile) (m : Ledger) → Unchanged m (post_items (K sp v).trace m))
    → Unchanged l (post_items (continue_run y d x K).trace l)
unfolding continue_run post_item
continue-unchanged y d None K l ih = record { budget = refl; due = refl; count = refl }
continue-unchanged y d (Some sp) K l ih =
    let i = ih sp d.vol (post_item (paid y d.report d.effect) l) in
    record { budget = i.budget; due = i.due; count = i.count }

with-step-unchanged : (b : ℕ) (e : Env) (w : Job) (sp : Point) (v : Volatile) (l : Ledger)
    → ((sp' : Point) (v' : Volatile) (m : Ledger) → Unchanged m (post_items (run_steps b e w sp' v').trace m)) → (x : Option Step)
    → Unchanged l (post_items (with_step x v (λ s. let d = exec e w b sp s v in continue_run s d d.next (λ sp' v'. run_steps b e w sp' v'))).trace l)
unfolding with_step
with-step-unchanged b e w sp v l ih None = record { budget = refl; due = refl; count = refl }
with-step-unchanged b e w sp v l ih (Some x) = continue-unchanged x (exec e w b sp x v) (exec e w b sp x v).next (λ sp' v'. run_steps b e w sp' v') l ih

runs-unchanged : (b : ℕ) (e : Env) (w : Job) (sp : Point) (v : Volatile) (l : Ledger) → Unchanged l (post_items (run_steps b e w sp v).trace l)
unfolding run_steps
runs-unchanged zero e w sp v l = record { budget = refl; due = refl; count = refl }
runs-unchanged (suc b) e w sp v l = with-step-unchanged b e w sp v l (λ sp' v' m. runs-unchanged b e w sp' v' m) (step_at e.set w.index sp)

module _ (ρ : Activation) where
  -- ACTIVATIONS ----------------------------------------------------------------------------------------------------------------------
  -- nothing before it is started, `most` of its budget from then on
  abbrev cap : ℕ → ℕ
  cap n = only_if (ltb ρ.number n) (most ρ.budget)

  cap-mono : (n : ℕ) → cap n ≤ cap (suc n)
  cap-mono n =
      by (ltb ρ.number n)
      (λ t. rw (t, lt-ltb ρ.number (suc n) (omega (arith, ltb-true ρ.number n t))) (omega arith))
      (λ f. rw f (omega arith))

  -- the new activation, if it is ρ, has given nothing yet
  starts-bound : (n b x : ℕ) → x ≤ cap n → x + only_if (same_activation ρ (record { number = n; budget = b })) (most b) ≤ cap (suc n)
  unfolding same_activation
  starts-bound n b x h =
      by (eqb ρ.number n && eqb ρ.budget b)
      (λ t.
      let en = eqb-true ρ.number n (and_l _ _ t) in
      let eb = eqb-true ρ.budget b (and_r (eqb ρ.number n) _ t) in
      let before : cap n ≡ 0 = ap (λ z. only_if z (most ρ.budget)) (le-ltb ρ.number n (omega arith)) in
      let behind : cap (suc n) ≡ most ρ.budget = ap (λ z. only_if z (most ρ.budget)) (lt-ltb ρ.number (suc n) (omega arith)) in
      let same = ap most eb in
      rw t (omega arith))
      (λ f. rw f (let m = cap-mono n in omega arith))

  pub record Within (l : Ledger) : Type 0 where
    pub within : amortized ρ l ≤ cap l.count

  -- a part of a call keeps the bound and the set's budget
  pub record BoundKept (l : Ledger) (x : Handled) : Type 0 where
    pub within : Within (post_items x.trace l)
    pub budget : (post_items x.trace l).budget ≡ l.budget

  no-outcome : (v : Volatile) (l : Ledger) → Within l → BoundKept l (no_outcome v)
  no-outcome v l h = record { within = h; budget = refl }

  aborts : (v : Volatile) (os : List Outcome) (r : ℕ) (l : Ledger) → Within l → BoundKept l (record { vol = v; outcomes = os; trace = aborted r ∷ [] })
  unfolding post_item
  aborts v os r l h = record { within = h; budget = refl }

  and-then : (l : Ledger) (x : Handled) (K : Volatile → Handled) → BoundKept l x → BoundKept (post_items x.trace l) (K x.vol) → BoundKept l (and_then x K)
  and-then l x K p q =
      let y = K x.vol in
      record { within = rw (post-append x.trace y.trace l) q.within; budget = rw (post-append x.trace y.trace l) (q.budget ∙ p.budget) }

  module _ (e : Env) (ok : flat_ok e.set ≡ true) where
    executes : (w : Job) (b : Bool) (v : Volatile) (l : Ledger) → b ≡ false → l.budget ≡ image.budget e.set.image → Within l → BoundKept l (execute e w b v)
    unfolding execute_wet numbered post_item
    executes w true v l wet eb h = absurd (true≢false wet)
    executes w false v l wet eb h =
        let n = next_number v.last_number in
        let u = with_number (suc v.last_number) (with_rest (with_last_activation (set v.rest.last_activation w.index (Some e.world.now)) (bump activations_total v.rest)) v) in
        let x = runs-bound ρ (image.budget e.set.image) e (numbered n w) start u (post_item (started w.rule) l) ok eb in
        let y = runs-unchanged (image.budget e.set.image) e (numbered n w) start u (post_item (started w.rule) l) in
        let z = starts-bound l.count l.budget (amortized ρ l) h.within in
        let q = ap (λ n. only_if (same_activation ρ (record { number = l.count; budget = l.budget })) (most n)) eb in
        let c = ap cap y.count in
        record { within = record { within = omega arith }; budget = y.budget }

    decides : (w : Job) (d : Decision) (v : Volatile) (l : Ledger) → w.dry ≡ false → l.budget ≡ image.budget e.set.image → Within l → BoundKept l (decided d e w v)
    decides w (begins s) v l wet eb h = executes w w.dry (with_rest s v) l wet eb h
    decides w (suppressed s) v l wet eb h = no-outcome (with_rest s v) l h
    decides w (unevaluable s) v l wet eb h = aborts (with_rest s v) _ _ l h

    activates : (i kind : ℕ) (m : Mode) (v : Volatile) (l : Ledger) → is_dry m ≡ false → l.budget ≡ image.budget e.set.image → Within l → BoundKept l (activate e i kind m v)
    unfolding activate job_of
    activates i kind m v l wet eb h = decides (job_of e (name_of e.set.image i) i kind (is_dry m)) (decide e i m v.rest) v l wet eb h

    -- in a call with this set, within the bound
    pub record InBound (l : Ledger) (v : Volatile) : Type 0 where
      pub budget : l.budget ≡ image.budget e.set.image
      pub within : Within l

    any-rest : (r : Rest) (l : Ledger) (v : Volatile) → InBound l v → InBound l (with_rest r v)
    any-rest r l v p = record { budget = p.budget; within = p.within }

    pub bound-laws : WheelLaws e Ledger (λ i. Unit {0}) (λ l. l.budget ≡ image.budget e.set.image) InBound BoundKept
    bound-laws =
        record {
          next = λ l x. post_items x.trace l;
          nothing = λ l v p. no-outcome v l p.within;
          within = λ l v p. p.budget;
          behind = λ l x p a. record { budget = a.budget ∙ p; within = a.within };
          both = λ l x K a b. and-then l x K a b;
          order = every_any (name_order e.set.image);
          slot = λ r i q. tt;
          starts = λ l i kind v our le p. activates i kind Auto v l refl p.budget p.within;
          timers = λ l v p. any-rest _ l v p;
          slots = λ l v p. any-rest _ l v p;
          unsynced = λ l v p. any-rest _ l v p;
          week = λ l v w q p. any-rest _ l v p;
          no-week = λ l v p. any-rest _ l v p;
        }

    -- RESUMPTIONS: what is still to resume counts as if it stood ---------------------------------------------------------------------------
    pub record Resumed (l l' : Ledger) (hs : List Posting) : Type 0 where
      pub spent : amortized ρ l' ≤ amortized ρ l + potential_of ρ hs
      pub count : l'.count ≡ l.count
      pub budget : l'.budget ≡ l.budget

    resumes : (j k : ℕ) (cs : List Pending) (hs : List Posting) (v : Volatile) (l : Ledger) → map (aged_pending k) cs ≡ map (aged_posting j) hs → l.due ≡ hs
        → Resumed l (post_items (resume_all e cs v).trace l) hs
    unfolding resume_all resume job_of numbered post_item entry_of
    resumes j k [] hs v l m d = record { spent = omega arith; count = refl; budget = refl }
    resumes j k (c ∷ cs) [] v l m d = absurd (cons≢nil m)
    resumes j k (c ∷ cs) (h ∷ hs) v l m d =
        let w : Job = numbered c.number (job_of e c.rule (or_else 0 (rule_named e.set.image c.rule)) c.trigger false) in
        let u = with_rest (bump continuations_fired v.rest) v in
        let a : aged_pending k c ≡ aged_posting j h = head-eq_of_cons-eq m in
        let el : (resumed_payer c.rule l.due).left ≡ c.budget = ap (λ ds. (resumed_payer c.rule ds).left) d ∙ sym (ap (λ (x : Aged). x.entry.budget) a) in
        let er : (resumed_payer c.rule l.due).origin ≡ h.origin = ap (λ ds. (resumed_payer c.rule ds).origin) d in
        let x = runs-bound ρ c.budget e w c.point u (post_item (resumed c) l) ok el in
        let y = runs-unchanged c.budget e w c.point u (post_item (resumed c) l) in
        let i = resumes j k cs hs (resume e c v).vol (post_items (resume e c v).trace l) (tail-eq_of_cons-eq m) (y.due ∙ ap tail d) in
        let q : only_if (from ρ (resumed_payer c.rule l.due).origin) (potential c.point.list c.budget)
        ≡ only_if (from ρ h.origin) (potential h.entry.point.list h.entry.budget)
        = ap₂ only_if (ap (from ρ) er) (ap (λ (z : Aged). potential z.entry.point.list z.entry.budget) a) in
        rw (post-append (resume e c v).trace (resume_all e cs (resume e c v).vol).trace l)
        (record { spent = let s = i.spent in omega arith; count = i.count ∙ y.count; budget = i.budget ∙ y.budget })

  -- THE TICK ----------------------------------------------------------------------------------------------------------------------------
  leaves-bound : (t : ℕ) (hs : List Posting) → potential_of ρ (staying t hs) + potential_of ρ (leaving t hs) ≡ potential_of ρ hs
  unfolding staying leaving
  leaves-bound t hs =
      let p : Posting → Bool = λ h. leb h.entry.due t in
      let a = sum-split ρ p hs in
      let b = sum-sort ρ leaves_before (keep p hs) in
      omega arith

  ticks : (o : Option RuleSet) (j k : ℕ) (e : Env) (v : Volatile) (l : Ledger) → Sim o j k v l.standing → flat_ok e.set ≡ true
      → l.budget ≡ image.budget e.set.image → Within l → BoundKept (post (ticked e.world.now) l) (service_tick e v)
  unfolding service_tick fire_continuations post
  ticks o j k e v l sim ok eb h =
      let t = e.world.now in
      let m = post (ticked t) l in
      let q = leaves-bound t l.standing.postings in
      let w = h.within in
      let x = resumes e ok j k (due_now t v.pending) (leaving t l.standing.postings) (not_due t v) m (dues o j k t v l.standing sim) refl in
      let p : BoundKept m (fire_continuations e v) =
      record { within = record { within = let s = x.spent in let c = ap cap x.count in omega arith }; budget = x.budget } in
      wheel e Ledger (λ i. Unit {0}) (λ (u : Ledger). u.budget ≡ image.budget e.set.image) (InBound e ok) BoundKept (bound-laws e ok) m (fire_continuations e v) eb p

  -- ONE CALL, AND ALL ----------------------------------------------------------------------------------------------------------------------
  pub record Stays (c : Call) (l : Ledger) (d : Done) : Type 0 where
    pub ok : flats_ok d.store.loaded ≡ true
    pub within : Within (post_all (events_of (is_refused d.answer) c d.trace) l)

  less : (l l' : Ledger) → amortized ρ l' ≤ amortized ρ l → l'.count ≡ l.count → Within l → Within l'
  less l l' b e h = let w = h.within in let c = ap cap e in record { within = omega arith }

  refuses : (c : Call) (n : ℕ) (s : Store) (l : Ledger) → flats_ok s.loaded ≡ true → Within l → Stays c l (refuse n s)
  unfolding events_of
  refuses c n s l ok h = record { ok = ok; within = h }

  commits : (c : Call) (n now : ℕ) (x : Handled) (s : Store) (l : Ledger) → flats_ok s.loaded ≡ true → Within l
      → Stays c l (committing 0 now x s) → Stays c l (committing n now x s)
  commits c zero now x s l ok h d = d
  commits c (suc n) now x s l ok h d = refuses c (suc n) s l ok h

  snapshot-given : (c : Call) (n : ℕ) (s : Store) (l : Ledger) (K : Store → Done) → flats_ok s.loaded ≡ true → Within l → Stays c l (K s) → Stays c l (given n s K)
  snapshot-given c zero s l K ok h d = d
  snapshot-given c (suc n) s l K ok h d = refuses c (suc n) s l ok h

  -- a set that load accepts has passed flattening
  all-rules : (img : List ℕ) (is : List ℕ) → all own_ok (map (λ (f : Flattened). f.steps) (map (flatten_rule img) is)) ≡ true
  unfolding own_ok
  all-rules img [] = refl
  all-rules img (i ∷ is) =
      and_from (own_ok (flatten_rule img i).steps) _ (and_from (list_ok (steps_of (flatten_rule img i).steps)) _ (rule-shape img i).own (rule-shape img i).bodies) (all-rules img is)

  loads : (n t : ℕ) (img : List ℕ) (s : Store) (l : Ledger) → flats_ok s.loaded ≡ true → Within l → Stays (load t img) l (loading n t img (flatten_rules img) s)
  unfolding events_of post flat_ok set_of flatten_rules
  loads zero t img s l ok h = record { ok = all-rules img (rule_indices img); within = less l (post (cleared (image.budget img)) l) (omega arith) refl h }
  loads (suc n) t img s l ok h = refuses (load t img) (suc n) s l ok h

  enables : (x : Option ℕ) (r : ℕ) (b : Bool) (s : Store) (l : Ledger) → flats_ok s.loaded ≡ true → Within l → Stays (enable r b) l (enabling x r b s)
  unfolding events_of post
  enables None r true s l ok h = record { ok = ok; within = h }
  enables (Some i) r true s l ok h = record { ok = ok; within = h }
  enables None r false s l ok h = record { ok = ok; within = let y = struck-sum ρ r l.standing.postings in less l (post (disabled r) l) (omega arith) refl h }
  enables (Some i) r false s l ok h = record { ok = ok; within = let y = struck-sum ρ r l.standing.postings in less l (post (disabled r) l) (omega arith) refl h }

  tick-bound : (snap : List ℕ) (os es : ℕ) (o : Option RuleSet) (s : Store) (l : Ledger) → s.loaded ≡ o → Agree s l → flats_ok s.loaded ≡ true → Within l
      → Stays (tick snap os es) l (tick_with o snap os es s)
  unfolding tick_with committed events_of post world_of
  tick-bound snap os es None s l e a ok h =
      let q = leaves-bound (now_of snap) l.standing.postings in
      commits (tick snap os es) (overflow os es (no_outcome s.vol)) (now_of snap) (no_outcome s.vol) s l ok h
      (record { ok = ok; within = less l (post (ticked (now_of snap)) l) (omega arith) refl h })
  tick-bound snap os es (Some set) s l e a ok h =
      let env : Env = record { world = world_of snap; set = set } in
      let x = ticks s.loaded a.j a.k env s.vol l a.sim (sym (ap flats_ok e) ∙ ok) (a.budget ∙ ap budget_of e) h in
      commits (tick snap os es) (overflow os es (service_tick env s.vol)) (now_of snap) (service_tick env s.vol) s l ok h
      (record { ok = ok; within = rw (post-traced (service_tick env s.vol).trace (post (ticked (now_of snap)) l)) x.within })

  runs-wet : (e : Env) → flat_ok e.set ≡ true → (x : Option ℕ) (v : Volatile) (l : Ledger) → l.budget ≡ image.budget e.set.image → Within l
      → BoundKept l (run_rule e x false v)
  runs-wet e ok None v l eb h = no-outcome v l h
  runs-wet e ok (Some i) v l eb h =
      by (is_enabled v.rest i) (λ t. rw t (activates e ok i 0 Manual v l refl eb h)) (λ f. rw f (no-outcome _ l h))

  run-bound : (r : ℕ) (snap : List ℕ) (os es : ℕ) (o : Option RuleSet) (s : Store) (l : Ledger) → s.loaded ≡ o → Agree s l → flats_ok s.loaded ≡ true → Within l
      → Stays (run r false snap os es) l (run_with o r false snap os es s)
  unfolding run_with committed events_of post
  run-bound r snap os es None s l e a ok h =
      commits (run r false snap os es) (overflow os es (no_outcome s.vol)) (now_of snap) (no_outcome s.vol) s l ok h
      (record { ok = ok; within = less l (post (ran (now_of snap)) l) (omega arith) refl h })
  run-bound r snap os es (Some set) s l e a ok h =
      let env : Env = record { world = world_of snap; set = set } in
      let y = run_rule env (rule_named set.image r) false s.vol in
      let x = runs-wet env (sym (ap flats_ok e) ∙ ok) (rule_named set.image r) s.vol (post (ran (now_of snap)) l) (a.budget ∙ ap budget_of e)
      (less l (post (ran (now_of snap)) l) (omega arith) refl h) in
      commits (run r false snap os es) (overflow os es y) (now_of snap) y s l ok h
      (record { ok = ok; within = rw (post-traced y.trace (post (ran (now_of snap)) l)) x.within })

  dry-bound : (r : ℕ) (snap : List ℕ) (os es : ℕ) (o : Option RuleSet) (s : Store) (l : Ledger) → flats_ok s.loaded ≡ true → Within l
      → Stays (run r true snap os es) l (run_with o r true snap os es s)
  unfolding run_with committed events_of
  dry-bound r snap os es None s l ok h =
      commits (run r true snap os es) (overflow os es (no_outcome s.vol)) (now_of snap) (no_outcome s.vol) s l ok h (record { ok = ok; within = h })
  dry-bound r snap os es (Some set) s l ok h =
      let y = run_rule (record { world = world_of snap; set = set }) (rule_named set.image r) true s.vol in
      commits (run r true snap os es) (overflow os es y) (now_of snap) y s l ok h (record { ok = ok; within = h })

  call-bound : (c : Call) (s : Store) (l : Ledger) → Agree s l → flats_ok s.loaded ≡ true → Within l → Stays c l (call c s)
  unfolding call call_load call_unload call_enable events_of post fresh
  call-bound (new t) s l a ok h = record { ok = refl; within = less l (post made l) (omega arith) refl h }
  call-bound (load t img) s l a ok h = loads (image_refusal_with img (flatten_rules img)) t img s l ok h
  call-bound (unload t) s l a ok h = record { ok = refl; within = less l (post (cleared 0) l) (omega arith) refl h }
  call-bound (enable r b) s l a ok h = enables (rule_in s.loaded r) r b s l ok h
  call-bound (tick snap os es) s l a ok h = snapshot-given (tick snap os es) (snapshot_refusal snap) s l _ ok h (tick-bound snap os es s.loaded s l refl a ok h)
  call-bound (run r true snap os es) s l a ok h = snapshot-given (run r true snap os es) (snapshot_refusal snap) s l _ ok h (dry-bound r snap os es s.loaded s l ok h)
  call-bound (run r false snap os es) s l a ok h = snapshot-given (run r false snap os es) (snapshot_refusal snap) s l _ ok h (run-bound r snap os es s.loaded s l refl a ok h)
  call-bound deadline s l a ok h = record { ok = ok; within = h }
  call-bound counters s l a ok h = record { ok = ok; within = h }

  history-bound : (s : Store) (l : Ledger) (cs : List Call) → Agree s l → flats_ok s.loaded ≡ true → Within l → Within (final_ledger l (notices s cs))
  unfolding notices final_ledger post_call
  history-bound s l [] a ok h = h
  history-bound s l (c ∷ cs) a ok h =
      let b = call-bound c s l a ok h in
      history-bound (call c s).store (post_all (events_of (is_refused (call c s).answer) c (call c s).trace) l) cs (follows c s l a).agree b.ok b.within

  start-sum : (cs : List Pending) → potential_of ρ (map (λ (c : Pending). record { entry = entry_of c; age = c.seq; number = c.number; origin = None }) cs) ≡ 0
  start-sum [] = refl
  start-sum (c ∷ cs) = let ih = start-sum cs in omega arith

  start-bound : (s : Store) → Within (start_ledger s)
  unfolding start_ledger
  start-bound s = record { within = let z = start-sum s.vol.pending in omega arith }

-- whatever is called, the effects of one activation are bounded by its set's budget
pub effects-bounded : (s : Store) → Sound s → (cs : List Call) (ρ : Activation)
    → effects_from ρ (final_ledger (start_ledger s) (notices s cs)).effects ≤ ρ.budget * (ρ.budget - 1) / 2 + 1
effects-bounded s g cs ρ =
    let w = (history-bound ρ s (start_ledger s) cs (starts s g) g.ok (start-bound ρ s)).within in
    let m = most-bound ρ.budget in
    let c = cap-most (ltb ρ.number (final_ledger (start_ledger s) (notices s cs)).count) in
    omega arith
  where
    cap-most : (b : Bool) → only_if b (most ρ.budget) ≤ most ρ.budget
    cap-most true = omega arith
    cap-most false = omega arith

-- a loaded set has passed load
pub call_ok : (c : Call) (s : Store) → Sound s → flats_ok (call c s).store.loaded ≡ true
call_ok c s g =
    let ρ : Activation = record { number = 0; budget = 0 } in
    (call-bound ρ c s (start_ledger s) (starts s g) g.ok (start-bound ρ s)).ok
