-- The ledger follows the store. What each tick resumes is what leaves the ledger, and what is pending at the end is
-- what stands there. The proof opens no primitive action, no condition and no trigger: it knows an action by its answer alone.
-- More than 400 lines, as one file: the lemmas of one simulation share the parameters of its modules.
use mathlib.Core.Path.{◌≡◌, refl, sym, ◌∙◌, ap, ap₂, subst}
use Prim.Native.Nat.{ℕ, zero, suc, pred, ◌+◌, ◌≤◌, ◌<◌}
use native.Mathlib.Omega.{arith}
use mathlib.Core.Bool.{Bool, true, false, not, true≢false, ◌&&◌}
use mathlib.Core.List.{List, [], ◌∷◌, ◌++◌, map, tail, cons≢nil, head-eq_of_cons-eq, tail-eq_of_cons-eq, append_assoc, map-append}
use Rattle.std.specs.Prelude.{Option, None, Some}
use lib.Dec.{leb, eqb}
use lib.ListN.{length, set, length-append, length-map}
use borrow.Author.Tests.{leb-true, leb-false, le-leb, eq-eqb, ne_eqb}
use Rattle.model.specs.Lists.{keep, all, present, or_else}
use Rattle.model.specs.Image.{budget}
use Rattle.model.specs.Rules.{name_of, rule_named, rule_indices}
use Rattle.model.specs.declared.Step.{Step}
use Rattle.model.specs.declared.Point.{Point}
use Rattle.model.specs.declared.Step.TheVariants.{Primitive, Wait, Branch, After, Fail}
use Rattle.model.specs.Outcome.{Report, plain, disables, defers, Item, started, resumed, aborted, paid, Outcome}
use Rattle.model.specs.declared.Pending.{Pending}
use Rattle.model.specs.State.{next_number, Env, Rest, Volatile, RuleSet, with_rest, with_last_activation, is_full, strike, bump, activations_total, continuations_fired}
use Rattle.model.specs.Flat.{step_at}
use Rattle.model.specs.Eval.{condition_at}
use Rattle.model.specs.Actions.{PrimResult, prim_at}
use Rattle.model.specs.declared.Job.{Job}
use Rattle.model.specs.Exec.{dropped, accepted, schedule, StepResult, after_prim, run_branch, exec, RunOutput, continue_run, with_step, run_steps}
use Rattle.model.specs.Activate.{is_dry, Handled, no_outcome, and_then, outcome, job_of, numbered, with_number, Decision, begins, suppressed, unevaluable, decide, finish_wet, execute_wet, execute, decided, activate, resume}
use Rattle.model.specs.declared.Mode.{Mode}
use Rattle.model.specs.declared.Mode.TheVariants.{Auto}
use Rattle.model.specs.Steps.{start}
use Rattle.model.specs.Wheel.{resume_all}
use Rattle.model.specs.Rules.{name_order}
use Rattle.model.specs.Calls.{rule_in}
use Rattle.model.specs.Store.{is_given}
use Rattle.ledger.specs.Effects.{number_begun, numbers_in, number_of}
use Rattle.model.proofs.Bools.{all_append}
use Rattle.ledger.specs.Ledger.{traced, Entry, Posting, Standing, Payer, Ledger, struck, accept, post_report, pay, resumed_payer, post_item, post_items, post, post_all, entry_of}
use Rattle.ledger.proofs.NextNumber.{next-positive, next-given}
use Rattle.ledger.proofs.ListLaws.{map-keep, length-keep, all_keep, and_l, and_r, and_from, by, Every, every-sort, every-all}
use Rattle.ledger.proofs.Known.{indices-known, named-known}
use Rattle.ledger.proofs.Wheel.{WheelLaws}

-- is there such a rule
abbrev pub known_to : Option RuleSet → ℕ → Bool
known_to o r = present (rule_in o r)

-- an entry with its age, whoever keeps it: the store's numbers and the ledger's differ by a shift
pub record Aged : Type 0 where
  pub entry : Entry
  pub age : ℕ
  pub number : ℕ

abbrev pub aged_pending : ℕ → Pending → Aged
aged_pending k c = record { entry = entry_of c; age = c.seq + k; number = c.number }

abbrev pub aged_posting : ℕ → Posting → Aged
aged_posting j h = record { entry = h.entry; age = h.age + j; number = h.number }

-- WHAT THE TRACE SAYS OF A WAIT OR AN AFTER: it is dropped exactly if 32 stand ---------------------------------------------------------
abbrev pub TellsReport : Standing → Report → Type 0
TellsReport s plain = Unit {0}
TellsReport s (disables q) = Unit {0}
TellsReport s (defers d ms sp) = d ≡ eqb (length s.postings) 32

abbrev pub Tells : Ledger → Item → Type 0
Tells l (started r) = Unit {0}
Tells l (resumed c) = Unit {0}
Tells l (aborted r) = Unit {0}
Tells l (paid x s g) = TellsReport l.standing s

abbrev pub AllTell : Ledger → List Item → Type 0
AllTell l [] = Unit {0}
AllTell l (i ∷ is) = Tells l i × AllTell (post_item i l) is

pub tell-append : (xs ys : List Item) (l : Ledger) → AllTell l xs → AllTell (post_items xs l) ys → AllTell l (xs ++ ys)
tell-append [] ys l a b = b
tell-append (x ∷ xs) ys l a b = (a.0, tell-append xs ys (post_item x l) a.1 b)

-- THE SIMULATION ---------------------------------------------------------------------------------------------------------------
pub record Sim (o : Option RuleSet) (j k : ℕ) (v : Volatile) (s : Standing) : Type 0 where
  pub same : map (aged_pending k) v.pending ≡ map (aged_posting j) s.postings
  pub nexts : v.next + k ≡ s.next + j
  pub few : length v.pending ≤ 32
  pub known : all (λ (c : Pending). known_to o c.rule) v.pending ≡ true
  pub last : v.last_number ≡ s.last_number
  pub given : all (is_given v.last_number) v.pending ≡ true

-- the job's number is the payer's, and was given
abbrev number_given : ℕ → ℕ → Bool
number_given last n = leb 1 n && leb n last

pub record Numbers (s : Standing) (w : Job) (u : Payer) : Type 0 where
  pub same : w.number ≡ u.number
  pub given : number_given s.last_number w.number ≡ true

accept-last : (h : Posting) (s : Standing) → (accept h s).last_number ≡ s.last_number
unfolding accept
accept-last h s = by (eqb (length s.postings) 32) (λ t. rw t refl) (λ f. rw f refl)

report-last : (r : Report) (now : ℕ) (u : Payer) (s : Standing) → (post_report r now u s).last_number ≡ s.last_number
unfolding post_report
report-last plain now u s = refl
report-last (disables q) now u s = refl
report-last (defers d ms sp) now u s = accept-last _ s

pub numbers-append : (xs ys : List Item) (l : Ledger) → numbers_in (xs ++ ys) l ≡ numbers_in xs l ++ numbers_in ys (post_items xs l)
numbers-append [] ys l = refl
numbers-append (x ∷ xs) ys l = ap (λ ns. number_begun x (post_item x l) ++ ns) (numbers-append xs ys (post_item x l)) ∙ sym (append_assoc (number_begun x (post_item x l)) (numbers_in xs (post_item x l)) _)

module _ (o : Option RuleSet) (j k : ℕ) where
  same_length : (v : Volatile) (s : Standing) → Sim o j k v s → length v.pending ≡ length s.postings
  same_length v s h = sym (length-map v.pending (aged_pending k)) ∙ ap length h.same ∙ length-map s.postings (aged_posting j)

  -- an action's other changes do not matter
  pub any-rest : (r : Rest) (v : Volatile) (s : Standing) → Sim o j k v s → Sim o j k (with_rest r v) s
  any-rest r v s h = record { same = h.same; nexts = h.nexts; few = h.few; known = h.known; last = h.last; given = h.given }

  pub struck-same : (q : ℕ) (v : Volatile) (s : Standing) → Sim o j k v s
      → map (aged_pending k) (keep (λ (c : Pending). not (eqb c.rule q)) v.pending) ≡ map (aged_posting j) (struck q s.postings)
  unfolding struck entry_of
  struck-same q v s h =
      let p : Aged → Bool = λ a. not (eqb a.entry.rule q) in
      map-keep (aged_pending k) (λ (c : Pending). not (eqb c.rule q)) p (λ c. refl) v.pending ∙ ap (keep p) h.same
      ∙ sym (map-keep (aged_posting j) (λ (x : Posting). not (eqb x.entry.rule q)) p (λ x. refl) s.postings)

  pub strikes : (q : ℕ) (v : Volatile) (s : Standing) → Sim o j k v s
      → Sim o j k (strike q v) (record { postings = struck q s.postings; next = s.next; last_number = s.last_number })
  unfolding strike
  strikes q v s h =
      record {
        same = struck-same q v s h;
        nexts = h.nexts;
        few = let n = length-keep (λ (c : Pending). not (eqb c.rule q)) v.pending in let m = h.few in omega arith;
        known = all_keep (λ (c : Pending). known_to o c.rule) (λ (c : Pending). not (eqb c.rule q)) v.pending h.known;
        last = h.last;
        given = all_keep (is_given v.last_number) (λ (c : Pending). not (eqb c.rule q)) v.pending h.given;
      }

  schedules : (e : Env) (w : Job) (b : ℕ) (d : Bool) (ms : ℕ) (sp : Point) (v : Volatile) (u : Payer) (s : Standing) → Sim o j k v s → u.rule ≡ w.rule → u.left ≡ b
      → known_to o w.rule ≡ true → Numbers s w u → Sim o j k (schedule e w b ms sp v).vol (post_report (defers d ms sp) e.world.now u s)
  unfolding schedule is_full dropped accepted post_report accept entry_of
  schedules e w b d ms sp v u s h er eb kr nu =
      by (leb 32 (length v.pending))
      (λ full.
      let n : length s.postings ≡ 32 = omega (arith, leb-true 32 (length v.pending) full, same_length v s h, h.few) in
      rw (full, eq-eqb (length s.postings) 32 n) (any-rest _ v s h))
      (λ room.
      let n : length v.pending < 32 = leb-false 32 (length v.pending) room in
      let m : length s.postings ≡ 32 → ⊥ = λ eq. omega (arith, same_length v s h) in
      rw (room, ne_eqb (length s.postings) 32 m)
      (record {
        same = map-append (aged_pending k) v.pending _ ∙ ap₂ ◌++◌ h.same (cc (h.nexts, nu.same)) ∙ sym (map-append (aged_posting j) s.postings _);
        nexts = let e = h.nexts in omega arith;
        few = rw (length-append v.pending) (omega arith);
        known = all_append (λ (c : Pending). known_to o c.rule) v.pending _ h.known (and_from (known_to o w.rule) true kr refl);
        last = h.last;
        given = all_append (is_given v.last_number) v.pending _ h.given (and_from (number_given v.last_number w.number) true (ap (λ n. number_given n w.number) h.last ∙ nu.given) refl);
      }))

  schedules-tell : (e : Env) (w : Job) (b ms : ℕ) (sp : Point) (v : Volatile) (s : Standing) → Sim o j k v s
      → (schedule e w b ms sp v).is_dropped ≡ eqb (length s.postings) 32
  unfolding schedule is_full dropped accepted
  schedules-tell e w b ms sp v s h =
      by (leb 32 (length v.pending))
      (λ full. rw full (sym (eq-eqb (length s.postings) 32 (omega (arith, leb-true 32 (length v.pending) full, same_length v s h, h.few)))))
      (λ room.
      let n : length v.pending < 32 = leb-false 32 (length v.pending) room in
      rw room (sym (ne_eqb (length s.postings) 32 (λ eq. omega (arith, same_length v s h)))))

  acts-tell : (a : PrimResult) (q : Option ℕ) (sp : Point) (v : Volatile) (s : Standing) → TellsReport s (after_prim q a sp v).report
  unfolding after_prim
  acts-tell a None sp v s = tt
  acts-tell a (Some q) sp v s = tt

  branches-tell : (x : Option Bool) (t n : ℕ) (sp : Point) (v : Volatile) (s : Standing) → TellsReport s (run_branch x t n sp v).report
  unfolding run_branch after_prim
  branches-tell (Some true) t n sp v s = tt
  branches-tell (Some false) t n sp v s = tt
  branches-tell None t n sp v s = tt

  -- one step
  execs-tell : (e : Env) (w : Job) (b : ℕ) (sp : Point) (x : Step) (v : Volatile) (s : Standing) → Sim o j k v s → TellsReport s (exec e w b sp x v).report
  unfolding exec
  execs-tell e w b sp (Primitive i) v s h = acts-tell (prim_at e w v.rest i) (prim_at e w v.rest i).disables _ v s
  execs-tell e w b sp (Wait ms) v s h = schedules-tell e w b ms _ v s h
  execs-tell e w b sp (After ms) v s h = schedules-tell e w b ms _ v s h
  execs-tell e w b sp (Branch c t n) v s h = branches-tell (condition_at e v.rest c) t n sp v s
  execs-tell e w b sp Fail v s h = unfold after_prim in tt

  acts : (a : PrimResult) (q : Option ℕ) (sp : Point) (v : Volatile) (now : ℕ) (u : Payer) (s : Standing) → Sim o j k v s
      → Sim o j k (after_prim q a sp v).vol (post_report (after_prim q a sp v).report now u s)
  unfolding after_prim post_report
  acts a None sp v now u s h = any-rest a.rest v s h
  acts a (Some q) sp v now u s h = strikes q (with_rest a.rest v) s (any-rest a.rest v s h)

  branches : (x : Option Bool) (t n : ℕ) (sp : Point) (v : Volatile) (now : ℕ) (u : Payer) (s : Standing) → Sim o j k v s
      → Sim o j k (run_branch x t n sp v).vol (post_report (run_branch x t n sp v).report now u s)
  unfolding run_branch after_prim post_report
  branches (Some true) t n sp v now u s h = h
  branches (Some false) t n sp v now u s h = h
  branches None t n sp v now u s h = any-rest _ v s h

  -- one step
  execs : (e : Env) (w : Job) (b : ℕ) (sp : Point) (x : Step) (v : Volatile) (u : Payer) (s : Standing) → Sim o j k v s → u.rule ≡ w.rule → u.left ≡ b
      → known_to o w.rule ≡ true → Numbers s w u → Sim o j k (exec e w b sp x v).vol (post_report (exec e w b sp x v).report e.world.now u s)
  unfolding exec
  execs e w b sp (Primitive i) v u s h er eb kr nu = acts (prim_at e w v.rest i) (prim_at e w v.rest i).disables _ v e.world.now u s h
  execs e w b sp (Wait ms) v u s h er eb kr nu = schedules e w b _ ms _ v u s h er eb kr nu
  execs e w b sp (After ms) v u s h er eb kr nu = schedules e w b _ ms _ v u s h er eb kr nu
  execs e w b sp (Branch c t n) v u s h er eb kr nu = branches (condition_at e v.rest c) t n sp v e.world.now u s h
  execs e w b sp Fail v u s h er eb kr nu = unfold post_report after_prim in any-rest _ v s h

-- what a run leaves as it was
pub record Kept (l l' : Ledger) : Type 0 where
  pub now : l'.now ≡ l.now
  pub budget : l'.budget ≡ l.budget
  pub due : l'.due ≡ l.due
  pub last : l'.standing.last_number ≡ l.standing.last_number

kept_refl : {a : Ledger} → Kept a a
kept_refl = record { now = refl; budget = refl; due = refl; last = refl }

pub post-append : (xs ys : List Item) (l : Ledger) → post_items (xs ++ ys) l ≡ post_items ys (post_items xs l)
post-append [] ys l = refl
post-append (x ∷ xs) ys l = post-append xs ys (post_item x l)

-- a trace among the events
pub post-traced : (xs : List Item) (l : Ledger) → post_all (map traced xs) l ≡ post_items xs l
unfolding post
post-traced [] l = refl
post-traced (x ∷ xs) l = post-traced xs (post_item x l)

module _ (o : Option RuleSet) (j k : ℕ) where
  -- a run: the engine and the ledger end alike, and the ledger's call goes on
  pub record Ends (l : Ledger) (x : RunOutput) : Type 0 where
    pub sim : Sim o j k x.vol (post_items x.trace l).standing
    pub kept : Kept l (post_items x.trace l)
    pub told : AllTell l x.trace
    pub silent : numbers_in x.trace l ≡ []

  -- at the head of a run
  pub record Set (e : Env) (w : Job) (b : ℕ) (v : Volatile) (l : Ledger) : Type 0 where
    pub sim : Sim o j k v l.standing
    pub now : l.now ≡ e.world.now
    pub rule : l.payer.rule ≡ w.rule
    pub left : l.payer.left ≡ b
    pub numbers : Numbers l.standing w l.payer

  continue-run : (e : Env) (w : Job) (b : ℕ) (y : Step) (d : StepResult) (n : Option Point) (K : Point → Volatile → RunOutput) (l : Ledger)
      → Set e w b d.vol (post_item (paid y d.report d.effect) l) → TellsReport l.standing d.report
      → ((sp : Point) (v : Volatile) (m : Ledger) → Set e w b v m → Ends m (K sp v))
      → Ends l (continue_run y d n K)
  unfolding continue_run post_item
  continue-run e w b y d None K l h tells ih = record { sim = h.sim; kept = record { now = refl; budget = refl; due = refl; last = report-last d.report _ _ _ }; told = (tells, tt); silent = refl }
  continue-run e w b y d (Some sp) K l h tells ih =
      let x = ih sp d.vol (post_item (paid y d.report d.effect) l) h in
      record { sim = x.sim; kept = record { now = x.kept.now; budget = x.kept.budget; due = x.kept.due; last = x.kept.last ∙ report-last d.report _ _ _ }; told = (tells, x.told); silent = x.silent }

  -- the first step of a run, and the rest by `ih`
  with-step : (b : ℕ) (e : Env) (w : Job) (sp : Point) (v : Volatile) (l : Ledger) → known_to o w.rule ≡ true → Set e w (suc b) v l
      → ((sp' : Point) (v' : Volatile) (m : Ledger) → Set e w b v' m → Ends m (run_steps b e w sp' v')) → (x : Option Step)
      → Ends l (with_step x v (λ s. let d = exec e w b sp s v in continue_run s d d.next (λ sp' v'. run_steps b e w sp' v')))
  unfolding with_step post_item
  with-step b e w sp v l kr h ih None = record { sim = h.sim; kept = kept_refl; told = tt; silent = refl }
  with-step b e w sp v l kr h ih (Some x) =
      continue-run e w b x (exec e w b sp x v) (exec e w b sp x v).next (λ sp' v'. run_steps b e w sp' v') l
      (record {
        sim = rw h.now (execs o j k e w b sp x v (pay l.payer) l.standing h.sim h.rule (ap pred h.left) kr (record { same = h.numbers.same; given = h.numbers.given }));
        now = h.now;
        rule = h.rule;
        left = ap pred h.left;
        numbers = record { same = h.numbers.same; given = ap (λ n. number_given n w.number) (report-last (exec e w b sp x v).report _ _ _) ∙ h.numbers.given };
      })
      (execs-tell o j k e w b sp x v l.standing h.sim) ih

  pub runs : (b : ℕ) (e : Env) (w : Job) (sp : Point) (v : Volatile) (l : Ledger) → known_to o w.rule ≡ true → Set e w b v l → Ends l (run_steps b e w sp v)
  unfolding run_steps
  runs zero e w sp v l kr h = record { sim = h.sim; kept = kept_refl; told = tt; silent = refl }
  runs (suc b) e w sp v l kr h = with-step b e w sp v l kr h (λ sp' v' m g. runs b e w sp' v' m kr g) (step_at e.set w.index sp)

  -- a list of runs: the budget of the set and the call's time stay
  pub record Simulates (l : Ledger) (x : Handled) : Type 0 where
    pub sim : Sim o j k x.vol (post_items x.trace l).standing
    pub now : (post_items x.trace l).now ≡ l.now
    pub budget : (post_items x.trace l).budget ≡ l.budget
    pub told : AllTell l x.trace
    pub shown : map number_of x.outcomes ≡ numbers_in x.trace l

  pub no-outcome : (v : Volatile) (l : Ledger) → Sim o j k v l.standing → Simulates l (no_outcome v)
  no-outcome v l h = record { sim = h; now = refl; budget = refl; told = tt; shown = refl }

  aborts : (v : Volatile) (x : Outcome) (r : ℕ) (l : Ledger) → x.number ≡ 0 → Sim o j k v l.standing → Simulates l (record { vol = v; outcomes = x ∷ []; trace = aborted r ∷ [] })
  unfolding post_item
  aborts v x r l z h = record { sim = h; now = refl; budget = refl; told = (tt, tt); shown = ap (λ n. n ∷ []) z }

  pub and-then : (l : Ledger) (x : Handled) (K : Volatile → Handled) → Simulates l x → Simulates (post_items x.trace l) (K x.vol) → Simulates l (and_then x K)
  and-then l x K p q =
      let y = K x.vol in
      record {
        sim = rw (post-append x.trace y.trace l) q.sim;
        now = rw (post-append x.trace y.trace l) (q.now ∙ p.now);
        budget = rw (post-append x.trace y.trace l) (q.budget ∙ p.budget);
        told = tell-append x.trace y.trace l p.told q.told;
        shown = map-append number_of x.outcomes y.outcomes ∙ ap₂ ◌++◌ p.shown q.shown ∙ sym (numbers-append x.trace y.trace l);
      }

  -- the next number is taken
  given-later : (n : ℕ) (cs : List Pending) → all (is_given n) cs ≡ true → all (is_given (suc n)) cs ≡ true
  given-later n [] h = refl
  given-later n (c ∷ cs) h =
      let a = and_l (is_given n c) _ h in
      let le = leb-true c.number n (and_r (leb 1 c.number) _ a) in
      and_from (is_given (suc n) c) _ (and_from (leb 1 c.number) _ (and_l (leb 1 c.number) _ a) (le-leb c.number (suc n) (omega arith))) (given-later n cs (and_r (is_given n c) _ h))

  takes-number : (r : Rest) (v : Volatile) (s : Standing) → Sim o j k v s
      → Sim o j k (with_number (suc v.last_number) (with_rest r v)) (record { postings = s.postings; next = s.next; last_number = suc s.last_number })
  takes-number r v s h = record { same = h.same; nexts = h.nexts; few = h.few; known = h.known; last = ap suc h.last; given = given-later v.last_number v.pending h.given }

  -- a wet activation
  executes : (e : Env) (w : Job) (v : Volatile) (l : Ledger) → known_to o w.rule ≡ true → Sim o j k v l.standing → l.now ≡ e.world.now
      → l.budget ≡ budget e.set.image → Simulates l (execute_wet e w v)
  unfolding execute_wet finish_wet post_item numbered outcome
  executes e w v l kr h hn hb =
      let n = next_number v.last_number in
      let u = numbered n w in
      let s : Rest = with_last_activation (set v.rest.last_activation w.index (Some e.world.now)) (bump activations_total v.rest) in
      let x = runs (budget e.set.image) e u start (with_number (suc v.last_number) (with_rest s v)) (post_item (started w.rule) l) kr
      (record { sim = takes-number s v l.standing h; now = hn; rule = refl; left = hb; numbers = record { same = ap next_number h.last; given = and_from (leb 1 n) _ (le-leb 1 n (next-positive v.last_number)) (le-leb n _ (let z = h.last in let g = next-given v.last_number in omega arith)) } }) in
      record {
        sim = any-rest o j k _ _ _ x.sim;
        now = x.kept.now;
        budget = x.kept.budget;
        told = (tt, x.told);
        shown = ap₂ ◌∷◌ (ap next_number h.last) (sym x.silent);
      }

  wet-execute : (e : Env) (w : Job) (d : Bool) (v : Volatile) (l : Ledger) → d ≡ false → known_to o w.rule ≡ true → Sim o j k v l.standing
      → l.now ≡ e.world.now → l.budget ≡ budget e.set.image → Simulates l (execute e w d v)
  wet-execute e w true v l wet kr h hn hb = absurd (true≢false wet)
  wet-execute e w false v l wet kr h hn hb = executes e w v l kr h hn hb

  decides : (e : Env) (w : Job) (d : Decision) (v : Volatile) (l : Ledger) → w.number ≡ 0 → w.dry ≡ false → known_to o w.rule ≡ true → Sim o j k v l.standing
      → l.now ≡ e.world.now → l.budget ≡ budget e.set.image → Simulates l (decided d e w v)
  unfolding outcome
  decides e w (begins s) v l z wet kr h hn hb = wet-execute e w w.dry (with_rest s v) l wet kr (any-rest o j k s v l.standing h) hn hb
  decides e w (suppressed s) v l z wet kr h hn hb = no-outcome (with_rest s v) l (any-rest o j k s v l.standing h)
  decides e w (unevaluable s) v l z wet kr h hn hb = aborts (with_rest s v) _ _ l z (any-rest o j k s v l.standing h)

  pub activates : (e : Env) (i kind : ℕ) (m : Mode) (v : Volatile) (l : Ledger) → is_dry m ≡ false → known_to o (name_of e.set.image i) ≡ true
      → Sim o j k v l.standing → l.now ≡ e.world.now → l.budget ≡ budget e.set.image → Simulates l (activate e i kind m v)
  unfolding activate job_of
  activates e i kind m v l wet kr h hn hb = decides e (job_of e (name_of e.set.image i) i kind (is_dry m)) (decide e i m v.rest) v l refl wet kr h hn hb

  module _ (e : Env) (ok : (i : ℕ) → present (rule_named e.set.image (name_of e.set.image i)) ≡ true → known_to o (name_of e.set.image i) ≡ true) where
    -- a rule of the set
    abbrev pub named_rule : ℕ → Type 0
    named_rule i = present (rule_named e.set.image (name_of e.set.image i)) ≡ true

    by_name : Every named_rule (name_order e.set.image)
    unfolding name_order
    by_name =
        every-sort named_rule _ (rule_indices e.set.image)
        (every-all (λ i. present (rule_named e.set.image (name_of e.set.image i))) (rule_indices e.set.image) (indices-known e.set.image))

    -- in a call at this time, with this set
    pub record InCall (l : Ledger) : Type 0 where
      pub now : l.now ≡ e.world.now
      pub budget : l.budget ≡ budget e.set.image

    pub record Follows (l : Ledger) (v : Volatile) : Type 0 where
      pub sim : Sim o j k v l.standing
      pub call : InCall l

    follows-rest : (r : Rest) (l : Ledger) (v : Volatile) → Follows l v → Follows l (with_rest r v)
    follows-rest r l v p = record { sim = any-rest o j k r v l.standing p.sim; call = p.call }

    pub ledger-laws : WheelLaws e Ledger named_rule InCall Follows Simulates
    ledger-laws =
        record {
          next = λ l x. post_items x.trace l;
          nothing = λ l v p. no-outcome v l p.sim;
          within = λ l v p. p.call;
          behind = λ l x p a. record { sim = a.sim; call = record { now = a.now ∙ p.now; budget = a.budget ∙ p.budget } };
          both = λ l x K a b. and-then l x K a b;
          order = by_name;
          slot = λ r i q. named-known e.set.image r i q;
          starts = λ l i kind v our le p. activates e i kind Auto v l refl (ok i our) p.sim p.call.now p.call.budget;
          timers = λ l v p. follows-rest _ l v p;
          slots = λ l v p. follows-rest _ l v p;
          unsynced = λ l v p. follows-rest _ l v p;
          week = λ l v w q p. follows-rest _ l v p;
          no-week = λ l v p. follows-rest _ l v p;
        }

    -- the due records resume in the ledger's order, each with the budget of its entry
    pub all-resume : (cs : List Pending) (hs : List Posting) (v : Volatile) (l : Ledger) → map (aged_pending k) cs ≡ map (aged_posting j) hs → l.due ≡ hs
        → all (λ (c : Pending). known_to o c.rule) cs ≡ true → all (is_given l.standing.last_number) cs ≡ true → Sim o j k v l.standing → l.now ≡ e.world.now → Simulates l (resume_all e cs v)
    unfolding resume_all resume job_of numbered outcome finish_wet post_item entry_of
    all-resume [] hs v l m d kn gn h hn = no-outcome v l h
    all-resume (c ∷ cs) [] v l m d kn gn h hn = absurd (cons≢nil m)
    all-resume (c ∷ cs) (x ∷ xs) v l m d kn gn h hn =
        let number : c.number ≡ (resumed_payer c.rule l.due).number = ap (λ (a : Aged). a.number) (head-eq_of_cons-eq m) ∙ sym (ap (λ ds. (resumed_payer c.rule ds).number) d) in
        let q = runs c.budget e (numbered c.number (job_of e c.rule (or_else 0 (rule_named e.set.image c.rule)) c.trigger false)) c.point
        (with_rest (bump continuations_fired v.rest) v) (post_item (resumed c) l) (and_l _ _ kn)
        (record {
          sim = any-rest o j k _ v l.standing h;
          now = hn;
          rule = ap (λ ds. (resumed_payer c.rule ds).rule) d;
          left = ap (λ ds. (resumed_payer c.rule ds).left) d ∙ sym (ap (λ (a : Aged). a.entry.budget) (head-eq_of_cons-eq m));
          numbers = record { same = number; given = and_l (is_given l.standing.last_number c) _ gn };
        }) in
        let p : Simulates l (resume e c v) = record { sim = any-rest o j k _ _ _ q.sim; now = q.kept.now; budget = q.kept.budget; told = (tt, q.told); shown = ap₂ ◌∷◌ number (sym q.silent) } in
        and-then l (resume e c v) (λ v'. resume_all e cs v') p
        (all-resume cs xs (resume e c v).vol _ (tail-eq_of_cons-eq m) (q.kept.due ∙ ap tail d) (and_r (known_to o c.rule) _ kn) (subst (λ n. all (is_given n) cs ≡ true) (sym q.kept.last) (and_r (is_given l.standing.last_number c) _ gn)) p.sim (p.now ∙ hn))
