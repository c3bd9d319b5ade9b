-- Every outcome of every list of calls has reason 0, 1 or 2; and at depth 0 the Rust's decision is the specification's. Assumes nothing.
use mathlib.Core.Path.{◌≡◌, refl, ◌∙◌, ap}
use Prim.Native.Nat.{ℕ, zero, suc}
use mathlib.Core.Bool.{Bool, true, false, ◌&&◌}
use mathlib.Core.List.{List, [], ◌∷◌}
use Rattle.std.specs.Prelude.{Option, None, Some}
use Rattle.model.specs.Lists.{all}
use Rattle.model.specs.Image.{budget}
use Rattle.model.specs.Rules.{name_order, rule_named, conditions_of_rule}
use Rattle.model.specs.Flat.{Flattened, flatten_rules}
use Rattle.model.specs.Load.{image_refusal_with}
use Rattle.model.specs.Snapshot.{snapshot_refusal}
use Rattle.model.specs.Steps.{start}
use Rattle.model.specs.World.{world_of}
use Rattle.model.specs.declared.Effect.{Effect}
use Rattle.model.specs.declared.Pending.{Pending}
use Rattle.model.specs.State.{next_number, Env, Rest, RuleSet, Volatile, Store, with_rest, bump, activations_dry, is_enabled}
use Rattle.model.specs.Store.{read}
use Rattle.model.specs.Eval.{conditions_hold}
use Rattle.model.specs.declared.Job.{Job}
use Rattle.model.specs.Dry.{run_steps_dry}
use Rattle.model.specs.Activate.{Handled, no_outcome, and_then, outcome, numbered, is_auto, is_dry, in_cooldown, verdict, decide, execute, execute_wet, execute_dry, decided, activate, resume}
use Rattle.model.specs.declared.Mode.{Mode}
use Rattle.model.specs.declared.Mode.TheVariants.{Auto, Manual, Dry}
use Rattle.model.specs.Wheel.{due_now, not_due, resume_all, fire_continuations, service_tick}
use Rattle.model.specs.Calls.{Call, new, load, unload, enable, tick, run, deadline, counters, Done, loading, call_load, call_unload, enabling, rule_in, call_enable, overflow, committing, committed, tick_with, run_rule, run_with, given, call, answers}
use Rattle.model.proofs.Bools.{all_append}
use Rattle.ledger.specs.Demand3.{in_words}
use Rattle.ledger.specs.OnWords.{answers_on}
use Rattle.ledger.proofs.ListLaws.{by, and_from}
use Rattle.ledger.proofs.OnWords.{on-readable}
use Rattle.ledger.proofs.Wheel.{WheelLaws, every_any, wheel}
use Rattle.reasons.specs.Reasons.{is_known, all_known, shallow, decide_at}
use Rattle.reasons.proofs.StepReasons.{Known, run-known, dry-known}

-- A PART OF A CALL ------------------------------------------------------------------------------------------------------------------------
abbrev Tells : Handled → Type 0
Tells x = all is_known x.outcomes ≡ true

told : (j : Job) (es : List Effect) (r : ℕ) → Known r → all is_known (outcome j es r ∷ []) ≡ true
unfolding outcome
told j es r h = rw h

both : (x : Handled) (K : Volatile → Handled) → Tells x → Tells (K x.vol) → Tells (and_then x K)
both x K p q = all_append is_known x.outcomes (K x.vol).outcomes p q

module _ (e : Env) where
  executed : (b : Bool) (j : Job) (v : Volatile) → Tells (execute e j b v)
  unfolding execute_dry execute_wet
  executed true j v =
      let r = run_steps_dry (budget e.set.image) e j start [] (bump activations_dry v.rest) in
      told j r.effects r.reason (dry-known e j (budget e.set.image) start [] (bump activations_dry v.rest))
  executed false j v = let n = numbered (next_number v.last_number) j in told n _ _ (run-known e n (budget e.set.image) start _)

  judged : (o : Option Bool) (b : Bool) (j : Job) (s : Rest) (v : Volatile) → Tells (decided (verdict o b s) e j v)
  judged (Some true) b j s v = executed j.dry j (with_rest s v)
  judged (Some false) b j s v = refl
  judged None true j s v = told j [] 1 refl
  judged None false j s v = told j [] 1 refl

  activated : (i kind : ℕ) (m : Mode) (v : Volatile) → Tells (activate e i kind m v)
  unfolding activate decide
  activated i kind m v =
      by (is_auto m && in_cooldown e i v.rest) (λ t. rw t refl)
      (λ f. rw f (judged (conditions_hold e v.rest (conditions_of_rule e.set.image i)) (is_dry m) _ v.rest v))

  resumed-known : (c : Pending) (v : Volatile) → Tells (resume e c v)
  unfolding resume
  resumed-known c v = told _ _ _ (run-known e _ c.budget c.point _)

  all-resumed : (ps : List Pending) (v : Volatile) → Tells (resume_all e ps v)
  unfolding resume_all
  all-resumed [] v = refl
  all-resumed (c ∷ ps) v = both (resume e c v) (λ v'. resume_all e ps v') (resumed-known c v) (all-resumed ps (resume e c v).vol)

  laws : WheelLaws e (Unit {0}) (λ i. Unit {0}) (λ s. Unit {0}) (λ s v. Unit {0}) (λ s x. Tells x)
  laws =
      record {
        next = λ s x. tt;
        nothing = λ s v h. refl;
        within = λ s v h. tt;
        behind = λ s x i a. tt;
        both = λ s x K a b. both x K a b;
        order = every_any (name_order e.set.image);
        slot = λ r i h. tt;
        starts = λ s i kind v n le h. activated i kind Auto v;
        timers = λ s v h. tt;
        slots = λ s v h. tt;
        unsynced = λ s v h. tt;
        week = λ s v w q h. tt;
        no-week = λ s v h. tt;
      }

  ticked : (v : Volatile) → Tells (service_tick e v)
  unfolding service_tick fire_continuations
  ticked v =
      wheel e (Unit {0}) (λ i. Unit {0}) (λ s. Unit {0}) (λ s v. Unit {0}) (λ s x. Tells x) laws tt (fire_continuations e v) tt
      (all-resumed (due_now e.world.now v.pending) (not_due e.world.now v))

  ran : (o : Option ℕ) (b : Bool) (v : Volatile) → Tells (run_rule e o b v)
  ran None b v = refl
  ran (Some i) true v = activated i 0 Dry v
  ran (Some i) false v = by (is_enabled v.rest i) (λ t. rw t (activated i 0 Manual v)) (λ f. rw f refl)

-- CALLS ---------------------------------------------------------------------------------------------------------------------------------------
abbrev Says : Done → Type 0
Says d = all_known d.answer ≡ true

commits : (n now : ℕ) (x : Handled) (s : Store) → Tells x → Says (committing n now x s)
commits zero now x s h = h
commits (suc n) now x s h = refl

given-says : (n : ℕ) (s : Store) (k : Store → Done) → Says (k s) → Says (given n s k)
given-says zero s k h = h
given-says (suc n) s k h = refl

tick-says : (o : Option RuleSet) (snap : List ℕ) (os es : ℕ) (s : Store) → Says (tick_with o snap os es s)
unfolding tick_with committed
tick-says None snap os es s = commits (overflow os es (no_outcome s.vol)) _ _ s refl
tick-says (Some set) snap os es s =
    let e : Env = record { world = world_of snap; set = set } in commits (overflow os es (service_tick e s.vol)) _ _ s (ticked e s.vol)

run-says : (o : Option RuleSet) (rule : ℕ) (b : Bool) (snap : List ℕ) (os es : ℕ) (s : Store) → Says (run_with o rule b snap os es s)
unfolding run_with committed
run-says None rule b snap os es s = commits (overflow os es (no_outcome s.vol)) _ _ s refl
run-says (Some set) rule b snap os es s =
    let e : Env = record { world = world_of snap; set = set } in
    let o = rule_named set.image rule in
    commits (overflow os es (run_rule e o b s.vol)) _ _ s (ran e o b s.vol)

load-says : (n t : ℕ) (img : List ℕ) (fs : List Flattened) (s : Store) → Says (loading n t img fs s)
load-says zero t img fs s = refl
load-says (suc n) t img fs s = refl

enable-says : (o : Option ℕ) (rule : ℕ) (on : Bool) (s : Store) → Says (enabling o rule on s)
enable-says None rule on s = refl
enable-says (Some i) rule on s = refl

says : (c : Call) (s : Store) → Says (call c s)
unfolding call call_load call_unload call_enable
says (new t) s = refl
says (load t img) s = load-says (image_refusal_with img (flatten_rules img)) t img (flatten_rules img) s
says (unload t) s = refl
says (enable rule on) s = enable-says (rule_in s.loaded rule) rule on s
says (tick snap os es) s = given-says (snapshot_refusal snap) s (λ s'. tick_with s'.loaded snap os es s') (tick-says s.loaded snap os es s)
says (run rule b snap os es) s = given-says (snapshot_refusal snap) s (λ s'. run_with s'.loaded rule b snap os es s') (run-says s.loaded rule b snap os es s)
says deadline s = refl
says counters s = refl

-- for every store and every list of calls
pub known-reasons : (s : Store) (cs : List Call) → all all_known (answers s cs) ≡ true
unfolding answers
known-reasons s [] = refl
known-reasons s (c ∷ cs) = and_from (all_known (call c s).answer) _ (says c s) (known-reasons (call c s).store cs)

-- and on words that say a store
pub known-reasons-on-words : (w : List ℕ) (s : Store) (cs : List Call) → all in_words cs ≡ true → read w ≡ Some s → all all_known (answers_on w cs) ≡ true
known-reasons-on-words w s cs i r = ap (all all_known) (on-readable w s cs i r).answers ∙ known-reasons s cs

-- THE DEPTH OF A CHAIN ----------------------------------------------------------------------------------------------------------------------
-- no activation of the Rust has another depth
pub at-no-depth : (e : Env) (i : ℕ) (m : Mode) (s : Rest) → decide_at 0 e i m s ≡ shallow (decide e i m s)
unfolding decide_at decide
at-no-depth e i m s = by (is_auto m && in_cooldown e i s) (λ t. rw t refl) (λ f. rw f refl)
