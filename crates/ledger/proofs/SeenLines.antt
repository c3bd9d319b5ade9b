-- What a caller sees of a call tells its line of the log: a number that is not 0 is a refusal, and the values of a tick or a run begin with the
-- count of its outcomes.
use mathlib.Core.Path.{◌≡◌, refl, ap, ap₂}
use Prim.Native.Nat.{ℕ, zero, suc}
use native.Mathlib.Omega.{arith}
use mathlib.Core.Bool.{Bool, not}
use mathlib.Core.List.{List, [], ◌∷◌, map}
use Rattle.std.specs.Prelude.{Option, None, Some}
use lib.Dec.{eqb}
use lib.ListN.{length}
use borrow.Author.Tests.{ne_eqb}
use Rattle.model.specs.Flat.{Flattened, flatten_rules}
use Rattle.model.specs.Load.{image_refusal_with}
use Rattle.model.specs.Rules.{rule_named}
use Rattle.model.specs.Snapshot.{snapshot_refusal}
use Rattle.model.specs.World.{now_of, world_of}
use Rattle.model.specs.State.{Store, RuleSet}
use Rattle.model.specs.Activate.{Handled, no_outcome}
use Rattle.model.specs.Wheel.{service_tick}
use Rattle.model.specs.Calls.{Call, new, load, unload, enable, tick, run, deadline, counters, Answer, refused, Done, overflow, committing, committed, enabling, rule_in, loading, call_load, call_unload, call_enable, tick_with, run_rule, run_with, given, answers, call}
use Rattle.model.specs.Answers as model
use Rattle.model.specs.Answers.{outcomes_in, outcome_store}
use Rattle.model.specs.OnWords.{outcome_words_of}
use Rattle.ledger.specs.Ledger.{is_refused}
use Rattle.ledger.specs.Log.{Line, lines}
use Rattle.ledger.specs.LogWords.{WordLine, word_line, outcomes_said, seen_line}

record Tells (c : Call) (a : Answer) : Type 0 where
  refusal : not (eqb (model.number_of a) 0) ≡ is_refused a
  count : outcomes_said c (model.values_of a) ≡ length (outcomes_in a)

-- a refusal, whose number is not 0
said-nothing : (c : Call) → outcomes_said c [] ≡ 0
said-nothing (new t) = refl
said-nothing (load t img) = refl
said-nothing (unload t) = refl
said-nothing (enable r on) = refl
said-nothing (tick snap os es) = refl
said-nothing (run r dry snap os es) = refl
said-nothing deadline = refl
said-nothing counters = refl

refuses : (c : Call) (n : ℕ) → Tells c (refused (suc n))
unfolding model.number_of model.values_of
refuses c n = record { refusal = ap not (ne_eqb (suc n) 0 (λ e. omega arith)); count = said-nothing c }

loads : (n t : ℕ) (img : List ℕ) (fs : List Flattened) (s : Store) → Tells (load t img) (loading n t img fs s).answer
unfolding model.number_of model.values_of
loads zero t img fs s = record { refusal = refl; count = refl }
loads (suc n) t img fs s = refuses (load t img) n

enables : (o : Option ℕ) (rule : ℕ) (on : Bool) (s : Store) → Tells (enable rule on) (enabling o rule on s).answer
unfolding model.number_of model.values_of
enables None rule on s = record { refusal = refl; count = refl }
enables (Some i) rule on s = record { refusal = refl; count = refl }

ticks : (snap : List ℕ) (os es n now : ℕ) (x : Handled) (s : Store) → Tells (tick snap os es) (committing n now x s).answer
unfolding model.number_of model.values_of
ticks snap os es zero now x s = record { refusal = refl; count = refl }
ticks snap os es (suc n) now x s = refuses (tick snap os es) n

runs : (r : ℕ) (dry : Bool) (snap : List ℕ) (os es n now : ℕ) (x : Handled) (s : Store) → Tells (run r dry snap os es) (committing n now x s).answer
unfolding model.number_of model.values_of
runs r dry snap os es zero now x s = record { refusal = refl; count = refl }
runs r dry snap os es (suc n) now x s = refuses (run r dry snap os es) n

tick-tells : (o : Option RuleSet) (snap : List ℕ) (os es : ℕ) (s : Store) → Tells (tick snap os es) (tick_with o snap os es s).answer
unfolding tick_with committed
tick-tells None snap os es s = let x = no_outcome s.vol in ticks snap os es (overflow os es x) (now_of snap) x s
tick-tells (Some set) snap os es s = let x = service_tick (record { world = world_of snap; set = set }) s.vol in ticks snap os es (overflow os es x) (now_of snap) x s

run-tells : (o : Option RuleSet) (r : ℕ) (dry : Bool) (snap : List ℕ) (os es : ℕ) (s : Store) → Tells (run r dry snap os es) (run_with o r dry snap os es s).answer
unfolding run_with committed
run-tells None r dry snap os es s = let x = no_outcome s.vol in runs r dry snap os es (overflow os es x) (now_of snap) x s
run-tells (Some set) r dry snap os es s =
    let x = run_rule (record { world = world_of snap; set = set }) (rule_named set.image r) dry s.vol in runs r dry snap os es (overflow os es x) (now_of snap) x s

if-given : (c : Call) (n : ℕ) (s : Store) (K : Store → Done) → Tells c (K s).answer → Tells c (given n s K).answer
if-given c zero s K h = h
if-given c (suc n) s K h = refuses c n

call-tells : (c : Call) (s : Store) → Tells c (call c s).answer
unfolding call call_load call_unload call_enable model.number_of model.values_of
call-tells (new t) s = record { refusal = refl; count = refl }
call-tells (load t img) s = loads (image_refusal_with img (flatten_rules img)) t img (flatten_rules img) s
call-tells (unload t) s = record { refusal = refl; count = refl }
call-tells (enable rule on) s = enables (rule_in s.loaded rule) rule on s
call-tells (tick snap os es) s = if-given (tick snap os es) (snapshot_refusal snap) s (λ s'. tick_with s'.loaded snap os es s') (tick-tells s.loaded snap os es s)
call-tells (run r dry snap os es) s = if-given (run r dry snap os es) (snapshot_refusal snap) s (λ s'. run_with s'.loaded r dry snap os es s') (run-tells s.loaded r dry snap os es s)
call-tells deadline s = record { refusal = refl; count = refl }
call-tells counters s = record { refusal = refl; count = refl }

abbrev pub seen_as : Line → WordLine
seen_as x = seen_line x.call (model.number_of x.answer) (model.values_of x.answer) (outcome_store (outcome_words_of x.call) x.answer)

pub seen-lines : (s : Store) (cs : List Call) → map seen_as (lines cs (answers s cs)) ≡ map word_line (lines cs (answers s cs))
unfolding answers
seen-lines s [] = refl
seen-lines s (c ∷ cs) =
    let a = (call c s).answer in
    let t = call-tells c s in
    ap₂ ◌∷◌ (ap₂ (λ r n. record { call = c; refused = r; count = n; words = outcome_store (outcome_words_of c) a }) t.refusal t.count) (seen-lines (call c s).store cs)
