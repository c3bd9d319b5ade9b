-- The set in the store is the one that the accepted calls have loaded last.
use mathlib.Core.Path.{◌≡◌, refl, ◌∙◌, ap}
use Prim.Native.Nat.{ℕ, zero, suc}
use mathlib.Core.Bool.{Bool, true, false}
use mathlib.Core.List.{List, [], ◌∷◌}
use Rattle.std.specs.Prelude.{Option, None, Some}
use Rattle.model.specs.State.{Store, RuleSet}
use Rattle.model.specs.Activate.{Handled}
use Rattle.model.specs.Flat.{flatten_rules}
use Rattle.model.specs.Load.{image_refusal_with}
use Rattle.model.specs.Snapshot.{snapshot_refusal}
use Rattle.model.specs.Calls.{Call, new, load, unload, enable, tick, run, deadline, counters, Done, fresh, loading, call_load, call_unload, enabling, rule_in, call_enable, overflow, committing, committed, tick_with, run_with, given, call}
use Rattle.ledger.specs.Ledger.{is_refused, notices, final_store}
use Rattle.ledger.specs.Sets.{set_after_call, set_after}

-- the set that a call leaves
abbrev Leaves : Call → Store → Done → Type 0
Leaves c s d = d.store.loaded ≡ set_after_call (is_refused d.answer) c s.loaded

load-leaves : (n t : ℕ) (img : List ℕ) (s : Store) → Leaves (load t img) s (loading n t img (flatten_rules img) s)
load-leaves zero t img s = refl
load-leaves (suc n) t img s = refl

enable-leaves : (o : Option ℕ) (r : ℕ) (on : Bool) (s : Store) → Leaves (enable r on) s (enabling o r on s)
enable-leaves None r on s = refl
enable-leaves (Some i) r on s = refl

-- a tick or run leaves the set as it was, refused or not
abbrev KeepsSet : Store → Done → Type 0
KeepsSet s d = d.store.loaded ≡ s.loaded

commit-keeps : (n now : ℕ) (x : Handled) (s : Store) → KeepsSet s (committing n now x s)
commit-keeps zero now x s = refl
commit-keeps (suc n) now x s = refl

committed-keeps : (os es now : ℕ) (x : Handled) (s : Store) → KeepsSet s (committed os es now x s)
unfolding committed
committed-keeps os es now x s = commit-keeps (overflow os es x) now x s

tick-keeps : (o : Option RuleSet) (snap : List ℕ) (os es : ℕ) (s : Store) → KeepsSet s (tick_with o snap os es s)
unfolding tick_with
tick-keeps None snap os es s = committed-keeps os es _ _ s
tick-keeps (Some set) snap os es s = committed-keeps os es _ _ s

run-keeps : (o : Option RuleSet) (r : ℕ) (dry : Bool) (snap : List ℕ) (os es : ℕ) (s : Store) → KeepsSet s (run_with o r dry snap os es s)
unfolding run_with
run-keeps None r dry snap os es s = committed-keeps os es _ _ s
run-keeps (Some set) r dry snap os es s = committed-keeps os es _ _ s

given-keeps : (n : ℕ) (s : Store) (K : Store → Done) → KeepsSet s (K s) → KeepsSet s (given n s K)
given-keeps zero s K h = h
given-keeps (suc n) s K h = refl

tick-leaves : (b : Bool) (snap : List ℕ) (os es : ℕ) (o : Option RuleSet) → o ≡ set_after_call b (tick snap os es) o
tick-leaves true snap os es o = refl
tick-leaves false snap os es o = refl

run-leaves : (b : Bool) (r : ℕ) (dry : Bool) (snap : List ℕ) (os es : ℕ) (o : Option RuleSet) → o ≡ set_after_call b (run r dry snap os es) o
run-leaves true r dry snap os es o = refl
run-leaves false r dry snap os es o = refl

pub call-leaves : (c : Call) (s : Store) → Leaves c s (call c s)
unfolding call call_load call_unload call_enable fresh
call-leaves (new t) s = refl
call-leaves (load t img) s = load-leaves (image_refusal_with img (flatten_rules img)) t img s
call-leaves (unload t) s = refl
call-leaves (enable r on) s = enable-leaves (rule_in s.loaded r) r on s
call-leaves (tick snap os es) s =
    given-keeps (snapshot_refusal snap) s (λ s'. tick_with s'.loaded snap os es s') (tick-keeps s.loaded snap os es s)
    ∙ tick-leaves (is_refused (call (tick snap os es) s).answer) snap os es s.loaded
call-leaves (run r dry snap os es) s =
    given-keeps (snapshot_refusal snap) s (λ s'. run_with s'.loaded r dry snap os es s') (run-keeps s.loaded r dry snap os es s)
    ∙ run-leaves (is_refused (call (run r dry snap os es) s).answer) r dry snap os es s.loaded
call-leaves deadline s = refl
call-leaves counters s = refl

pub set_after_lem : (s : Store) (cs : List Call) → (final_store s cs).loaded ≡ set_after s.loaded (notices s cs)
unfolding final_store notices set_after
set_after_lem s [] = refl
set_after_lem s (c ∷ cs) = set_after_lem (call c s).store cs ∙ ap (λ o. set_after o (notices (call c s).store cs)) (call-leaves c s)
