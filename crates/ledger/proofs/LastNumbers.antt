-- What is not refused (31, 32) leaves a next sequence number and a last activation number of 64 bits.
use mathlib.Core.Path.{◌≡◌, refl}
use Prim.Native.Nat.{ℕ, zero, suc, ◌≤◌}
use native.Mathlib.Omega.{arith}
use mathlib.Core.Bool.{Bool, true, false, ◌&&◌}
use mathlib.Core.List.{List}
use Rattle.std.specs.Prelude.{Option, None, Some}
use lib.Dec.{leb}
use lib.ListN.{length}
use borrow.Author.Tests.{leb-true}
use Rattle.words.specs.Saturating.{max64}
use Rattle.model.specs.Field.{unless}
use Rattle.model.specs.Flat.{Flattened, flatten_rules}
use Rattle.model.specs.Load.{image_refusal_with}
use Rattle.model.specs.Snapshot.{snapshot_refusal}
use Rattle.model.specs.State.{Store, RuleSet, Volatile, strike}
use Rattle.model.specs.Activate.{Handled}
use Rattle.model.specs.Calls.{Call, new, load, unload, enable, tick, run, deadline, counters, Done, effects_of, outcome_room, effect_room, overflow, committing, committed, flipped, enabling, rule_in, loading, call_load, call_unload, call_enable, tick_with, run_with, given, fresh, call}

pub fits-if : (a b c : Bool) → unless a 30 (unless b 31 (unless c 32 0)) ≡ 0 → (b ≡ true) × (c ≡ true)
fits-if true true true z = (refl, refl)
fits-if true true false z = absurd (omega arith)
fits-if true false c z = absurd (omega arith)
fits-if false b c z = absurd (omega arith)

pub overflow-fits : (os es : ℕ) (x : Handled) → overflow os es x ≡ 0 → (x.vol.next ≤ max64) × (x.vol.last_number ≤ max64)
unfolding overflow
overflow-fits os es x e =
    let h = fits-if (leb (length x.outcomes) (outcome_room os) && leb (effects_of x.outcomes) (effect_room es)) (leb x.vol.next max64) (leb x.vol.last_number max64) e in
    (leb-true x.vol.next max64 h.0, leb-true x.vol.last_number max64 h.1)

abbrev Fits : Done → Type 0
Fits d = d.store.vol.last_number ≤ max64

commits : (n os es now : ℕ) (x : Handled) (s : Store) → overflow os es x ≡ n → s.vol.last_number ≤ max64 → Fits (committing n now x s)
commits zero os es now x s e h = (overflow-fits os es x e).1
commits (suc n) os es now x s e h = h

loads : (n t : ℕ) (img : List ℕ) (fs : List Flattened) (s : Store) → s.vol.last_number ≤ max64 → Fits (loading n t img fs s)
loads zero t img fs s h = h
loads (suc n) t img fs s h = h

flips : (rule i : ℕ) (on : Bool) (v : Volatile) → v.last_number ≤ max64 → (flipped rule i on v).last_number ≤ max64
unfolding strike
flips rule i true v h = h
flips rule i false v h = h

enables : (x : Option ℕ) (rule : ℕ) (on : Bool) (s : Store) → s.vol.last_number ≤ max64 → Fits (enabling x rule on s)
enables None rule on s h = h
enables (Some i) rule on s h = flips rule i on s.vol h

ticks : (o : Option RuleSet) (snap : List ℕ) (os es : ℕ) (s : Store) → s.vol.last_number ≤ max64 → Fits (tick_with o snap os es s)
unfolding tick_with committed
ticks None snap os es s h = commits _ os es _ _ s refl h
ticks (Some set) snap os es s h = commits _ os es _ _ s refl h

runs : (o : Option RuleSet) (r : ℕ) (dry : Bool) (snap : List ℕ) (os es : ℕ) (s : Store) → s.vol.last_number ≤ max64 → Fits (run_with o r dry snap os es s)
unfolding run_with committed
runs None r dry snap os es s h = commits _ os es _ _ s refl h
runs (Some set) r dry snap os es s h = commits _ os es _ _ s refl h

if-given : (n : ℕ) (s : Store) (K : Store → Done) → s.vol.last_number ≤ max64 → Fits (K s) → Fits (given n s K)
if-given zero s K h k = k
if-given (suc n) s K h k = h

pub last_fits : (c : Call) (s : Store) → s.vol.last_number ≤ max64 → (call c s).store.vol.last_number ≤ max64
unfolding call fresh call_load call_unload call_enable
last_fits (new t) s h = omega arith
last_fits (load t img) s h = loads (image_refusal_with img (flatten_rules img)) t img (flatten_rules img) s h
last_fits (unload t) s h = h
last_fits (enable rule on) s h = enables (rule_in s.loaded rule) rule on s h
last_fits (tick snap os es) s h = if-given (snapshot_refusal snap) s (λ s'. tick_with s'.loaded snap os es s') h (ticks s.loaded snap os es s h)
last_fits (run r dry snap os es) s h = if-given (snapshot_refusal snap) s (λ s'. run_with s'.loaded r dry snap os es s') h (runs s.loaded r dry snap os es s h)
last_fits deadline s h = h
last_fits counters s h = h
