-- Tick and run, by what comes in. Assumes nothing.
use mathlib.Core.Path.{◌≡◌}
use mathlib.Core.List.{List}
use Rattle.std.specs.Prelude.{Some, Result, Err}
use Prim.Native.Nat.{ℕ}
use lib.ListN.{length, replicate}
use Rattle.model.specs.Snapshot.{snapshot_refusal}
use Rattle.model.specs.World.{world_of}
use Rattle.model.specs.State.{Store}
use Rattle.model.specs.Store.{read}
use Rattle.model.specs.OnWords.{call_on}
use Rattle.model.specs.Refusals.{refusal_code}
use Rattle.model.specs.declared.Refusal.{Refusal}
use Rattle.state.specs.Meaning.{AllNumbered, meaning}
use Rattle.activate.specs.Handled.{Continues}
use Rattle.activate.specs.Carried.{Carried}
use Rattle.activate.specs.declared.Handled.{Handled}
use Rattle.engine.specs.Seen.{Seen, seen}
use Rattle.engine.specs.Asked.{lowest_of}
use Rattle.engine.specs.Answers.{handled_values, shown}
use Rattle.wheel.specs.Tick.{start}
use Rattle.engine.specs.Handling.{Commits}
use Rattle.engine.specs.Inputs.{call_of, dispatched_in}
use Rattle.engine.specs.declared.handle.EngineInput.{EngineInput}
use Rattle.engine.specs.declared.handle.EngineInput.TheVariants.{Tick, RunRule}
use Rattle.engine.proofs.HandlingLaws.{run-declined, run-ends}
use Rattle.engine.proofs.TickLaws.{tick-declined, tick-ends}

pub input-declined : {A : Type 0} (f : A → List ℕ) (input : EngineInput) (snap : List ℕ) (os es : ℕ) (w ow ew : List ℕ) (r : Refusal) → refusal_code r ≡ lowest_of (read w) w (snapshot_refusal snap)
    → ow ≡ replicate os 0 → ew ≡ replicate es 0 → shown f (Err r) w ow ew ≡ seen (call_on (call_of input snap os es) w)
input-declined f Tick snap os es w ow ew r q g h = tick-declined f snap os es w ow ew r q g h
input-declined f (RunRule name dry) snap os es w ow ew r q g h = run-declined f name dry snap os es w ow ew r q g h

pub input-ends : (input : EngineInput) (snap w : List ℕ) (os es : ℕ) (s : Store) (v ow ew ow₁ ew₁ w' ow' ew' : List ℕ) (x : Carried) (r : Result Handled Refusal) (t : ℕ)
    → read w ≡ Some s → snapshot_refusal snap ≡ 0 → ow ≡ replicate os 0 → ew ≡ replicate es 0 → AllNumbered v s.vol → t ≡ (world_of snap).now
    → Continues (start v) ow ew (dispatched_in input s.loaded snap (meaning v)) x ow₁ ew₁ → length ow₁ ≡ length ow → length ew₁ ≡ length ew
    → Commits x t w ow₁ ew₁ r w' ow' ew' → shown handled_values r w' ow' ew' ≡ seen (call_on (call_of input snap os es) w)
input-ends Tick snap w os es s v ow ew ow₁ ew₁ w' ow' ew' x r t e z o f a u c l m k =
    tick-ends snap w os es s v ow ew ow₁ ew₁ w' ow' ew' x r t e z o f a u c l m k
input-ends (RunRule name dry) snap w os es s v ow ew ow₁ ew₁ w' ow' ew' x r t e z o f a u c l m k =
    run-ends name dry snap w os es s v ow ew ow₁ ew₁ w' ow' ew' x r t e z o f a u c l m k

-- where the words that were lent are told by the names of what was lent
pub told-ends : {G H : Type 0} {a b : G} {c d : H} (r : Result Handled Refusal) (w : List ℕ) {ow ew ow' ew' : List ℕ} {x : Seen} → a ≡ b → (a ≡ b → ow' ≡ ow) → c ≡ d → (c ≡ d → ew' ≡ ew)
    → shown handled_values r w ow ew ≡ x → shown handled_values r w ow' ew' ≡ x
told-ends r w e g f h k = rw (g e, h f) k
