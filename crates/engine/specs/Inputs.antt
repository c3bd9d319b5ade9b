-- What comes in, as the specification's call.
use Rattle.std.specs.Prelude.{List, ℕ}
use Rattle.std.specs.Prelude.{Option}
use Rattle.model.specs.Activate as model
use Rattle.model.specs.State.{RuleSet, Volatile}
use Rattle.model.specs.Calls.{Call, tick, run}
use Rattle.engine.specs.Handling.{ran_in, ticked_in}
use Rattle.engine.specs.declared.handle.EngineInput.{EngineInput}
use Rattle.engine.specs.declared.handle.EngineInput.TheVariants.{Tick, RunRule}

-- with a snapshot, and stores of so many words for outcomes and effects
abbrev pub call_of : EngineInput → List ℕ → ℕ → ℕ → Call
call_of Tick snap os es = tick snap os es
call_of (RunRule name dry) snap os es = run name dry snap os es

-- what it comes to in a store with or without a set
abbrev pub dispatched_in : EngineInput → Option RuleSet → List ℕ → Volatile → model.Handled
dispatched_in Tick loaded snap v = ticked_in loaded snap v
dispatched_in (RunRule name dry) loaded snap v = ran_in loaded name dry snap v
