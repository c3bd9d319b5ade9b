-- What the ledger and the calls give on the examples, by computation.
use mathlib.Core.Path.{◌≡◌, refl}
use Prim.Native.Nat.{◌+◌, ◌-◌, ◌*◌, ◌/◌}
use mathlib.Core.List.{[], ◌∷◌}
use Rattle.model.specs.Calls.{fresh}
use Rattle.edges.specs.Edges.{rows as edgeRows}
use Rattle.edges.proofs.Definitions.{definitions}
use Rattle.ledger.specs.Ledger as ledger
use Rattle.ledger.specs.Ledger.{resumed_at_each}
use Rattle.ledger.specs.Effects.{same_activation, effects_from}
use Rattle.ledger.specs.Demand3.{ledger_at_end}
use Rattle.ledger_examples.specs.Examples.{after_calls, percent_calls, first_activation, continuation, wait_calls, disable_calls, reload_calls, rows}

-- the bound is met: four effects with B 3, and 3 * 2 / 2 + 1 is 4
pub bound-met : effects_from first_activation (ledger_at_end (fresh 0) after_calls).effects ≡ 3 * (3 - 1) / 2 + 1
unfolding definitions edgeRows rows same_activation ledger.leaves_before ledger.leaving ledger.staying ledger.struck ledger.accept ledger.post_report ledger.post_item ledger.post ledger.events_of ledger.entry_of ledger.start_ledger ledger.notices ledger.post_call ledger.final_ledger
bound-met = refl

-- and by lights in percent as well
pub bound-met-in-percent : effects_from first_activation (ledger_at_end (fresh 0) percent_calls).effects ≡ 3 * (3 - 1) / 2 + 1
unfolding definitions edgeRows rows same_activation ledger.leaves_before ledger.leaving ledger.staying ledger.struck ledger.accept ledger.post_report ledger.post_item ledger.post ledger.events_of ledger.entry_of ledger.start_ledger ledger.notices ledger.post_call ledger.final_ledger
bound-met-in-percent = refl

-- a wait resumes once, in the first tick that has reached its due time, with its stored budget
pub resumes-once : resumed_at_each (fresh 0) wait_calls ≡ [] ∷ [] ∷ [] ∷ (continuation ∷ []) ∷ [] ∷ []
unfolding definitions edgeRows rows ledger.entry_of resumed_at_each
resumes-once = refl

-- never, if its rule was disabled or its set replaced in between
pub disabled-never : resumed_at_each (fresh 0) disable_calls ≡ [] ∷ [] ∷ [] ∷ [] ∷ [] ∷ []
unfolding definitions edgeRows rows ledger.entry_of resumed_at_each
disabled-never = refl

pub reloaded-never : resumed_at_each (fresh 0) reload_calls ≡ [] ∷ [] ∷ [] ∷ [] ∷ []
unfolding definitions edgeRows rows ledger.entry_of resumed_at_each
reloaded-never = refl
