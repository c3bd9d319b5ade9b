-- The counters of the code as the specification has them: a list of 12, in the order of `EngineCounters`.
use Rattle.std.specs.Prelude.{ℕ, List, [], ◌∷◌}
use Rattle.counters.specs.declared.Counter.{Counter}
use Rattle.counters.specs.declared.Counter.TheVariants.{ActivationsTotal, ActivationsDry, SuppressedCooldown, SuppressedDisabled, ConditionsRejected, PartialOutcomes, EffectsEmitted, ActionsFailed, ContinuationsScheduled, ContinuationsFired, ContinuationsDropped, TicksTimeUnsynced}
use Rattle.counters.specs.declared.Counters.{Counters}

unfoldable pub counters_of : Counters → List ℕ
counters_of c =
    c.activations_total
    ∷ c.activations_dry
    ∷ c.suppressed_cooldown
    ∷ c.suppressed_disabled
    ∷ c.conditions_rejected
    ∷ c.partial_outcomes
    ∷ c.effects_emitted
    ∷ c.actions_failed
    ∷ c.continuations_scheduled
    ∷ c.continuations_fired
    ∷ c.continuations_dropped
    ∷ c.ticks_time_unsynced
    ∷ []

-- where a counter stands in the list
abbrev pub place_of_counter : Counter → ℕ
place_of_counter ActivationsTotal = 0
place_of_counter ActivationsDry = 1
place_of_counter SuppressedCooldown = 2
place_of_counter SuppressedDisabled = 3
place_of_counter ConditionsRejected = 4
place_of_counter PartialOutcomes = 5
place_of_counter EffectsEmitted = 6
place_of_counter ActionsFailed = 7
place_of_counter ContinuationsScheduled = 8
place_of_counter ContinuationsFired = 9
place_of_counter ContinuationsDropped = 10
place_of_counter TicksTimeUnsynced = 11
