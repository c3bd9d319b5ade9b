-- The Every slots of a set: `rebuild_every` of wheel.rs.
use Rattle.std.specs.Prelude.{ℕ, suc, Bool, ◌&&◌, List, [], ◌∷◌, map, eqb}
use Rattle.std.specs.Prelude.{Option, None, Some}
use Rattle.words.specs.Saturating.{saturating_add, max64}
use Rattle.model.specs.Lists.{find, flatten}
use Rattle.model.specs.Rules.{name_of, name_order, triggers_of, Trigger, TimerFires, Every, AtTime, AtSolar, Other}
use Rattle.model.specs.State.{EverySlot}

-- a slot of equal rule, place and period is kept, even overdue
abbrev pub same_slot : ℕ → ℕ → ℕ → EverySlot → Bool
same_slot rule place period x = eqb x.rule rule && (eqb x.place place && eqb x.period period)

abbrev pub due_or : ℕ → Option EverySlot → ℕ
due_or d None = d
due_or d (Some x) = x.due

unfoldable pub slots_from : List EverySlot → ℕ → ℕ → ℕ → List Trigger → List EverySlot
slots_from old now rule place [] = []
slots_from old now rule place (TimerFires t ∷ ts) = slots_from old now rule (suc place) ts
slots_from old now rule place (Every ms ∷ ts) =
    record { rule = rule; place = place; period = ms; due = due_or (saturating_add max64 now ms) (find (same_slot rule place ms) old) } ∷ slots_from old now rule (suc place) ts
slots_from old now rule place (AtTime h m days ∷ ts) = slots_from old now rule (suc place) ts
slots_from old now rule place (AtSolar event offset ∷ ts) = slots_from old now rule (suc place) ts
slots_from old now rule place (Other ∷ ts) = slots_from old now rule (suc place) ts

-- `rebuild_every`: by rule name, then by place
unfoldable pub rebuild_every : List ℕ → List EverySlot → ℕ → List EverySlot
rebuild_every img old now = flatten (map (λ i. slots_from old now (name_of img i) 0 (triggers_of img i)) (name_order img))
