-- The continuations: what the contracts on them cite.
use Rattle.std.specs.Prelude.{ℕ, suc, ◌+◌, ◌≡◌, Bool, not, List, [], ◌∷◌, ◌++◌, map, leb, length}
use Rattle.model.specs.declared.Job.{Job}
use Rattle.model.specs.Exec as model
use Rattle.model.specs.Lists.{keep}
use Rattle.model.specs.State.{Env, Volatile, bump_by, continuations_dropped}
use Rattle.model.specs.declared.Pending.{Pending}
use Rattle.state.specs.Meaning.{Means, MeansSoundly, meaning, base, offset_from, pending_row}
use Rattle.state.specs.declared.pending.Continuation.{Continuation}

abbrev pub later_than : ℕ → Pending → Bool
later_than now c = not (leb c.due now)

abbrev pub due_times : List Pending → List ℕ
due_times = map (λ (c : Pending). c.due)

-- one number is given; and a record that holds its offset joins
abbrev pub with_next : Volatile → Volatile
with_next v = record v { next = suc v.next }

abbrev pub with_record : ℕ → Pending → Volatile → Volatile
with_record b p v = record v { pending = v.pending ++ (offset_from b p ∷ []) }

-- the records that pass are kept, by the words of their rows
abbrev pub kept_by : (List ℕ → Bool) → Pending → Bool
kept_by test c = test (pending_row.put c)

abbrev pub closed_up : (List ℕ → Bool) → Volatile → Volatile
closed_up test v = record v { pending = keep (kept_by test) v.pending }

-- and so many left
abbrev pub ClosesUp : (List ℕ → Bool) → List ℕ → List ℕ → ℕ → Type 0
ClosesUp test w w' gone =
    MeansSoundly w' (base w) (closed_up test (meaning w)) × (gone + length (keep (kept_by test) (meaning w).pending) ≡ length (meaning w).pending)

-- all records leave, and are counted
abbrev pub emptied : Volatile → Volatile
emptied v = record v { rest = bump_by continuations_dropped (length v.pending) v.rest; pending = [] }

-- the specification's `schedule`, in every environment of this time and of every run of x's rule under its trigger and number
abbrev pub Schedules : List ℕ → ℕ → Continuation → List ℕ → ℕ → Type 0
Schedules w now x w' reason =
    (e : Env) (j : Job) → e.world.now ≡ now → j.rule ≡ x.rule → j.trigger ≡ x.trigger → j.number ≡ x.number →
    let s = model.schedule e j x.budget x.ms x.point (meaning w) in
    Means w' (base w) s.vol × (reason ≡ s.reason)
