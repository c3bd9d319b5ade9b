-- Document 02, request 3, worked: an index is one into the records as they stood at the tick's start. Assumes nothing.
use Prim.Native.Nat.{ℕ, ◌-◌, ◌^◌}
use mathlib.Core.Bool.{false, not, false≢true}
use mathlib.Core.Path.{◌≡◌, refl, ap}
use mathlib.Core.List.{List, [], ◌∷◌, map}
use lib.Dec.{eqb, leb}
use lib.ListN.{get_or}
use Rattle.model.specs.Lists.{any, keep}
use Rattle.model.specs.Wheel.{due_now, due_indices}
use Rattle.model.specs.declared.Pending.{Pending}
use Rattle.std.specs.Prelude.{None}

-- a record of rule 5 with this due time and sequence number
abbrev due_at : ℕ → ℕ → Pending
due_at due seq = record { rule = 5; point = record { list = 0; place = 0; jump = None }; due = due; budget = 1; trigger = 0; seq = seq; number = 1 }

-- due at 9, 5 and 7
abbrev standing : List Pending
standing = due_at 9 1 ∷ due_at 5 2 ∷ due_at 7 3 ∷ []

-- a tick at 7 resumes those at 1 and 2, while one record stays
pub order-of-three : due_indices 7 standing ≡ 1 ∷ 2 ∷ []
unfolding due_indices
order-of-three = refl

abbrev staying : List Pending
staying = keep (λ (c : Pending). not (leb c.due 7)) standing

pub one-stays : staying ≡ due_at 9 1 ∷ []
one-stays = refl

-- so what is read at these indices in the records that stay is not what is due, whatever is read behind the last
pub not-of-what-stays : (d : Pending) → eqb d.due 5 ≡ false → map (λ i. get_or staying i d) (due_indices 7 standing) ≡ due_now 7 standing → ⊥
unfolding due_indices due_now
not-of-what-stays d e h = false≢true (rw e at (ap (any (λ (c : Pending). eqb c.due 5)) h))

-- due times that saturate tie, and numbers decide; of two records with one number too the later place comes first
pub saturated-tie : due_indices (2 ^ 64 - 1) (due_at (2 ^ 64 - 1) 8 ∷ due_at (2 ^ 64 - 1) 4 ∷ due_at (2 ^ 64 - 1) 6 ∷ []) ≡ 1 ∷ 2 ∷ 0 ∷ []
unfolding due_indices
saturated-tie = refl

pub later-place-first : due_indices 7 (due_at 7 4 ∷ due_at 7 4 ∷ []) ≡ 1 ∷ 0 ∷ []
unfolding due_indices
later-place-first = refl
