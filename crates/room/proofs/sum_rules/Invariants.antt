-- `room::sum_rules` meets its contract. Assumes nothing.
use mathlib.Core.Path.{◌≡◌}
use Prim.Native.Nat.{◌≤◌, ◌*◌, max}
use Rattle.model.specs.Lists.{total}
use Rattle.model.specs.Image.{size_of}
use Rattle.model.specs.Rows.{rules}
use Rattle.room.specs.Room.{greatest, starts_of, own_steps, body_steps, effects_of_start}
use Rattle.room.specs.Needed.{steps_before}
use Rattle.room.proofs.sum_rules.Given as goal

abbrev pub invariant-loop-i : goal.invariant-loop-i
invariant-loop-i l =
    (l.n ≤ 64)
    × (l.n ≡ size_of l.image rules)
    × (l.sums.starts ≡ total l.i (starts_of l.image))
    × (l.sums.effects ≡ total l.i (λ k. starts_of l.image k * effects_of_start l.image k))
    × (l.sums.longest ≡ greatest l.i (λ k. max (own_steps l.image k) (body_steps l.image k)))
    × (l.end ≡ steps_before l.image l.i)
    × (l.sums.starts ≤ 4294967312 * l.i)
    × (l.sums.effects ≤ 1099511631872 * l.i)
