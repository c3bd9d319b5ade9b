-- `room::room` meets its contract. Assumes nothing.
use mathlib.Core.Path.{refl}
use native.Mathlib.Omega.{arith}
use Rattle.room.proofs.Rows.{budget-of, known, room-made}
use Rattle.room.proofs.room.Goals as goal

pub overflow_add-result : goal.overflow_add-result
overflow_add-result c =
    omega (arith, (known _ _ _ _ c.requires c.budget-b.ensures c.sum_rules-s.ensures).few-outcomes)

pub most_effects-effects-requires : goal.most_effects-effects-requires
most_effects-effects-requires c =
    let b = budget-of _ _ c.requires in
    let e = c.budget-b.ensures in
    (omega (arith, e, b.0), omega (arith, e, b.1), omega (arith, (known _ _ _ _ c.requires e c.sum_rules-s.ensures).few-effects))

pub overflow_cast-result : goal.overflow_cast-result
overflow_cast-result c =
    omega (arith, (known _ _ _ _ c.requires c.budget-b.ensures c.sum_rules-s.ensures).few-outcomes)

pub overflow_cast-result-2 : goal.overflow_cast-result-2
overflow_cast-result-2 c =
    omega (arith, c.most_effects-effects.ensures, (known _ _ _ _ c.requires c.budget-b.ensures c.sum_rules-s.ensures).within)

pub returns : goal.returns
returns c =
    room-made _ _ _ _ (known _ _ _ _ c.requires c.budget-b.ensures c.sum_rules-s.ensures) refl c.most_effects-effects.ensures
