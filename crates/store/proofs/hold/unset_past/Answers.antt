-- `store::hold::unset_past` meets its contract. Assumes nothing.
use Prim.Native.Nat.{◌+◌, ◌*◌}
use Rattle.std.proofs.Common.{arith, refl}
use Rattle.std.proofs.lemmas.Grind.{common_steps}
use Rattle.store.specs.Places.{state_place, activations_place, positions_place}
use Rattle.store.proofs.TableRules.{unset-are}
use Rattle.store.proofs.hold.unset_past.Goals as goal

pub returns-then-unset_from-2 : goal.returns-then-unset_from-2
returns-then-unset_from-2 c =
    let n = c.args.rules in
    grind (arith, common_steps, unset-are c.args.store.now n (state_place + n * 1) (activations_place + n * 3) (positions_place + n * 2) c.requires (omega arith) refl refl)

pub returns-else-unset_from-2 : goal.returns-else-unset_from-2
returns-else-unset_from-2 c =
    let n = c.args.rules in
    grind (arith, common_steps, unset-are c.args.store.now n (state_place + n * 1) (activations_place + n * 3) (positions_place + n * 2) c.requires (omega arith) refl refl)
