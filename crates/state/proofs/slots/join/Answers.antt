-- `state::slots::join` meets its contract. Assumes nothing.
use native.Mathlib.Omega.{arith}
use Rattle.model.specs.Parts.{slot_row}
use Rattle.model.proofs.PartsLaws.{slot_laws}
use Rattle.state.proofs.Typed.{has-room, holds-count, holds-push}
use Rattle.state.proofs.EverySlots.{slot-roomy}
use Rattle.state.proofs.slots.join.Goals as goal

pub push-requires : goal.push-requires
push-requires c = has-room slot_row slot_laws 64 _ _ c.requires.0 (omega arith) (omega arith) (omega (arith, holds-count slot_row slot_laws 64 _ _ c.requires.0, c.requires.1))

pub returns : goal.returns
returns c =
    let k = holds-count slot_row slot_laws 64 _ _ c.requires.0 in
    holds-push slot_row slot_laws 64 _ _ _ c.args.x c.requires.0 (omega (arith, k, c.requires.1)) (slot-roomy.fits c.args.x c.push.ensures.words) c.push.ensures.rows
