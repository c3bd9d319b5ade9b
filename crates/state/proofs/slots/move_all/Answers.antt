-- `state::slots::move_all` meets its contract: the first i slots have moved on. Assumes nothing.
use native.Mathlib.Omega.{arith}
use mathlib.Core.Path.{refl}
use Rattle.model.specs.Parts.{slot_row}
use Rattle.model.proofs.PartsLaws.{slot_laws}
use Rattle.state.proofs.Typed.{holds-long, holds-count, holds-few}
use Rattle.state.proofs.Good.{are_words}
use Rattle.state.proofs.EverySlots.{moves-none, moves_long, moves_more, moves-all}
use Rattle.state.proofs.slots.move_all.Goals as goal

pub bounds-t-0 : goal.bounds-t-0
bounds-t-0 c = omega (arith, holds-long slot_row slot_laws 64 _ _ c.requires)

pub loop-i-init : goal.loop-i-init
loop-i-init c = record {
  few = omega (arith, holds-count slot_row slot_laws 64 _ _ c.requires, holds-few slot_row slot_laws 64 _ _ c.requires);
  start = c.requires;
  count = refl;
  moved = moves-none _ _ c.requires;
}

pub put-requires : goal.put-requires
put-requires c =
    let v = c.loop-i.invariant in
    omega (arith, moves_long _ _ _ _ _ v.moved v.count v.start, c.loop-i-test.true, v.few)

pub loop-i-preserved : goal.loop-i-preserved
loop-i-preserved c =
    let v = c.loop-i.invariant in
    let words = are_words c.put.new.s (λ i. omega (arith, c.type_inv.t i)) in
    record {
      few = v.few;
      start = v.start;
      count = v.count;
      moved = moves_more _ _ _ _ _ v.moved v.count v.start _ _ _ c.loop-i-test.true c.at-x.ensures c.move_on.ensures words c.put.ensures;
    }

pub shape_of-t : goal.shape_of-t
shape_of-t c =
    let v = c.loop-i.invariant in
    omega (arith, moves_long _ _ _ _ _ v.moved v.count v.start, holds-long slot_row slot_laws 64 _ _ v.start)

pub returns : goal.returns
returns c =
    let v = c.loop-i.invariant in
    moves-all _ _ _ _ _ v.moved v.count v.start (omega arith) (omega arith)
