-- `state::sequence::number_all` meets its contract: the first i records have their numbers. Assumes nothing.
use native.Mathlib.Omega.{arith}
use mathlib.Core.Path.{refl}
use Rattle.state.specs.Meaning.{pending_row}
use Rattle.state.proofs.Typed.{holds-count, holds-few}
use Rattle.state.proofs.Good.{are_words}
use Rattle.state.proofs.Records.{pending-laws}
use Rattle.state.proofs.Assigning.{numbers-none, numbers-long, offset-small, numbers_more}
use Rattle.state.proofs.sequence.number_all.Goals as goal

pub loop-i-init : goal.loop-i-init
loop-i-init c = record {
  few = omega (arith, holds-count pending_row pending-laws 32 _ _ c.requires.0, holds-few pending_row pending-laws 32 _ _ c.requires.0);
  start = omega arith;
  count = refl;
  numbers = numbers-none _ _ _ c.requires.0;
}

pub overflow_add-next : goal.overflow_add-next
overflow_add-next c =
    let v = c.loop-i.invariant in
    omega (arith, offset-small _ _ _ c.requires.0 _ _ _ v.numbers v.count _ v.start c.loop-i-test.true c.at-offset.ensures _ c.requires.2)

pub put-requires : goal.put-requires
put-requires c =
    let v = c.loop-i.invariant in
    omega (arith, numbers-long _ _ _ c.requires.0 _ _ _ v.numbers v.count, c.loop-i-test.true, v.few)

pub loop-i-preserved : goal.loop-i-preserved
loop-i-preserved c =
    let v = c.loop-i.invariant in
    let words = are_words c.put.new.s (λ i. omega (arith, c.type_inv.t i)) in
    record {
      few = v.few;
      start = omega (arith, v.start);
      count = v.count;
      numbers = numbers_more _ _ _ c.requires.0 _ _ _ v.numbers v.count _ v.start c.loop-i-test.true c.at-offset.ensures _ c.put.ensures words;
    }
