-- `engine::stored::counters` meets its contract. Assumes nothing.
use native.Mathlib.Omega.{arith}
use Rattle.engine.proofs.WordLaws.{saying}
use Rattle.engine.proofs.CallLaws.{counters-are}
use Rattle.engine.proofs.stored.counters.Goals as goal

pub slice_bounds-copy_from_slice-end : goal.slice_bounds-copy_from_slice-end
slice_bounds-copy_from_slice-end c = omega (arith, (saying _ _ c.words-words.ensures).long)

pub returns : goal.returns
returns c =
    rw (c.copy_from_slice.ensures.after, c.copy_from_slice-2.ensures.after)
    (counters-are _ c.args.store.now _ _ _ _ c.words-words.ensures c.at.ensures c.at-2.ensures c.rule_count.ensures.count c.at-3.ensures)
