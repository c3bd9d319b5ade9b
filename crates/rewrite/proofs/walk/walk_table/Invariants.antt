-- `rewrite::walk::walk_table` meets its contract. Assumes nothing.
use lib.ListN.{length}
use Rattle.rewrite.proofs.Turns.{walk_frame}
use Rattle.rewrite.proofs.Walking.{store, Walking, turns_left}
use Rattle.rewrite.proofs.walk.walk_table.Given as goal

abbrev pub invariant-loop-size : goal.invariant-loop-size
invariant-loop-size l =
    Walking l.image l.firsts (walk_frame l.image l.firsts 0 l.initial.here (store l.initial.counts l.initial.words)) (length l.initial.words) l.words l.counts l.here l.size l.frames.items

abbrev pub decreases-loop-size : goal.decreases-loop-size
decreases-loop-size l = turns_left l.here l.size l.frames.items
