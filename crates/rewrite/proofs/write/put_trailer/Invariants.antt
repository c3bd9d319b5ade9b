-- `rewrite::write::put_trailer` meets its contract. Assumes nothing.
use mathlib.Core.Path.{◌≡◌}
use Prim.Native.Nat.{◌≤◌}
use Rattle.rewrite.specs.Walk.{put_trailer}
use Rattle.rewrite.proofs.write.put_trailer.Given as goal

abbrev pub invariant-loop-k : goal.invariant-loop-k
invariant-loop-k l = (l.k ≤ 13) × (l.words ≡ put_trailer l.image l.firsts l.at l.k l.initial.words)
