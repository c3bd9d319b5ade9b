-- `curve::nearest_place` meets its contract. Assumes nothing.
use Prim.Native.Nat.{◌-◌}
use native.Mathlib.Omega.{arith}
use borrow.Author.Rules.{rules}
use Rattle.curve.proofs.Parted.{Parted, found}
use Rattle.curve.proofs.Valley.{lower-stands, upper-stands}
use Rattle.curve.proofs.nearest_place.Goals as goal
use Rattle.curve.proofs.nearest_place.Goals.{After-partition_point-above, else-above-gt0-via-then-above-gt0+else-v-table, else-above-gt0-via-else-above-gt0}

-- what lies in front of the place found, and behind it
parts : (c : After-partition_point-above) → Parted c.args.v c.partition_point-above.result
parts c = found c.args.table.now c.requires.0 _ _ c.requires.1 c.partition_point-above.ensures.bound c.partition_point-above.ensures.partitioned (λ a r q k. search rules)

pub bounds-table-above-then-above-gt0 : goal.bounds-table-above-then-above-gt0
bounds-table-above-then-above-gt0 c =
    (parts (goal.at.bounds-table-above-then-above-gt0 c).After-partition_point-above).inside

pub overflow_sub-v : goal.overflow_sub-v
overflow_sub-v c =
    let p = parts (goal.at.overflow_sub-v c).After-partition_point-above in
    rw c.requires.0 (omega (arith, p.under (c.partition_point-above.result - 1) (omega arith)))

pub overflow_sub-table : goal.overflow_sub-table
overflow_sub-table c =
    let p = parts (goal.at.overflow_sub-table c).After-partition_point-above in
    rw c.requires.0 (p.over _ (omega arith) p.inside)

pub returns-then-v-table : goal.returns-then-v-table
returns-then-v-table c =
    let p = parts (goal.at.returns-then-v-table c).After-partition_point-above in
    lower-stands c.args.v c.partition_point-above.result p c.if-above-gt0.true (rw c.requires.0 at c.if-v-table.true)

pub returns-else-above-gt0 : goal.returns-else-above-gt0
returns-else-above-gt0 c =
    let p = parts (goal.at.returns-else-above-gt0 c).After-partition_point-above in
    upper-stands c.args.v c.partition_point-above.result p
    (elim c.else-above-gt0.branch [
      | else-above-gt0-via-then-above-gt0+else-v-table w ↦ λ h. rw c.requires.0 at w.if-v-table.false
      | else-above-gt0-via-else-above-gt0 w ↦ λ h. omega (arith, h, w.if-above-gt0.false)
    ])
