-- `room::starts` meets its contract: the triggers so far, and those that are left. Assumes nothing.
use Prim.Native.Nat.{◌<◌, ◌^◌}
use lib.ListN.{length}
use Rattle.model.specs.Rules.{triggers_of}
use Rattle.model.specs.Wheel.{is_wall_trigger}
use Rattle.room.specs.Room.{is_timer_trigger, is_every_trigger}
use Rattle.room.proofs.Counting.{Counted}
use Rattle.room.proofs.starts.Given as goal

abbrev pub invariant-loop-trigger : goal.invariant-loop-trigger
invariant-loop-trigger l =
    let ts = triggers_of l.image l.i in
    let left = l.trigger-iterator in
    (length ts < 2 ^ 32) × Counted is_timer_trigger ts left l.tally.timers × Counted is_every_trigger ts left l.tally.everys × Counted is_wall_trigger ts left l.tally.walls
