-- `exec::dry::run_steps_dry` meets its contract. Assumes nothing.
use Prim.Native.Nat.{◌+◌, ◌-◌, ◌≤◌}
use mathlib.Core.List.{[]}
use lib.ListN.{length}
use Rattle.exec.specs.DryRuns.{queued}
use Rattle.exec.proofs.DryGoing.{dry_machine, GoingDry}
use Rattle.exec.proofs.dry.run_steps_dry.Given as goal

abbrev pub invariant-loop : goal.invariant-loop
invariant-loop l =
    GoingDry l.env.snapshot.now l.env.image.now l.rule.part.now l.rule.own l.env.job l.budget (dry_machine l.initial.v l.initial.point [] l.initial.run l.initial.effects) l.initial.v l.v l.point (queued l.bodies) l.run l.effects (l.budget - l.counter)
    × (length l.bodies.lists.items + (l.budget - l.counter) ≤ 256)
