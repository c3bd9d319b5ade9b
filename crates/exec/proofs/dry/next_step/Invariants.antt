-- `exec::dry::next_step` meets its contract. Assumes nothing.
use lib.ListN.{length}
use mathlib.Core.Path.{◌≡◌}
use Rattle.exec.specs.DryRuns.{queued}
use Rattle.exec.proofs.DryGoing.{Moving}
use Rattle.exec.proofs.dry.next_step.Given as goal

abbrev pub invariant-loop-here : goal.invariant-loop-here
invariant-loop-here l = Moving l.rule.part.now l.rule.own l.initial.point (queued l.initial.bodies) l.point (queued l.bodies) × (l.bodies.lists ≡ l.initial.bodies.lists)

abbrev pub decreases-loop-here : goal.decreases-loop-here
decreases-loop-here l = length (queued l.bodies)
