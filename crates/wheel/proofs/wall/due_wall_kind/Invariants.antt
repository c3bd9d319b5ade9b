-- `wheel::wall::due_wall_kind` meets its contract. Assumes nothing.
use mathlib.Core.List.{List}
use Prim.Native.Nat.{ℕ}
use Rattle.model.specs.Rules.{triggers_of}
use Rattle.model.specs.Steps.{FlatStep}
use Rattle.eval.specs.Answers.{env_of}
use Rattle.wheel.proofs.DueKind.{Left}
use Rattle.wheel.proofs.wall.due_wall_kind.Given as goal

abbrev pub invariant-loop-trigger : goal.invariant-loop-trigger
invariant-loop-trigger l =
    (image : List ℕ) (flat : List (List FlatStep))
    → Left (env_of l.snapshot image flat) l.window.base l.window.window (triggers_of l.image l.i) l.initial.solar_unsynced l.trigger-iterator l.solar_unsynced
