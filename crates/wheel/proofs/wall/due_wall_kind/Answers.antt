-- `wheel::wall::due_wall_kind` meets its contract. Assumes nothing.
use Rattle.std.proofs.Common.{Ok}
use mathlib.Core.Path.{ap, ◌∙◌}
use Rattle.eval.specs.Answers.{env_of}
use Rattle.wheel.proofs.DueKind.{starts, ends-here, goes, misses, ends}
use Rattle.wheel.proofs.wall.due_wall_kind.Goals as goal

pub loop-trigger-init : goal.loop-trigger-init
loop-trigger-init c =
    λ image flat. starts (env_of c.args.snapshot.now image flat) _ _ _ _ _ (c.into_iter-trigger-iterator.ensures.into_iter_gives ∙ c.triggers-trigger-items.ensures.0)

pub returns-in-Ok-Some : goal.returns-in-Ok-Some
returns-in-Ok-Some c =
    λ image flat.
    let is = c.in-Ok-Some.is ∙ ap Ok c.in-Ok-Some.field-0-is in
    ends-here (env_of c.args.snapshot.now image flat) _ _ _ _ _ _ _ _ (c.loop-trigger.invariant image flat) c.in-Some.ensures.steps (c.trigger_kind.ensures image flat) _ is

pub loop-trigger-preserved-in-Ok-None : goal.loop-trigger-preserved-in-Ok-None
loop-trigger-preserved-in-Ok-None c =
    λ image flat.
    let is = c.in-Ok-None.is ∙ ap Ok c.in-Ok-None.field-0-is in
    goes (env_of c.args.snapshot.now image flat) _ _ _ _ _ _ _ _ (c.loop-trigger.invariant image flat) c.in-Some.ensures.steps (c.trigger_kind.ensures image flat) is

pub loop-trigger-preserved : goal.loop-trigger-preserved
loop-trigger-preserved c =
    λ image flat.
    misses (env_of c.args.snapshot.now image flat) _ _ _ _ _ _ _ _ (c.loop-trigger.invariant image flat) c.in-Some.ensures.steps (c.trigger_kind.ensures image flat) _ c.in-Err.is

pub returns : goal.returns
returns c = λ image flat. ends (env_of c.args.snapshot.now image flat) _ _ _ _ _ _ c.in-None.ensures.steps.0 (c.loop-trigger.invariant image flat)
