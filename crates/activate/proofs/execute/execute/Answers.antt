-- `activate::execute::execute` meets its contract. Assumes nothing.
use mathlib.Core.Path.{refl}
use Rattle.image.proofs.Accepted.{budget-fits}
use Rattle.activate.specs.Carried.{carried_by}
use Rattle.activate.proofs.Running.{changed-room, start-room}
use Rattle.activate.proofs.Activating.{executes-dry, executes-wet}
use Rattle.activate.proofs.execute.execute.Goals as goal

pub run_dry-requires : goal.run_dry-requires
run_dry-requires c =
    (c.requires.0, c.if-env.true, changed-room (carried_by c.args.lent.now) _ _ c.bump.ensures 1 c.requires.1)

pub returns-then-env : goal.returns-then-env
returns-then-env c =
    record {
      does = executes-dry c.args.env.now.snapshot.now c.args.env.now.image.now c.args.rule.now.part.now c.args.rule.now.own c.args.env.now.job (carried_by c.args.lent.now) _ _ _ _ _ _ c.if-env.true c.bump.ensures c.run_dry.ensures.does;
      same = c.run_dry.ensures.same;
    }

pub run_wet-requires : goal.run_wet-requires
run_wet-requires c =
    let few = (budget-fits c.args.env.now.image.now c.requires.0.passes).1 in
    (rw c.budget-most.ensures few, start-room (carried_by c.args.lent.now) _ _ c.start-job.ensures.0 refl refl c.requires.1)

pub returns : goal.returns
returns c =
    record {
      does = executes-wet c.args.env.now.snapshot.now c.args.env.now.image.now c.args.rule.now.part.now c.args.rule.now.own c.args.env.now.job (carried_by c.args.lent.now) _ _ _ _ _ _ c.budget-most.result c.start-job.result c.if-env.false c.budget-most.ensures c.start-job.ensures c.run_wet.ensures.does;
      same = c.run_wet.ensures.same;
    }
