-- `activate::resume` meets its contract. Assumes nothing.
use Rattle.image.proofs.Rules.{named_rule}
use Rattle.activate.specs.Carried.{carried_by}
use Rattle.activate.proofs.Running.{changed-room, run_room}
use Rattle.activate.proofs.Activating.{resumes}
use Rattle.activate.proofs.resume.Goals as goal

pub run_wet-requires : goal.run_wet-requires
run_wet-requires c =
    (c.requires.budget_bound.0, run_room _ (changed-room (carried_by c.args.lent.now) _ _ c.bump.ensures 1 c.requires.budget_bound.1))

pub returns : goal.returns
returns c =
    record {
      does = resumes c.args.snapshot.now c.args.image.now c.args.rule.now.part.now c.args.rule.now.own c.args.i c.args.c (carried_by c.args.lent.now) _ _ _ _ _ _ c.job_of-job.result (rw (named_rule _ _ _ c.requires.named).1 at c.job_of-job.ensures) c.requires.named c.bump.ensures c.run_wet.ensures.does;
      same = c.run_wet.ensures.same;
    }
