-- `activate::execute::run_dry` meets its contract. Assumes nothing.
use Rattle.image.proofs.Accepted.{budget-fits}
use Rattle.activate.specs.Carried.{carried_by}
use Rattle.activate.proofs.Running.{ready-dry, runs-dry}
use Rattle.activate.proofs.execute.run_dry.Goals as goal

pub run_steps_dry-run-requires : goal.run_steps_dry-run-requires
run_steps_dry-run-requires c =
    let few = (budget-fits c.args.env.now.image.now c.requires.0.passes).1 in
    record {
      dry = c.requires.1;
      dry_ready = ready-dry (carried_by c.args.lent.now) _ (rw c.budget-most.ensures few) c.requires.2;
    }

pub returns : goal.returns
returns c =
    let few = (budget-fits c.args.env.now.image.now c.requires.0.passes).1 in
    let p = c.push_outcome.ensures in
    record {
      does = rw (p.same.1, p.same.2) (runs-dry c.args.env.now.snapshot.now c.args.env.now.image.now c.args.rule.now.part.now c.args.rule.now.own c.args.env.now.job c.args.lent.now.state.now c.args.lent.now.handled c.budget-most.result _ _ _ c.run_steps_dry-run.ensures _ c.push_outcome.new.self.handled _ (rw c.budget-most.ensures few) c.budget-most.ensures p.pushed);
      same = p.same.0;
    }
