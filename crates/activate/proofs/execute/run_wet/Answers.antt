-- `activate::execute::run_wet` meets its contract. Assumes nothing.
use mathlib.Core.Path.{refl}
use Rattle.activate.proofs.Running.{runs-wet}
use Rattle.activate.proofs.execute.run_wet.Goals as goal

pub returns : goal.returns
returns c =
    let p = c.push_outcome.ensures in
    record {
      does = rw (p.same.1, p.same.2) (runs-wet c.args.env.now.snapshot.now c.args.env.now.image.now c.args.rule.now.part.now c.args.rule.now.own c.args.env.now.job c.args.lent.now.state.now c.args.lent.now.handled c.args.most _ _ _ c.args.from c.run_steps-run.ensures _ _ _ c.push_outcome.new.self.handled _ c.requires.0 refl c.finish_wet.ensures p.pushed);
      same = p.same.0;
    }
