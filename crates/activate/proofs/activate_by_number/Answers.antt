-- `activate::activate_by_number` meets its contract. Assumes nothing.
use borrow.Author.Tests.{not-true, not-false}
use mathlib.Core.Path.{refl}
use Rattle.activate.proofs.Activating.{begins, in-cooldown, rejected, noted, not-noted, unevaluable}
use Rattle.activate.proofs.activate_by_number.Goals as goal
use Rattle.activate.proofs.activate_by_number.Goals.{then-not-dry, else-not-dry}

pub returns-in-Begins : goal.returns-in-Begins
returns-in-Begins c =
    record {
      does = begins c.args.snapshot.now c.args.image.now c.args.rule.now.part.now c.args.rule.now.own c.args.i c.args.kind c.args.mode c.args.lent.now.state.now c.args.lent.now.handled _ _ c.job_of-job.result c.is_dry-dry.result c.job_of-job.ensures c.is_dry-dry.ensures c.decide.result (rw c.job_of-job.ensures at c.decide.ensures) _ _ _ c.in-Begins.is c.execute.ensures.does;
      same = c.execute.ensures.same;
    }

pub returns-in-InCooldown : goal.returns-in-InCooldown
returns-in-InCooldown c =
    record {
      does = in-cooldown c.args.snapshot.now c.args.image.now c.args.rule.now.part.now c.args.rule.now.own c.args.i c.args.kind c.args.mode c.args.lent.now.state.now c.args.lent.now.handled _ _ _ c.decide.result (rw c.job_of-job.ensures at c.decide.ensures) c.in-InCooldown.is c.bump.ensures;
      same = (refl, refl, refl);
    }

pub returns-in-Rejected : goal.returns-in-Rejected
returns-in-Rejected c =
    record {
      does = rejected c.args.snapshot.now c.args.image.now c.args.rule.now.part.now c.args.rule.now.own c.args.i c.args.kind c.args.mode c.args.lent.now.state.now c.args.lent.now.handled _ _ _ c.decide.result (rw c.job_of-job.ensures at c.decide.ensures) c.in-Rejected.is c.bump-in-Rejected.ensures;
      same = (refl, refl, refl);
    }

pub returns-after-not-dry : goal.returns-after-not-dry
returns-after-not-dry c =
    elim c.if-not-dry.branch [
      | then-not-dry w ↦
          let s = rw w.lent-is at c.push_by_number.ensures.same in
          let h = rw w.lent-is at c.push_by_number.ensures.pushed in
          record {
            does = rw (s.1, s.2) (unevaluable c.args.snapshot.now c.args.image.now c.args.rule.now.part.now c.args.rule.now.own c.args.i c.args.kind c.args.mode c.args.lent.now.state.now c.args.lent.now.handled _ _ c.job_of-job.result c.is_dry-dry.result c.job_of-job.ensures c.is_dry-dry.ensures c.decide.result (rw c.job_of-job.ensures at c.decide.ensures) _ c.push_by_number.new.self.handled _ c.in-Unevaluable.is (noted _ _ _ (not-true _ w.if-not-dry.true-raw) w.bump-then-not-dry.ensures) h);
            same = s.0;
          }
      | else-not-dry w ↦
          let s = rw w.lent-is at c.push_by_number.ensures.same in
          let h = rw w.lent-is at c.push_by_number.ensures.pushed in
          record {
            does = rw (s.1, s.2) (unevaluable c.args.snapshot.now c.args.image.now c.args.rule.now.part.now c.args.rule.now.own c.args.i c.args.kind c.args.mode c.args.lent.now.state.now c.args.lent.now.handled _ _ c.job_of-job.result c.is_dry-dry.result c.job_of-job.ensures c.is_dry-dry.ensures c.decide.result (rw c.job_of-job.ensures at c.decide.ensures) _ c.push_by_number.new.self.handled _ c.in-Unevaluable.is (not-noted _ _ (not-false _ w.if-not-dry.false-raw)) h);
            same = s.0;
          }
    ]
