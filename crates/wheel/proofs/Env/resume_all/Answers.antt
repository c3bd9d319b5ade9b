-- `wheel::Env::resume_all` meets its contract. Assumes nothing.
use mathlib.Core.Path.{refl, ◌∙◌}
use native.Mathlib.Omega.{arith}
use lib.ListN.{length-map}
use Rattle.store.specs.Volatile.{record_in}
use Rattle.wheel.specs.Tick.{fits_set}
use Rattle.wheel.proofs.Due.{record-fits, record-next}
use Rattle.wheel.proofs.Loops.{resuming-starts, resuming-goes, resuming-ends}
use Rattle.wheel.proofs.Env.resume_all.Goals as goal

pub loop-i-init : goal.loop-i-init
loop-i-init c =
    record {
      does = resuming-starts _ _ _ _ _;
      same = (refl, refl, refl);
    }

pub resume_one-requires-clause-fits : goal.resume_one-requires-clause-fits
resume_one-requires-clause-fits c =
    record-fits _ _ _ c.loop-i-test.true (fits_set c.args.self.now.image.now) c.requires.records.2 c.pending_record-c.ensures

pub loop-i-preserved : goal.loop-i-preserved
loop-i-preserved c =
    let a = c.loop-i.invariant.same in
    let b = c.resume_one.ensures.same in
    record {
      does = resuming-goes _ _ c.loop-i.invariant.does (record_in c.args.self.now.store.now 0) (simp length-map c.loop-i-test.true) (record-next c.args.self.now.store.now c.args.due.now c.loop-i.i-index c.pending_record-c.ensures) c.resume_one.ensures.does;
      same = (b.0 ∙ a.0, b.1 ∙ a.1, b.2 ∙ a.2);
    }

pub returns : goal.returns
returns c =
    record {
      does = resuming-ends _ _ c.loop-i.invariant.does 32 (simp length-map c.loop-i-test.false) (omega (arith, c.loop-i.auto, c.requires.records.0));
      same = c.loop-i.invariant.same;
    }
