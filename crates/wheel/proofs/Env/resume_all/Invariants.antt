-- `wheel::Env::resume_all` meets its contract. Assumes nothing.
use Rattle.activate.specs.Carried.{Over}
use Rattle.eval.specs.Answers.{env_in}
use Rattle.wheel.specs.Tick.{records_in}
use Rattle.wheel.proofs.Loops.{Resuming}
use Rattle.wheel.proofs.Env.resume_all.Given as goal

abbrev pub invariant-loop-i : goal.invariant-loop-i
invariant-loop-i l =
    Over (λ x ow ew. Resuming (env_in l.self.snapshot.now l.self.image.now) (records_in l.self.store.now l.due) x ow ew l.i-index) l.initial.lent l.lent
