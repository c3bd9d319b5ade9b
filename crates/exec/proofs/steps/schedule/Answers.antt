-- `exec::steps::schedule` meets its contract. Assumes nothing.
use mathlib.Core.Path.{refl, sym}
use Rattle.eval.specs.Answers.{env_of}
use Rattle.exec.proofs.steps.schedule.Goals as goal

pub returns : goal.returns
returns c image flat =
    c.schedule_continuation.ensures (env_of c.args.env.now.snapshot.now image flat) c.args.env.now.job (sym c.now_ms-time.ensures) refl refl refl
