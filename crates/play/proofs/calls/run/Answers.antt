-- `play::calls::run` meets its contract. Assumes nothing.
use Rattle.std.proofs.Common.{refl}
use Rattle.std.proofs.lemmas.Result.{err_from_is_err_and}
use Rattle.model.specs.World.{now_of, world_of}
use Rattle.model.specs.Calls.{run}
use Rattle.play.proofs.Calling.{handled-made, handled-refused}
use Rattle.play.proofs.calls.run.Goals as goal

pub returns-in_err-accepted : goal.returns-in_err-accepted
returns-in_err-accepted c =
    let p = err_from_is_err_and c.from_residual.result c.from_residual.ensures.1 in rw (p.1, p.2)
    (handled-refused (run c.args.rule c.args.dry c.args.snapshot.now) _ 0 _ _ _ c.min-n.ensures _ _ _ _ _ _ c.min-os.ensures c.min-es.ensures _ _ _ _ _ c.cerambiu_run.ensures (λ a b. refl) _ _ c.in_err-accepted.ensures)

pub returns : goal.returns
unfolding now_of world_of
returns c =
    handled-made (run c.args.rule c.args.dry c.args.snapshot.now) _ _ _ _ _ c.min-n.ensures _ _ _ _ _ _ c.min-os.ensures c.min-es.ensures _ _ _ _ _ c.cerambiu_run.ensures (λ a b. refl) (λ a b y. refl)
    _ _ c.in_ok-accepted.ensures (rw c.now_ms-time.ensures at c.handled.ensures)
