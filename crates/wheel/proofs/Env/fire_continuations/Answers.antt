-- `wheel::Env::fire_continuations` meets its contract. Assumes nothing.
use mathlib.Core.Path.{◌∙◌}
use Rattle.activate.specs.Carried.{carried_by}
use Rattle.wheel.specs.Tick.{fits_set}
use Rattle.wheel.proofs.Due.{due-indices, due-records}
use Rattle.wheel.proofs.Fired.{due-fit, continuations-room, continuations-fire}
use Rattle.wheel.proofs.Env.fire_continuations.Goals as goal

pub resume_all-requires : goal.resume_all-requires
resume_all-requires c =
    let is = c.as_slice.ensures.value ∙ c.due_now-due.ensures.indices in
    record {
      records = (c.as_slice.ensures.fits, due-indices c.args.self.now.store.now c.args.lent.now.state.now _ _ is c.due_now-due.ensures.few, due-fit (fits_set c.args.self.now.image.now) _ _ _ (due-records c.args.self.now.store.now c.args.lent.now.state.now _ _ is c.requires.records.1) c.requires.records.0);
      room = continuations-room c.args.self.now.snapshot.now c.args.self.now.image.now _ c.now_ms-time.ensures (carried_by c.args.lent.now) _ c.without_due_continuations.ensures 32 c.requires.v_value.1;
    }

pub returns : goal.returns
returns c =
    record {
      does = continuations-fire c.args.self.now.snapshot.now c.args.self.now.image.now _ c.now_ms-time.ensures (carried_by c.args.lent.now) _ c.without_due_continuations.ensures _ (due-records c.args.self.now.store.now c.args.lent.now.state.now _ _ (c.as_slice.ensures.value ∙ c.due_now-due.ensures.indices) c.requires.records.1) c.resume_all.ensures.does;
      same = c.resume_all.ensures.same;
    }
