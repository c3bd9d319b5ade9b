-- `wheel::Env::fire_timers` meets its contract. Assumes nothing.
use mathlib.Core.Path.{◌∙◌}
use Rattle.activate.specs.Carried.{carried_by}
use Rattle.wheel.proofs.Fired.{timers-room, timers-fire}
use Rattle.wheel.proofs.Env.fire_timers.Goals as goal

pub fire_due_timers-requires : goal.fire_due_timers-requires
fire_due_timers-requires c =
    record {
      few = c.as_slice.ensures.fits;
      room = timers-room c.args.self.now.snapshot.now c.args.self.now.image.now _ c.now_ms-time.ensures (carried_by c.args.lent.now) _ c.without_due_timers.ensures 1024 c.requires;
    }

pub returns : goal.returns
returns c =
    record {
      does = timers-fire c.args.self.now.snapshot.now c.args.self.now.image.now _ c.now_ms-time.ensures (carried_by c.args.lent.now) _ c.without_due_timers.ensures _ (c.as_slice.ensures.value ∙ c.due_timers-due.ensures) c.fire_due_timers.ensures.does;
      same = c.fire_due_timers.ensures.same;
    }
