-- `wheel::Env::fire_every` meets its contract. Assumes nothing.
use mathlib.Core.Path.{◌∙◌}
use Rattle.activate.specs.Carried.{carried_by}
use Rattle.wheel.proofs.Fired.{slots-room, slots-fire}
use Rattle.wheel.proofs.Env.fire_every.Goals as goal

pub fire_slots-requires : goal.fire_slots-requires
fire_slots-requires c =
    record {
      few = c.as_slice.ensures.fits;
      room = slots-room c.args.self.now.snapshot.now c.args.self.now.image.now _ c.now_ms-time.ensures (carried_by c.args.lent.now) _ c.move_slots.ensures 64 c.requires;
    }

pub returns : goal.returns
returns c =
    record {
      does = slots-fire c.args.self.now.snapshot.now c.args.self.now.image.now _ c.now_ms-time.ensures (carried_by c.args.lent.now) _ c.move_slots.ensures _ (c.as_slice.ensures.value ∙ c.due_slots-due.ensures) c.fire_slots.ensures.does;
      same = c.fire_slots.ensures.same;
    }
