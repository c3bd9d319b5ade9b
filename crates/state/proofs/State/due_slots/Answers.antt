-- `state::State::due_slots` meets its contract. Assumes nothing.
use native.Mathlib.Omega.{arith}
use mathlib.Core.Path.{refl, ap, ◌∙◌}
use Rattle.std.proofs.Common.{rules}
use Rattle.arrayvec.proofs.ArrayVecLemmas.{filter-from_retain}
use Rattle.model.specs.Lists.{keep}
use Rattle.state.specs.Named.{slot_due}
use Rattle.state.proofs.EverySlots.{slots-few, slots_read}
use Rattle.state.proofs.Lists.{filter-keep}
use Rattle.state.proofs.State.due_slots.Goals as goal

pub table_at-due-requires : goal.table_at-due-requires
table_at-due-requires c = let few = slots-few _ c.self.invariant in (omega arith, (few, omega arith))

pub returns : goal.returns
returns c =
    rw (← c.self.view_is) (filter-from_retain _ (slot_due c.args.time) _ (λ x b f' y r. search rules) _ _ c.retain.ensures.filtered
    ∙ filter-keep (slot_due c.args.time) _ ∙ ap (keep (slot_due c.args.time)) (slots_read _ c.self.invariant _ _ refl c.table_at-due.ensures))
