-- `every::same_slots` meets its contract: the image's slots are rebuilt from none, and compared. Assumes nothing.
use Rattle.std.proofs.Common.{refl, ◌∙◌}
use mathlib.Core.List.{[]}
use Rattle.every.proofs.Slots.{blank, table_holds, no_table}
use Rattle.every.proofs.same_slots.Goals as goal

pub join_all-requires : goal.join_all-requires
join_all-requires c = blank

pub returns : goal.returns
returns c =
    c.same.ensures ∙ rw (c.counted.ensures, table_holds c.join_all.new.t _ _ c.join_all.ensures refl, c.new-none.ensures, no_table [] 0)
