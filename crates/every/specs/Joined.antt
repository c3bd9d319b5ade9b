-- Slots that join a table of Every slots.
use Rattle.std.specs.Prelude.{List, ◌++◌, ℕ, ◌+◌, ◌≤◌, length, get_or}
use Rattle.model.specs.Codec.{most}
use Rattle.model.specs.Parts.{slot_row}
use Rattle.model.specs.declared.EverySlot.{EverySlot}
use Rattle.state.specs.Meaning.{Holds, Counted}

-- t is a table, and these have room behind its slots
pub record HasRoomFor (t : List ℕ) (add : List EverySlot) : Type 0 where
  pub counted : Counted 64 slot_row t
  pub few : get_or t 0 0 + length add ≤ 64

-- they stand behind them
abbrev pub Joined : List ℕ → List EverySlot → List ℕ → Type 0
Joined t add t' = Holds 64 slot_row t' ((most 64 slot_row).get t ++ add)
