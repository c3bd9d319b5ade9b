-- A list that a walk is in: of n records of a table the next, how many are left, and where they are written.
use Rattle.std.specs.Prelude.{ℕ, ◌+◌, ◌-◌, ◌<◌, ◌≤◌, cond, List, eqb, get_or}
use Rattle.model.specs.Image.{width_of, size_of}
use Rattle.rewrite.specs.Mention.{Mention, steps_of}
pub use Rattle.rewrite.specs.declared.walk.Frame.{Frame}

-- no record is left
abbrev pub no_frame : Frame
no_frame = record { table = 0; word = 0; from = 0; left = 0; row = 0 }

-- the list that a mention leads to, at its first word
abbrev pub entered : List ℕ → Mention → Frame
entered counts m = record { table = m.table; word = 0; from = m.first; left = m.count; row = get_or counts m.table 0 }

-- behind a mention: the next word of the record, or the next record
unfoldable pub passed : Frame → Mention → Frame
passed f m =
    let j = f.word + steps_of m in
    cond (eqb j (width_of f.table))
    (record { table = f.table; word = 0; from = f.from + 1; left = f.left - 1; row = f.row + 1 })
    (record { table = f.table; word = j; from = f.from; left = f.left; row = f.row })

-- the records of a frame are records of the image, and its rows are few
pub record Within (img : List ℕ) (f : Frame) : Type 0 where
  pub table : f.table < 8
  pub word : f.word < width_of f.table
  pub held : f.from + f.left ≤ size_of img f.table
  pub near : f.from + f.left ≤ 4096
  pub rows : f.row + f.left ≤ 8192

-- the same of a mention
pub record Leads (img : List ℕ) (m : Mention) : Type 0 where
  pub table : m.table < 8
  pub held : m.first + m.count ≤ size_of img m.table
  pub near : m.first + m.count ≤ 4096
