-- The player stands where the script does.
use Rattle.std.specs.Prelude.{ℕ, ◌≡◌, List, ◌++◌, take}
use Rattle.play.specs.declared.player.Player.{Player}
use Rattle.script.specs.Script.{Parsed}
use Rattle.play.specs.Playing.{Play, obeyed, settings_after, bytes_come}
use Rattle.play.specs.Gathered.{Does}
use Rattle.play.specs.Example.{room}

-- the line that is being read stands in its buffer, which has room for one byte more than a line may have; and of what was printed, a first part has
-- gone out, and the rest stands in the buffer
pub record Stands (s : Player) (p : Play) : Type 0 where
  pub number : s.number ≡ p.number
  pub text : s.line.items ≡ take 262145 p.text
  pub settings : s.lent.settings ≡ p.settings
  pub store : s.lent.store ≡ p.store
  pub gone : List ℕ
  pub printed : gone ++ s.output.bytes.items ≡ p.printed

-- a line that says this was obeyed
pub record Obeys (q : Parsed) (s r : Player) : Type 0 where
  pub does : Does (obeyed 24576 327680 s.number q.line q.list q.text s.lent.settings s.lent.store) r.lent.store s.output r.output
  pub settings : r.lent.settings ≡ settings_after q.line s.lent.settings
  pub number : r.number ≡ s.number

-- wherever the script stood before, it has come on by `step`
abbrev pub Follows : (Play → Play) → Player → Player → Type 0
Follows step s r = (p : Play) → Stands s p → Stands r (step p)

-- some bytes were read, and played
pub record Reads (s r : Player) : Type 0 where
  pub script : List ℕ
  pub follows : Follows (bytes_come room script) s r
