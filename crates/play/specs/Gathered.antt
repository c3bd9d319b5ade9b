-- Lines are gathered in a buffer and go from it to standard output. What a write does outside the program has no definition here.
use Rattle.std.specs.Prelude.{ℕ, ◌≡◌, List, ◌++◌, get_or, Result, MatchResult}
use Rattle.script.specs.declared.calls.Call.{Call}
use Rattle.script.specs.Print.{refused_line}
use Rattle.play.specs.declared.output.Output.{Output}
use Rattle.play.specs.declared.calls.Refused.{Refused}
use Rattle.play.specs.declared.calls.Settings.{Settings}
use Rattle.play.specs.declared.calls.Lent.{Lent}
use Rattle.play.specs.declared.calls.Said.{Said}
use Rattle.play.specs.Playing.{Obeyed, doing, settings_of}

-- what was gathered, and the lines behind it, have gone out up to some place, and stand in the buffer from there on
pub record Gathers (o : Output) (lines : List ℕ) (r : Output) : Type 0 where
  pub gone : List ℕ
  pub bytes-stand : gone ++ r.bytes.items ≡ o.bytes.items ++ lines

-- a call of the table was made: the store's words after it, and its lines were printed, but for a refusal's
pub record Makes (a : Obeyed) (call : Call) (w : List ℕ) (o o' : Output) (r : Result (Unit {0}) Refused) : Type 0 where
  pub store : w ≡ a.store
  pub lines : MatchResult r (λ _. Gathers o a.lines o') (λ e. (a.lines ≡ refused_line call e.0) × (o' ≡ o))

-- a line was obeyed: the store's words, and the output before and after
pub record Does (a : Obeyed) (w : List ℕ) (o o' : Output) : Type 0 where
  pub store : w ≡ a.store
  pub lines : Gathers o a.lines o'

-- what a call does that a line says, and what is lent later
abbrev pub done : Said → Lent → Obeyed
done s l = doing 24576 327680 l.settings s.list.now s.text.now (get_or s.command.numbers 0 0) (get_or s.command.numbers 1 0) (get_or s.command.numbers 2 0) s.command.call l.store

abbrev pub lent_after : Said → Settings → Settings
lent_after s t = settings_of s.command.call (get_or s.command.numbers 0 0) (get_or s.command.numbers 1 0) t
