-- What the triggers of an accepted line are: its programme.
use Rattle.std.specs.Prelude.{ℕ, suc, ◌≤◌, ◌≡◌, true, List}
use Rattle.model.specs.Lists.{any, all, present}
use Rattle.model.specs.State.{Env}
use Rattle.model.specs.Wheel.{week_minutes, due_wall_kind}
use Rattle.model.specs.CrontabMeaning.{matches, triggers_in, minute_before, due_at, in_order, on_days}

-- the n triggers of a table are the line's programme
pub record Programme (line : List ℕ) (sunday ds n : ℕ) (store : List ℕ) : Type 0 where
  pub calendar : (w : ℕ) → suc w ≤ week_minutes → any (due_at w) (triggers_in store n) ≡ matches line sunday w
  pub wheel : (e : Env) (w : ℕ) → suc w ≤ week_minutes → present (due_wall_kind e (minute_before w) 1 (triggers_in store n)).kind ≡ matches line sunday w
  pub ordered : in_order (triggers_in store n) ≡ true
  pub same-days : all (on_days ds) (triggers_in store n) ≡ true
  pub some-day : 1 ≤ ds
  pub days-fit : ds ≤ 127
