-- `state::put_minute` meets its contract. Assumes nothing.
use native.Mathlib.Omega.{arith}
use Rattle.state.proofs.CounterWords.{week-set}
use Rattle.state.proofs.put_minute.Goals as goal

pub returns : goal.returns
returns c =
    week-set _ c.requires _ c.args.minute (λ j. omega (arith, c.slice_known-2-1.given j)) c.put_option.ensures
