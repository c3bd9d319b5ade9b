-- `state::table::row_of` meets its contract. Assumes nothing.
use mathlib.Core.Path.{sym, ◌≡◌}
use Prim.Native.Nat.{◌+◌, ◌-◌, ◌*◌}
use native.Mathlib.Omega.{arith}
use Rattle.state.proofs.Tables.{row_at}
use Rattle.state.proofs.table.row_of.Goals as goal

pub returns-clause-is : goal.returns-clause-is
returns-clause-is c =
    let k = 1 + c.args.i * c.args.width in
    let n : k + c.args.width - k ≡ c.args.width = omega arith in
    rw n (sym (row_at _ _ c.requires.0 _ c.requires.1))
