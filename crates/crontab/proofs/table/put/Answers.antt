-- `crontab::table::put` meets its contract. Assumes nothing.
use mathlib.Core.Path.{◌≡◌}
use Prim.Native.Nat.{◌+◌, ◌*◌, ◌-◌}
use native.Mathlib.Omega.{arith}
use Rattle.crontab.proofs.Lines.{four-put}
use Rattle.crontab.proofs.table.put.Goals as goal

pub returns : goal.returns
returns c =
    let at = 8 * c.args.n in
    let k : at + 4 - at ≡ 4 = omega arith in
    rw (c.copy_from_slice.ensures.after, k) (four-put c.args.store.now at _ _ _ _ (omega (arith, c.requires)))
