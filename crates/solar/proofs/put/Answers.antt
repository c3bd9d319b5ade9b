-- `solar::put` meets its contract. Assumes nothing.
use mathlib.Core.Path.{◌≡◌}
use Prim.Native.Nat.{◌+◌, ◌*◌, ◌-◌}
use native.Mathlib.Omega.{arith}
use borrow.Author.Rules.{rules}
use Rattle.solar.proofs.Starts.{copied-in}
use Rattle.solar.proofs.put.Goals as goal

pub returns : goal.returns
returns c =
    let at = 3 * c.args.n in
    let k : at + 3 - at ≡ 3 = omega arith in
    rw (c.copy_from_slice.ensures.after, k) (copied-in c.args.starts.now c.args.start.now at (search rules) (omega (arith, c.requires)))
