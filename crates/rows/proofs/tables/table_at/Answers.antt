-- `rows::tables::table_at` meets its contract. Assumes nothing.
use mathlib.Core.Path.{ap, sym, ◌∙◌}
use Prim.Native.Nat.{ℕ, ◌+◌, ◌*◌}
use native.Mathlib.Numerals.{add-one}
use native.Mathlib.Omega.{arith}
use lib.ListN.{length}
use Rattle.rows.specs.Places.{row_at}
use Rattle.rows.proofs.Reading.{table_none, table_more}
use Rattle.rows.proofs.tables.table_at.Goals as goal

pub loop-i-init : goal.loop-i-init
loop-i-init g c = (ap length c.new-rows.ensures, c.new-rows.ensures ∙ table_none g.T.Row.codec _ _)

pub loop-i-preserved : goal.loop-i-preserved
loop-i-preserved g c =
    let v = c.loop-i.invariant in
    let r = g.T.Row.codec in
    let e = ap (λ (n : ℕ). row_at r c.args.s.now (c.args.k + c.loop-i.i * n)) (c.WORDS.ensures ∙ sym g.met.T.Row.takes.cells) in
    let t = table_more r c.args.s.now c.loop-i.i c.args.k in
    (omega (arith, c.push.ensures.len), c.push.ensures.items ∙ rw (v.1, c.at.ensures, e, add-one) (sym t))
