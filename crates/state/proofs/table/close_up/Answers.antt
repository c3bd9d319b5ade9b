-- `state::table::close_up` meets its contract. The invariant is `Closes`. Assumes nothing.
use mathlib.Core.Path.{ap, ◌∙◌}
use mathlib.Core.List.{List}
use Prim.Native.Nat.{ℕ}
use Rattle.rows.specs.Places.{row_at}
use Rattle.state.specs.Cuts.{passes}
use native.Mathlib.Omega.{arith}
use Rattle.state.proofs.Tables.{closes-start, closes-fits, closes-keep, closes-skip, closed, closed-count, gone-within}
use Rattle.state.proofs.table.close_up.Goals as goal
use Rattle.state.proofs.table.close_up.Goals.{then-stays, else-stays}

pub loop-i-init : goal.loop-i-init
loop-i-init g c = record { few = omega arith; closes = closes-start _ (passes g.R.Row.codec c.args.at g.test) _ }

pub row_of-requires : goal.row_of-requires
row_of-requires g c =
    let v = c.loop-i.invariant.closes in
    (closes-fits _ (passes g.R.Row.codec c.args.at g.test) _ _ _ _ c.requires.1.1.0.0.fits v, omega (arith, v.count))

pub move_row-requires : goal.move_row-requires
move_row-requires g c =
    let v = c.loop-i.invariant.closes in
    (closes-fits _ (passes g.R.Row.codec c.args.at g.test) _ _ _ _ c.requires.1.1.0.0.fits v, omega (arith, c.loop-i.invariant.few), omega (arith, v.count))

pub loop-i-preserved : goal.loop-i-preserved
loop-i-preserved g c =
    let v = c.loop-i.invariant in
    let e = c.requires.1.1.1.1 _ _ c.stays.ensures ∙ ap g.test (c.at.ensures ∙ ap (λ (row : List ℕ). row_at g.R.Row.codec row c.args.at) c.row_of.ensures.is) in
    elim c.if-stays.branch [
      | then-stays w ↦ record { few = omega (arith, v.few); closes = rw (w.t-is, w.j-is) (closes-keep _ (passes g.R.Row.codec c.args.at g.test) _ _ _ _ c.requires.1.1.0.0.fits v.closes _ c.loop-i-test.true e w.if-stays.true _ w.move_row.ensures) }
      | else-stays w ↦ record { few = omega (arith, v.few); closes = rw (w.t-is, w.j-is) (closes-skip _ (passes g.R.Row.codec c.args.at g.test) _ _ _ _ c.requires.1.1.0.0.fits v.closes _ c.loop-i-test.true e w.if-stays.false) }
    ]

-- what the words that are cleared need
pub clear-requires : goal.clear-requires
clear-requires g c = gone-within _ _ c.requires.1.1.0.0 (passes g.R.Row.codec c.args.at g.test) _ _ _ c.loop-i.invariant.closes (omega arith) (omega arith)

pub returns : goal.returns
returns g c =
    let v = c.loop-i.invariant.closes in
    let test = passes g.R.Row.codec c.args.at g.test in
    record {
      rows = closed _ _ c.requires.1.1.0.0 test _ _ _ v (omega arith) (omega arith) _ c.clear.ensures;
      count = closed-count _ _ c.requires.1.1.0.0 test _ _ _ v (omega arith) (omega arith);
    }
