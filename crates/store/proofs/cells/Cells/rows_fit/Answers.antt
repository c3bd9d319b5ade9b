-- `store::cells::Cells::rows_fit` meets its contract. Assumes nothing.
use Rattle.std.proofs.Common.{arith, refl, rules, drop, length, ◌+◌, ◌*◌, ◌∙◌, zero-mul, add-zero}
use native.Mathlib.Nat.{sub-zero}
use Rattle.std.proofs.lemmas.Grind.{common_steps}
use Rattle.std.proofs.lemmas.Iterator.{YieldsList-from_range}
use Rattle.std.proofs.lemmas.Iterator.Search.{all_from_yields_List}
use Rattle.model.specs.Layout.{row_fits}
use Rattle.store.proofs.RowCells.{free-rows, void-rows, rows_chain}
use Rattle.store.proofs.cells.Cells.rows_fit.Goals as goal

pub returns-then-all_free : goal.returns-then-all_free
returns-then-all_free c = grind (arith, common_steps, free-rows)

pub returns-then-all_void : goal.returns-then-all_void
returns-then-all_void c = grind (arith, common_steps, void-rows)

pub returns : goal.returns
returns c =
    let a = c.args in
    let cs = a.self.now.cells.now in
    all_from_yields_List (λ i. row_fits cs (drop (a.k + i * length a.self.now.cells.now) a.s.now)) _ _ _ c.all.ensures.ran (YieldsList-from_range 0 a.n a.n refl (sub-zero a.n)) (λ i b q h. search rules)
    ∙ rows_chain cs a.s.now _ refl a.n 0 a.k ∙ rw (zero-mul, add-zero)
