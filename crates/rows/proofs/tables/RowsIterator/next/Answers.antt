-- `rows::tables::RowsIterator::next` meets its contract: the first row leaves. Assumes nothing.
use mathlib.Core.Path.{◌≡◌, ap, sym, ◌∙◌}
use mathlib.Core.List.{[]}
use Prim.Native.Nat.{ℕ, ◌+◌, ◌-◌}
use native.Mathlib.Omega.{arith}
use lib.ListN.{length}
use Rattle.rows.proofs.Reading.{one_row, table_none, table_first}
use Rattle.rows.proofs.tables.RowsIterator.next.Goals as goal

pub returns-then-self-eq0-clause-steps : goal.returns-then-self-eq0-clause-steps
returns-then-self-eq0-clause-steps g c =
    let s = c.self.inside in
    let e : c.args.self.now ≡ [] = rw (← c.self.view_is, c.if-self-eq0.true) (sym (table_none g.T.Row.codec s.words.now s.k)) in
    (e, e)

pub overflow_add-self : goal.overflow_add-self
overflow_add-self g c =
    let s = c.self.inside in
    omega (arith, c.self.invariant, c.WORDS.ensures, one_row s.n (s.n - 1) g.T.Row.WORDS (omega arith))

pub returns-clause-steps : goal.returns-clause-steps
returns-clause-steps g c =
    let s = c.self.inside in
    let e = ap (λ (n : ℕ). s.k + n) (c.WORDS.ensures ∙ sym g.met.T.Row.takes.cells) in
    rw (← c.self.view_is, c.at-x.ensures) (table_first g.T.Row.codec s.words.now s.n s.k (s.k + c.WORDS.result) (s.n - 1) (omega arith) e)

pub returns-clause-goes : goal.returns-clause-goes
returns-clause-goes g c =
    let s = c.self.inside in
    let e = ap (λ (n : ℕ). s.k + n) (c.WORDS.ensures ∙ sym g.met.T.Row.takes.cells) in
    let first = sym (ap length c.self.view_is) ∙ ap length (table_first g.T.Row.codec s.words.now s.n s.k (s.k + c.WORDS.result) (s.n - 1) (omega arith) e) in
    record { on = λ h. (tt, tt, omega (arith, first)); keeps = tt; rests = λ h. tt }
