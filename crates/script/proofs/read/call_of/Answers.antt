-- `script::read::call_of` meets its contract. Assumes nothing.
use Rattle.std.proofs.Common.{sym}
use Rattle.std.proofs.lemmas.Result.{err_from_is_err_and}
use Rattle.script.specs.Table.{rows}
use Rattle.script.proofs.Reading.{numbers-failed, ends-plain, too_many, ends-text, list-stopped, list_counted, parts-stopped, parts-counted, parts-refused}
use Rattle.script.proofs.read.call_of.Goals as goal

pub returns-in_err-numbers : goal.returns-in_err-numbers
returns-in_err-numbers c =
    let p = err_from_is_err_and c.from_residual.result c.from_residual.ensures.1 in
    rw (p.1, p.2) (numbers-failed (rows c.args.call) _ _ _ _ _ c.in_err-numbers.ensures)

pub returns-in-None : goal.returns-in-None
returns-in-None c = ends-plain (rows c.args.call) _ _ _ _ _ c.in_ok-numbers.ensures (sym c.in-Nothing.ensures) c.in-None.ensures _

pub returns-in-Some : goal.returns-in-Some
returns-in-Some c = too_many (rows c.args.call) _ _ _ _ _ c.in_ok-numbers.ensures (sym c.in-Nothing.ensures) _ _ c.in-Some.ensures _

pub returns-in_err-words-in-Words : goal.returns-in_err-words-in-Words
returns-in_err-words-in-Words c =
    let p = err_from_is_err_and c.from_residual-in_err-words-in-Words.result c.from_residual-in_err-words-in-Words.ensures.1 in
    rw (p.1, p.2) (list-stopped (rows c.args.call) _ _ _ _ _ c.in_ok-numbers.ensures (sym c.in-Words.ensures) _ _ _ (rw c.in_err-words-in-Words.was at c.items.ensures))

pub returns-in_ok-words-in-Words : goal.returns-in_ok-words-in-Words
returns-in_ok-words-in-Words c = list_counted (rows c.args.call) _ _ _ _ _ c.in_ok-numbers.ensures (sym c.in-Words.ensures) _ _ _ (rw c.in_ok-words-in-Words.was at c.items.ensures)

pub returns-in_err-words-in-Parts : goal.returns-in_err-words-in-Parts
returns-in_err-words-in-Parts c =
    let p = err_from_is_err_and c.from_residual-in_err-words-in-Parts.result c.from_residual-in_err-words-in-Parts.ensures.1 in
    rw (p.1, p.2) (parts-stopped (rows c.args.call) _ _ _ _ _ c.in_ok-numbers.ensures (sym c.in-Parts.ensures) _ _ _ (rw c.in_err-words-in-Parts.was at c.items-in-Parts.ensures))

pub returns-in_err-counted-in-Parts : goal.returns-in_err-counted-in-Parts
returns-in_err-counted-in-Parts c =
    let p = err_from_is_err_and c.from_residual-in_err-counted-in-Parts.result c.from_residual-in_err-counted-in-Parts.ensures.1 in
    rw (p.1, p.2) (parts-refused (rows c.args.call) _ _ _ _ _ c.in_ok-numbers.ensures (sym c.in-Parts.ensures) _ _ _ _ (rw c.in_ok-words-in-Parts.was at c.items-in-Parts.ensures) c.in_err-counted-in-Parts.ensures)

pub returns-in_ok-counted-in-Parts : goal.returns-in_ok-counted-in-Parts
returns-in_ok-counted-in-Parts c =
    parts-counted (rows c.args.call) _ _ _ _ _ c.in_ok-numbers.ensures (sym c.in-Parts.ensures) _ _ _ (rw c.in_ok-words-in-Parts.was at c.items-in-Parts.ensures) c.in_ok-counted-in-Parts.ensures

pub returns-in-Text : goal.returns-in-Text
returns-in-Text c = ends-text (rows c.args.call) _ _ _ _ _ c.in_ok-numbers.ensures (sym c.in-Text.ensures) _ c.saturating_sub-bytes.ensures _
