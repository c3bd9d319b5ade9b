-- `exports::evaluation::cerambiu_value` meets its contract. Assumes nothing.
use mathlib.Core.Path.{sym, ◌∙◌}
use Rattle.exports.proofs.Givens.{accepted-is, store-given}
use Rattle.exports.proofs.Words.{no_value, value-told, none-words, some_words}
use Rattle.exports.proofs.evaluation.cerambiu_value.Goals as goal

pub returns-in_default : goal.returns-in_default
returns-in_default c = c.put_number.ensures ∙ no_value _ _ _ _ (sym c.in_default.ensures.given)

pub begin-requires : goal.begin-requires
begin-requires c = store-given c.args.snapshot.now c.args.image.now _ (sym c.in-Ok.ensures.given)

pub new-requires : goal.new-requires
new-requires c = (accepted-is _ c.words.ensures.accepted).0

pub returns-in-Some : goal.returns-in-Some
returns-in-Some c =
    value-told _ _ _ _ (sym c.in-Ok.ensures.given) _ (rw c.in-Ok.ensures.value at c.begin.ensures) c.value_at.result _
    (rw (c.new.ensures, c.words.ensures.same, c.in-Ok.ensures.value) at c.value_at.ensures)
    (some_words _ _ _ _ (record { sfits = c.in-Some.known_told-1-own.given.0.1 }) c.in-Some.is c.cast_unsigned.ensures c.put_number-in-Some.ensures)

pub returns-in-None : goal.returns-in-None
returns-in-None c =
    value-told _ _ _ _ (sym c.in-Ok.ensures.given) _ (rw c.in-Ok.ensures.value at c.begin.ensures) c.value_at.result _
    (rw (c.new.ensures, c.words.ensures.same, c.in-Ok.ensures.value) at c.value_at.ensures)
    (none-words _ _ c.in-None.is c.put_number-in-None.ensures)
