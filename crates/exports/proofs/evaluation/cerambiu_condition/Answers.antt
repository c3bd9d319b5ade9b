-- `exports::evaluation::cerambiu_condition` meets its contract. Assumes nothing.
use mathlib.Core.Path.{sym}
use Rattle.exports.proofs.Givens.{accepted-is, store-given}
use Rattle.exports.proofs.Words.{no-condition, condition-told}
use Rattle.exports.proofs.evaluation.cerambiu_condition.Goals as goal

pub returns-in_default : goal.returns-in_default
returns-in_default c = no-condition _ _ _ _ (sym c.in_default.ensures.given)

pub begin-requires : goal.begin-requires
begin-requires c = store-given c.args.snapshot.now c.args.image.now _ (sym c.in-Ok.ensures.given)

pub new-requires : goal.new-requires
new-requires c = (accepted-is _ c.words.ensures.accepted).0

pub returns : goal.returns
returns c =
    condition-told _ _ _ _ (sym c.in-Ok.ensures.given) _ (rw c.in-Ok.ensures.value at c.begin.ensures) c.condition_at.result _
    (rw (c.new.ensures, c.words.ensures.same, c.in-Ok.ensures.value) at c.condition_at.ensures) c.verdict_code.ensures
