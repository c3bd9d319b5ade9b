-- `exports::evaluation::given` meets its contract. Assumes nothing.
use mathlib.Core.Path.{sym, ◌∙◌}
use mathlib.Core.Bool.{true, false}
use Rattle.exports.proofs.Givens.{not-ok, snapshot-refused, image-refused, store-decides}
use Rattle.exports.proofs.evaluation.given.Goals as goal

pub returns-in_err-refusal-clause-given : goal.returns-in_err-refusal-clause-given
returns-in_err-refusal-clause-given c =
    not-ok _ c.from_residual.ensures.0 ∙ snapshot-refused c.args.snapshot.now c.args.image.now c.args.store.now c.in_err-refusal.field-0.0 c.in_err-refusal.ensures

pub returns-in_err-image-clause-given : goal.returns-in_err-image-clause-given
returns-in_err-image-clause-given c =
    not-ok _ c.from_residual-in_err-image.ensures.0 ∙ image-refused c.args.snapshot.now c.args.image.now c.args.store.now c.in_ok-refusal.ensures c.in_err-image.field-0.0 c.in_err-image.ensures.number

pub returns-then-not-readable-clause-given : goal.returns-then-not-readable-clause-given
returns-then-not-readable-clause-given c =
    store-decides c.args.snapshot.now c.args.image.now c.args.store.now c.in_ok-refusal.ensures false c.in_ok-image.ensures.number c.if-not-readable.ensures

pub returns-clause-given : goal.returns-clause-given
returns-clause-given c =
    store-decides c.args.snapshot.now c.args.image.now c.args.store.now c.in_ok-refusal.ensures true c.in_ok-image.ensures.number (sym c.if-not-readable.false ∙ c.readable.ensures)
