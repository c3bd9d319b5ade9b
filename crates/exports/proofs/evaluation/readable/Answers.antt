-- `exports::evaluation::readable` meets its contract. Assumes nothing.
use mathlib.Core.Path.{◌∙◌}
use Rattle.exports.proofs.Givens.{texts-decide, not-shaped}
use Rattle.exports.proofs.evaluation.readable.Goals as goal

pub returns-then-shaped : goal.returns-then-shaped
returns-then-shaped c =
    let r = c.counted in
    texts-decide _ _ c.shaped.ensures c.if-shaped.true r.result.n _ r.ensures.size (rw (r.ensures.words, r.ensures.place) at c.texts_short.ensures)

pub returns-else-shaped : goal.returns-else-shaped
returns-else-shaped c = c.if-shaped.false ∙ not-shaped _ _ c.shaped.ensures c.if-shaped.false
