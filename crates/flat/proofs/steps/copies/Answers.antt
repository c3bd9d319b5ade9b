-- `flat::steps::copies` meets its contract: what the copies left give is what all give. Assumes nothing.
use Rattle.std.proofs.Common.{◌∙◌, arith}
use Rattle.flat.proofs.Copies.{copying-first, copying-next, copying-stop, copying-end}
use Rattle.flat.proofs.steps.copies.Goals as goal
use Rattle.flat.proofs.steps.copies.Goals.{then-end-list, else-end-list}

pub loop-init : goal.loop-init
loop-init c = let a = c.args in copying-first a.list.now a.times a.size a.n c.requires.0 c.requires.1

pub returns-then-at-size-gt256 : goal.returns-then-at-size-gt256
returns-then-at-size-gt256 c = copying-stop c.loop.invariant _ c.loop-test.true c.if-at-size-gt256.true c.put.ensures

pub loop-preserved : goal.loop-preserved
loop-preserved c =
    let l = c.loop in
    copying-next l.invariant _ c.loop-test.true c.if-at-size-gt256.false c.if-end-list.auto.list
    (elim c.if-end-list.branch [
      | then-end-list w ↦ λ h. w.list-is ∙ w.copy_within.ensures
      | else-end-list w ↦ λ h. absurd (omega (arith, w.if-end-list.false))
    ])

pub returns : goal.returns
returns c = copying-end c.loop.invariant (λ h. omega (arith, c.loop-test.false))
