-- `flat::steps::append_steps` meets its contract: words pasted, and words compared. Assumes nothing.
use Rattle.std.proofs.Common.{arith}
use Rattle.flat.proofs.Rows.{rows-behind}
use Rattle.flat.proofs.steps.append_steps.Goals as goal

pub returns-clause-behinds : goal.returns-clause-behinds
returns-clause-behinds c = λ rs e.
    let a = c.args in
    let p = c.place-at.ensures in (
      rows-behind a.b.now.words.now _ a.steps.now a.b.now.count rs e (λ h. let z = p.1 (omega arith) in rw z at c.put_words.ensures.words_after h),
      c.agrees-b.ensures rs e,
    )
