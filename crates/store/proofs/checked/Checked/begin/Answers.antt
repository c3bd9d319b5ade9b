-- `store::checked::Checked::begin` meets its contract. Assumes nothing.
use Rattle.store.proofs.Reading.{as_read, state-read}
use Rattle.store.proofs.checked.Checked.begin.Goals as goal

pub begin-requires : goal.begin-requires
begin-requires c = ((as_read _ c.self.invariant).readable, c.rule_count.ensures.few)

pub returns : goal.returns
returns c =
    let w = c.self.inside.words.now in
    let n = rw (← c.self.view_is) at c.rule_count.ensures.count in
    rw (← c.self.view_is) (state-read w _ (as_read w c.self.invariant) _ _ n c.begin.ensures)
