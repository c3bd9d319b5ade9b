-- `store::volatile::put_first` meets its contract. Assumes nothing.
use Rattle.store.proofs.Copied.{first-put}
use Rattle.store.proofs.volatile.put_first.Goals as goal

pub returns : goal.returns
returns c =
    first-put _ _ _ c.args.words.now c.args.k c.args.m c.requires.0 c.requires.1 c.put_words.ensures c.clear.ensures
