-- `short_lists::count` meets its contract. Assumes nothing.
use mathlib.Core.Path.{sym}
use Rattle.short_lists.proofs.Theorems.{count-formula}
use Rattle.short_lists.proofs.count.Goals as goal

pub returns : goal.returns
returns c = sym (count-formula c.args.n)
