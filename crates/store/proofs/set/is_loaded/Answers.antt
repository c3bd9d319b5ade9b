-- `store::set::is_loaded` meets its contract. Assumes nothing.
use mathlib.Core.Path.{sym, ap, ◌∙◌}
use Rattle.model.specs.World.{is_one}
use Rattle.rows.specs.Places.{row_at}
use Rattle.store.proofs.Parts.{loaded_at}
use Rattle.store.proofs.set.is_loaded.Goals as goal

pub returns : goal.returns
unfolding row_at
returns c = c.at.ensures ∙ ap is_one (sym (loaded_at c.args.store.now))
