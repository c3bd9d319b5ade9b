-- `store::table::part_fits` meets its contract. Assumes nothing.
use mathlib.Core.Path.{ap, ◌∙◌}
use lib.ListN.{drop}
use Rattle.model.specs.Layout as model-layout
use Rattle.store.proofs.table.part_fits.Goals as goal

pub returns : goal.returns
returns c = c.fits.ensures ∙ ap (λ (p : model-layout.Part). model-layout.part_fits p (drop c.args.k c.args.s.now)) c.part.ensures.0
