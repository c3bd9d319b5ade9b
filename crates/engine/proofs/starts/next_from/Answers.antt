-- `engine::starts::next_from` meets its contract. Assumes nothing.
use mathlib.Core.Path.{◌∙◌}
use Rattle.engine.proofs.StartLaws.{nothing-starts, starts_from}
use Rattle.engine.proofs.starts.next_from.Goals as goal

pub returns-in_err-image : goal.returns-in_err-image
returns-in_err-image c = c.from_residual.ensures ∙ nothing-starts c.args.store.now _ _ c.in_err-image.ensures.value

pub returns : goal.returns
returns c = starts_from c.args.store.now _ _ _ _ _ c.in_ok-image.ensures.value c.bits_in.ensures c.next_from.ensures
