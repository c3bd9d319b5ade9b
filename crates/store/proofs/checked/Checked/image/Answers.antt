-- `store::checked::Checked::image` meets its contract. Assumes nothing.
use Rattle.std.proofs.Common.{sym, ◌∙◌}
use Rattle.store.proofs.Reading.{as_read, image-there, no-image}
use Rattle.store.proofs.SetRules.{image-sized}
use Rattle.store.proofs.checked.Checked.image.Goals as goal

pub returns-then-is_loaded-clause-value : goal.returns-then-is_loaded-clause-value
returns-then-is_loaded-clause-value c =
    let r = as_read _ c.self.invariant in
    rw (c.new.ensures, ← c.self.view_is) (image-there _ _ r _ (sym c.is_loaded.ensures ∙ c.if-is_loaded.true) (c.image_in.ensures r.readable)).0

pub returns-then-is_loaded-clause-accepted : goal.returns-then-is_loaded-clause-accepted
returns-then-is_loaded-clause-accepted c =
    let r = as_read _ c.self.invariant in
    rw c.new.ensures (image-there _ _ r _ (sym c.is_loaded.ensures ∙ c.if-is_loaded.true) (c.image_in.ensures r.readable)).1

pub new-requires : goal.new-requires
new-requires c =
    let r = as_read _ c.self.invariant in
    image-sized _ (image-there _ _ r _ (sym c.is_loaded.ensures ∙ c.if-is_loaded.true) (c.image_in.ensures r.readable)).1

pub returns-else-is_loaded-clause-value : goal.returns-else-is_loaded-clause-value
returns-else-is_loaded-clause-value c = rw (← c.self.view_is) (no-image _ _ (as_read _ c.self.invariant) (sym c.is_loaded.ensures ∙ c.if-is_loaded.false))
