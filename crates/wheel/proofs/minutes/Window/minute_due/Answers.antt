-- `wheel::minutes::Window::minute_due` meets its contract. Assumes nothing.
use mathlib.Core.Path.{refl, ◌∙◌}
use Rattle.std.proofs.Common.{rules}
use Rattle.std.proofs.lemmas.Iterator.{YieldsList-from_range}
use Rattle.std.proofs.lemmas.Iterator.Search.{any_from_yields_List}
use Rattle.wheel.specs.Wall.{day_due}
use Rattle.wheel.proofs.Places.{any-numbers}
use Rattle.wheel.proofs.Windows.{of-days}
use Rattle.wheel.proofs.minutes.Window.minute_due.Goals as goal

pub returns : goal.returns
returns c =
    let a = c.args in
    let p = day_due a.self.base a.self.window a.days a.minute in
    of-days _ _ _ _ (any_from_yields_List p _ _ _ c.any.ensures.ran (YieldsList-from_range 0 7 7 refl refl) (λ d b q h. search rules) ∙ any-numbers p 0 7)
