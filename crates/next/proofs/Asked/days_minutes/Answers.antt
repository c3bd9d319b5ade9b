-- `next::Asked::days_minutes` meets its contract. Assumes nothing.
use mathlib.Core.Path.{refl, ap, ◌∙◌}
use native.Mathlib.Nat.{sub-zero}
use Rattle.std.proofs.Common.{rules}
use Rattle.std.proofs.lemmas.Iterator.{YieldsList-from_range}
use Rattle.std.proofs.lemmas.Iterator.Consumers.{fold_from_yields_List}
use Rattle.next.specs.Distance.{within, day_ahead}
use Rattle.next.proofs.Least.{sooner}
use Rattle.next.proofs.Minutes.{of-days}
use Rattle.next.proofs.Asked.days_minutes.Goals as goal

pub returns : goal.returns
returns c =
    let a = c.args in
    c.within.ensures
    ∙ ap within (fold_from_yields_List _ (sooner (day_ahead a.self.now.t a.days a.minute)) _ _ c.fold.ensures.ran (YieldsList-from_range 0 7 7 refl (sub-zero 7)) (λ b x r q k. search rules))
    ∙ of-days _ _ _
