-- `wheel::wall::has_wall_triggers` meets its contract. Assumes nothing.
use mathlib.Core.Path.{refl, ap, ◌∙◌}
use native.Mathlib.Nat.{sub-zero}
use Prim.Native.Nat.{ℕ}
use Rattle.std.proofs.Common.{rules}
use Rattle.std.proofs.lemmas.Iterator.{YieldsList-from_range}
use Rattle.std.proofs.lemmas.Iterator.Search.{any_from_yields_List}
use Rattle.model.specs.Lists.{any, up_from}
use Rattle.state.specs.Meaning.{meaning}
use Rattle.wheel.specs.Wall.{enabled_wall}
use Rattle.wheel.proofs.Places.{any-numbers}
use Rattle.wheel.proofs.Windows.{of-rules}
use Rattle.wheel.proofs.wall.has_wall_triggers.Goals as goal

pub returns : goal.returns
returns c =
    let p = enabled_wall c.args.image.now (meaning c.args.v.now).rest in
    let n = c.size_of.result in
    of-rules _ _
    (any_from_yields_List p _ _ _ c.any.ensures.ran (YieldsList-from_range 0 n n refl (sub-zero n)) (λ i b q h. search rules)
    ∙ any-numbers p 0 n ∙ ap (λ (m : ℕ). any p (up_from 0 m)) c.size_of.ensures)
