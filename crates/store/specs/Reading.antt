-- The store that words say, where they are those of a store.
use Rattle.std.specs.Prelude.{List, ℕ}
use Rattle.model.specs.Parts.{layout}
use Rattle.model.specs.State.{Store}
use Rattle.model.specs.Store.{store_in}

unfoldable pub store_at : List ℕ → Store
store_at w = store_in (layout.get w)
