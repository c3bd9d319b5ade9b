-- Laws on lists. Assumes nothing.
use mathlib.Core.Path.{◌≡◌, refl}
use mathlib.Core.List.{List, [], ◌∷◌}
use mathlib.Core.Bool.{Bool}
use Rattle.std.specs.List.{filter}
use Rattle.model.specs.Lists.{keep}

-- what the library's methods keep is what the specification keeps
pub filter-keep : {A : Type 0} (p : A → Bool) (l : List A) → filter p l ≡ keep p l
filter-keep p [] = refl
filter-keep p (x ∷ l) = rw (filter-keep p l)
