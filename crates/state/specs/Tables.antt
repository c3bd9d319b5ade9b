-- What a loop over the elements of an array below its count finds: said of lists, for every kind of record.
use Rattle.std.specs.Prelude.{ℕ, ◌≤◌, ◌<◌, ◌≡◌, Bool, true, List, length, take, get_or}
use Rattle.std.specs.Prelude.{Option, None, Some}
use Rattle.model.specs.Lists.{find}

-- the first that passes stands at place i; i is the length where none does
pub record First {A : Type 0} (p : A → Bool) (l : List A) (i : ℕ) : Type 0 where
  pub within : i ≤ length l
  pub before : find p (take i l) ≡ None
  pub passes : (d : A) → i < length l → p (get_or l i d) ≡ true

-- the place of the first that passes, where one does
abbrev pub Finds : {A : Type 0} → (A → Bool) → List A → Option ℕ → Type 0
Finds p l None = First p l (length l)
Finds p l (Some i) = First p l i × (i < length l)
