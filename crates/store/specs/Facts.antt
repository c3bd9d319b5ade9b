-- That words are those of a store of the shape is a fact: there is at most one proof of it.
use Rattle.std.specs.Prelude.{List, ℕ}
use native.Mathlib.Nat.{ℕ_set}
use mathlib.Core.Bool.{Bool-set}
use Rattle.store.specs.Volatile.{Readable}

pub readable-prop : (w : List ℕ) → IsProp (Readable w)
readable-prop w = hlevel (ℕ_set, Bool-set)
