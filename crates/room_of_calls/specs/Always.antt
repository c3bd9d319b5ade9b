-- No run of the eight functions of `engine` shows the number 30. It is proved as `always-of-calls` of proofs/Always.antt.
use Rattle.std.specs.Prelude.{◌≡◌, List, ℕ}
use Rattle.std.specs.List.{AllByRecursion}
use Rattle.room.specs.Enough.{Careful}
use Rattle.demand3.specs.Runs.{AnyRun, call_of, shown_by}

-- every run is one of a caller that keeps room for o outcomes and f effects, loads no accepted image that needs more, and lends it all
abbrev pub AllCareful : ℕ → ℕ → List AnyRun → Type 0
AllCareful o f xs = AllByRecursion (λ (x : AnyRun). Careful o f (call_of x)) xs

abbrev pub Never30 : List AnyRun → Type 0
Never30 xs = AllByRecursion (λ (x : AnyRun). (shown_by x).number ≡ 30 → ⊥) xs
