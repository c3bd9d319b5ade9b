-- Calls that ask a store: the lowest refusal, and the next start by `asked` of the specification.
use Rattle.std.specs.Prelude.{List, [], ℕ}
use Rattle.std.specs.Prelude.{Option, None, Some}
use Rattle.model.specs.State.{Store}
use Rattle.model.specs.OnWords.{store_refusal}
use Rattle.model.specs.Snapshot.{snapshot_refusal}
use Rattle.model.specs.World.{world_of}
use Rattle.model.specs.Asked.{Asked, asked}
use Rattle.next.specs.NextStart.{next_start, start_values}
use Rattle.next.specs.declared.NextStart.{NextStart}

-- the lowest refusal: that of the words w, if they are no store, before the one of what else is given, `other`, 0 where that is accepted
abbrev pub lowest_of : Option Store → List ℕ → ℕ → ℕ
lowest_of None w other = store_refusal w
lowest_of (Some s) w other = other

-- NEXT START: document 02, request 7
abbrev pub start_asked : NextStart → Asked
start_asked x = record { number = 0; values = start_values x; lent = [] }

-- on the words of a store, in the world of the snapshot `snap`
unfoldable pub next_start_on : List ℕ → List ℕ → Asked
next_start_on snap w = asked w (snapshot_refusal snap) 0 (λ s. start_asked (next_start s (world_of snap)))
