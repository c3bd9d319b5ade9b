-- What words that are no store answer to a call.
use Rattle.std.specs.Prelude.{List, ℕ, Option, None, Some}
use Rattle.model.specs.State.{Store}
use Rattle.model.specs.OnWords.{store_refusal}

-- 1 or 2 for words that are no store, 0 for a store
abbrev pub refusal_of : Option Store → List ℕ → ℕ
refusal_of None w = store_refusal w
refusal_of (Some s) w = 0
