-- The claim: what a tick or a run gives is within these numbers, and so no tick or run is refused for lack of room by a caller that lends it. How
-- many records lent words hold is said by the calls themselves (`outcome_room`, `effect_room`).
use Rattle.std.specs.Prelude.{◌≡◌, ℕ, ◌≤◌, List, length}
use Rattle.std.specs.Prelude.{Option, None, Some}
use Rattle.model.specs.Load.{image_refusal}
use Rattle.model.specs.State.{RuleSet, Store}
use Rattle.model.specs.Activate.{Handled}
use Rattle.model.specs.Calls.{Call, new, load, unload, enable, tick, run, deadline, counters, Answer, refused, effects_of, outcome_room, effect_room}
use Rattle.room.specs.Room.{outcomes_needed, effects_needed}

-- what a call did, before it is asked whether the lent stores hold it
pub record Within (img : List ℕ) (x : Handled) : Type 0 where
  pub outcomes : length x.outcomes ≤ outcomes_needed img
  pub effects : effects_of x.outcomes ≤ effects_needed img

-- the words lent to a tick or run hold o outcomes and f effects
pub record Lent (o f os es : ℕ) : Type 0 where
  pub outcomes : o ≤ outcome_room os
  pub effects : f ≤ effect_room es

-- enough for the loaded set
abbrev pub EnoughFor : Option RuleSet → Call → Type 0
EnoughFor None c = Unit {0}
EnoughFor (Some set) (new t) = Unit {0}
EnoughFor (Some set) (load t img) = Unit {0}
EnoughFor (Some set) (unload t) = Unit {0}
EnoughFor (Some set) (enable rule on) = Unit {0}
EnoughFor (Some set) (tick snap os es) = Lent (outcomes_needed set.image) (effects_needed set.image) os es
EnoughFor (Some set) (run rule dry snap os es) = Lent (outcomes_needed set.image) (effects_needed set.image) os es
EnoughFor (Some set) deadline = Unit {0}
EnoughFor (Some set) counters = Unit {0}

-- of the set that a store's words hold
abbrev pub EnoughIn : Option Store → Call → Type 0
EnoughIn None c = Unit {0}
EnoughIn (Some s) c = EnoughFor s.loaded c

-- A HISTORY: a caller keeps room for o outcomes and f effects, asks of each image that it loads whether that is enough, and lends it all ------------
pub record Room (o f : ℕ) (img : List ℕ) : Type 0 where
  pub outcomes : outcomes_needed img ≤ o
  pub effects : effects_needed img ≤ f

abbrev pub Careful : ℕ → ℕ → Call → Type 0
Careful o f (new t) = Unit {0}
Careful o f (load t img) = image_refusal img ≡ 0 → Room o f img
Careful o f (unload t) = Unit {0}
Careful o f (enable rule on) = Unit {0}
Careful o f (tick snap os es) = Lent o f os es
Careful o f (run rule dry snap os es) = Lent o f os es
Careful o f deadline = Unit {0}
Careful o f counters = Unit {0}

-- the loaded set needs no more
abbrev pub LoadedWithin : ℕ → ℕ → Option RuleSet → Type 0
LoadedWithin o f None = Unit {0}
LoadedWithin o f (Some set) = Room o f set.image

-- no answer is refusal 30
abbrev pub Not30 : Answer → Type 0
Not30 a = a ≡ refused 30 → ⊥
