-- The steps at the points of a rule's lists, and how far they lead.
use Rattle.std.specs.Prelude.{ℕ, ◌+◌, ◌<◌, ◌≤◌, ◌≡◌, Bool, true, List, leb, length}
use Rattle.std.specs.Prelude.{Option, None, Some}
use Rattle.std.specs.Prelude.{slice_get}
use Rattle.model.specs.Lists.{all}
use Rattle.model.specs.declared.Point.{Point}
use Rattle.model.specs.declared.Step.{Step}
use Rattle.model.specs.declared.Step.TheVariants.{Primitive, Wait, Branch, After, Fail}
use Rattle.flat.specs.Words.{steps_in, list_words}

-- how far behind itself a step can lead
abbrev pub reach : Step → ℕ
reach (Primitive i) = 0
reach (Wait ms) = 0
reach (Branch c t n) = t + n
reach (After ms) = 0
reach Fail = 0

-- the step at a point of a rule, in its part of the flat steps
abbrev pub step_in : List ℕ → ℕ → Point → Option Step
step_in w own p = slice_get (steps_in (list_words w own p.list)) p.place

-- no step leads further than a list is long
abbrev pub is_near : Step → Bool
is_near x = leb (reach x) 2048

-- the words are at most those of 2,048 steps, and no step of a rule's lists leads further
pub record NearLists (w : List ℕ) (own : ℕ) : Type 0 where
  pub few : length w ≤ 8192
  pub near : (n : ℕ) → all is_near (steps_in (list_words w own n)) ≡ true

-- a step that stands at a point of flat steps is near the start of its list, and leads no further than a list is long
abbrev pub IsNear : Point → Option Step → Type 0
IsNear p None = Unit {0}
IsNear p (Some x) = (p.place < 2048) × (reach x ≤ 2048)
