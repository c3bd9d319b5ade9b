-- What the code answers of an image: load's refusal, or what its set needs.
use Rattle.std.specs.Prelude.{◌≡◌, ℕ, ◌+◌, ◌*◌, ◌≤◌, ◌<◌, List, [], ◌∷◌, true, cond, eqb, get_or}
use Rattle.model.specs.Lists.{total}
use Rattle.model.specs.Image.{size_of, few_enough}
use Rattle.model.specs.Rows.{rules}
use Rattle.model.specs.Flat.{flatten_rules, steps_in}
use Rattle.model.specs.Load.{image_refusal}
use Rattle.model.specs.Asked.{Asked, declined}
use Rattle.image.specs.Accepted.{Accepted}
use Rattle.room.specs.declared.Needed.{Needed}
use Rattle.room.specs.declared.Sums.{Sums}
use Rattle.room.specs.Room.{starts_of, own_steps, body_steps, effects_of_start, longest, outcomes_needed, effects_needed}

-- load's refusal of an image, or the room that its set needs: outcomes and effects, in records
unfoldable pub room_for : List ℕ → Asked
room_for img =
    cond (eqb (image_refusal img) 0)
    (record { number = 0; values = outcomes_needed img ∷ effects_needed img ∷ []; lent = [] })
    (declined 0 (image_refusal img))

-- the numbers of an answer
abbrev pub numbers : Needed → List ℕ
numbers r = r.outcomes ∷ r.effects ∷ []

-- so much room
pub record Needs (img : List ℕ) (r : Needed) : Type 0 where
  pub outcomes : r.outcomes ≡ outcomes_needed img
  pub effects : r.effects ≡ effects_needed img

-- THE ROWS OF THE LISTS ---------------------------------------------------------------------------------------------------------------
-- behind how many steps rule i's own list begins, and how many it has
abbrev pub begin_in : List ℕ → ℕ → ℕ
begin_in lists i = get_or lists (i * 2) 0

abbrev pub size_in : List ℕ → ℕ → ℕ
size_in lists i = get_or lists (i * 2 + 1) 0

-- the flat steps of the rules before rule i
abbrev pub steps_before : List ℕ → ℕ → ℕ
steps_before img i = total i (λ k. body_steps img k + own_steps img k)

-- an accepted image, with the rows of its lists
pub record Listed (img lists : List ℕ) : Type 0 where
  pub image : Accepted img
  pub few : few_enough img ≡ true
  pub steps : steps_in (flatten_rules img) ≤ 2048
  pub begins : (i : ℕ) → i < size_of img rules → begin_in lists i ≡ steps_before img i + body_steps img i
  pub sizes : (i : ℕ) → i < size_of img rules → size_in lists i ≡ own_steps img i

-- the rules' starts, the effects of these, and the longest list
pub record Summed (img : List ℕ) (s : Sums) : Type 0 where
  pub starts : s.starts ≡ total (size_of img rules) (starts_of img)
  pub effects : s.effects ≡ total (size_of img rules) (λ i. starts_of img i * effects_of_start img i)
  pub longest : s.longest ≡ longest img
