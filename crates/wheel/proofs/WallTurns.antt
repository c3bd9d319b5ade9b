-- The rules of a wall window, one behind another, and the minutes around it. Assumes nothing.
use Prim.Native.Nat.{ℕ, suc, ◌+◌, ◌-◌, ◌%◌, ◌≤◌, ◌<◌}
use native.Mathlib.Numerals.{add-one}
use native.Mathlib.Omega.{arith}
use mathlib.Core.Path.{◌≡◌, refl}
use mathlib.Core.Bool.{Bool, true, false, cond, not, ◌&&◌, ◌||◌}
use mathlib.Core.List.{List}
use lib.ListN.{length, drop, get_or, drop_of_length-le}
use lib.Seq.{drop-cons}
use lib.Dec.{leb}
use borrow.Author.Tests.{le-leb, not-true, not-false}
use Rattle.std.proofs.lemmas.Bool.{and_right}
use Rattle.model.specs.Activate.{Handled, no_outcome, and_then}
use Rattle.model.specs.Flat.{set_of}
use Rattle.model.specs.Rules.{triggers_of, name_order}
use Rattle.model.specs.State.{Env, Volatile, is_enabled}
use Rattle.model.specs.Wheel.{start_wall, wall_turn, due_wall_kind, fire_due_wall_rules, has_wall_triggers, week_minutes, fire_window}
use Rattle.eval.specs.Answers.{env_in}
use Rattle.wheel.specs.Tick.{turn_handled, turn_missed, count_missed}

module _ (e : Env) (base window : ℕ) where
  turn-case : (b missed : Bool) (i : ℕ) (v : Volatile) (k : Bool → Volatile → Handled) →
      let w = due_wall_kind e base window (triggers_of e.set.image i) in
      wall_turn b missed e base window i v k ≡ and_then (cond b (start_wall w.kind e i v) (no_outcome v)) (k (cond b (missed || w.unsynced) missed))
  turn-case true missed i v k = refl
  turn-case false missed i v k = refl

  module _ (order : List ℕ) where
    -- from rule j on, where a sun was missed so far or not
    unfoldable pub wall_left : Bool → ℕ → Volatile → Handled
    wall_left missed j v = fire_due_wall_rules e base window missed (drop j order) v

    pub wall-turns : (missed next : Bool) (j d : ℕ) (v : Volatile) → j < length order → next ≡ turn_missed e base window (get_or order j d) missed v
        → wall_left missed j v ≡ and_then (turn_handled e base window (get_or order j d) v) (wall_left next (j + 1))
    unfolding wall_left fire_due_wall_rules turn_handled turn_missed
    wall-turns missed next j d v h is =
        rw (add-one, drop-cons order j d h, is) (turn-case (is_enabled v.rest (get_or order j d)) missed (get_or order j d) v (λ m w. fire_due_wall_rules e base window m (drop (suc j) order) w))

    pub wall-ends : (missed : Bool) (j : ℕ) (v : Volatile) → length order ≤ j → wall_left missed j v ≡ no_outcome (count_missed missed v)
    unfolding wall_left fire_due_wall_rules count_missed
    wall-ends missed j v h = rw (drop_of_length-le order {i = j} h)

pub keeps-next : (missed : Bool) (v : Volatile) → (count_missed missed v).next ≡ v.next
unfolding count_missed
keeps-next missed v = refl

pub keeps-last : (missed : Bool) (v : Volatile) → (count_missed missed v).last_number ≡ v.last_number
unfolding count_missed
keeps-last missed v = refl

-- ---- one rule's turn
module _ (e : Env) (base window i : ℕ) (missed : Bool) (v : Volatile) {on : Bool} (is : on ≡ is_enabled v.rest i) where
  pub turn-off : on ≡ false → turn_handled e base window i v ≡ no_outcome v
  unfolding turn_handled
  turn-off h = rw (← is, h)

  pub missed-off : on ≡ false → missed ≡ turn_missed e base window i missed v
  unfolding turn_missed
  missed-off h = rw (← is, h)

  pub turn_on : on ≡ true → turn_handled e base window i v ≡ start_wall (due_wall_kind e base window (triggers_of e.set.image i)).kind e i v
  unfolding turn_handled
  turn_on h = rw (← is, h)

  pub missed-on : on ≡ true → turn_missed e base window i missed v ≡ missed || (due_wall_kind e base window (triggers_of e.set.image i)).unsynced
  unfolding turn_missed
  missed-on h = rw (← is, h)

-- ---- the window
pub no-window : (snapshot image : List ℕ) (minute window : ℕ) (v : Volatile) → window ≡ 0 → fire_window (env_in snapshot image) minute window v ≡ no_outcome v
unfolding fire_window env_in set_of
no-window snapshot image minute window v z =
    let l : (has_wall_triggers image v.rest && leb 1 window) ≡ false = and_right (has_wall_triggers image v.rest) (leb 1 window) (rw z) in rw l

module _ (snapshot image : List ℕ) (minute window : ℕ) (v : Volatile) {has : Bool} (is : has ≡ has_wall_triggers image v.rest) where
  abbrev env : Env
  env = env_in snapshot image

  pub no-triggers : not has ≡ true → fire_window env minute window v ≡ no_outcome v
  unfolding fire_window env_in set_of
  no-triggers h = rw (← is, not-true has h)

  pub opens : not has ≡ false → (window ≡ 0 → ⊥) → fire_window env minute window v ≡ fire_due_wall_rules env ((minute + week_minutes - window) % week_minutes) window false (name_order image) v
  unfolding fire_window env_in set_of
  opens h z = let l : 1 ≤ window = omega arith in rw (← is, not-false has h, le-leb 1 window l)
