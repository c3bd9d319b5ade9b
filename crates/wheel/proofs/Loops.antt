-- The loops of a tick, each over its items. Assumes nothing.
use Prim.Native.Nat.{ℕ, ◌+◌, ◌*◌, ◌≤◌, ◌<◌}
use native.Mathlib.Omega.{arith}
use mathlib.Core.Path.{◌≡◌}
use mathlib.Core.Bool.{Bool, false}
use mathlib.Core.List.{List, map}
use lib.ListN.{length, get_or}
use Rattle.model.specs.Activate as model
use Rattle.model.specs.Lists.{flatten}
use Rattle.model.specs.State.{Env}
use Rattle.model.specs.Wheel.{activate_each, resume_all, fire_due_wall_rules}
use Rattle.model.specs.declared.Pending.{Pending}
use Rattle.state.specs.Meaning.{Means, meaning, base}
use Rattle.activate.specs.Carried.{Carried}
use Rattle.activate.proofs.Continues.{with_vol}
use Rattle.wheel.specs.Tick.{Fires, count_missed}
use Rattle.wheel.specs.Turns.{Turns}
use Rattle.wheel.proofs.Each.{each_left, each-turns, each-ends, resume_left, resume-turns, resume-ends}
use Rattle.wheel.proofs.Fires.{same-part, changed}
use Rattle.wheel.proofs.Going.{Going, going-starts, going-turns, going-closes, going-ends}
use Rattle.wheel.proofs.WallTurns.{wall_left, wall-turns, wall-ends, keeps-next, keeps-last}

-- ---- continuations
module _ (e : Env) (cs : List Pending) where
  abbrev pub Resuming : Carried → List ℕ → List ℕ → ℕ → Carried → List ℕ → List ℕ → Type 0
  Resuming x₀ ow₀ ew₀ j x ow ew = Going 1 (resume_all e cs) x₀ ow₀ ew₀ j (resume_left e cs j) x ow ew

  pub resuming-starts : (x₀ : Carried) (ow₀ ew₀ : List ℕ) → Resuming x₀ ow₀ ew₀ 0 x₀ ow₀ ew₀
  unfolding resume_left
  resuming-starts x₀ ow₀ ew₀ = going-starts 1 (resume_all e cs) x₀ ow₀ ew₀

  module _ {x₀ : Carried} {ow₀ ew₀ : List ℕ} {j : ℕ} {x : Carried} {ow ew : List ℕ} (inv : Resuming x₀ ow₀ ew₀ j x ow ew) where
    pub resuming-goes : (d : Pending) {c : Pending} {y : Carried} {ow' ew' : List ℕ} → j < length cs → c ≡ get_or cs j d → Fires 1 (model.resume e c) x ow ew y ow' ew' → Resuming x₀ ow₀ ew₀ (j + 1) y ow' ew'
    resuming-goes d {c} {y} {ow'} {ew'} h is f =
        going-turns 1 (resume_all e cs) x₀ ow₀ ew₀ j (resume_left e cs j) x ow ew inv (model.resume e c) (resume_left e cs (j + 1)) y ow' ew'
        (rw is (resume-turns e cs j d (meaning x.vol) h)) f

    pub resuming-ends : (n : ℕ) → length cs ≤ j → j ≤ n → Fires n (resume_all e cs) x₀ ow₀ ew₀ x ow ew
    resuming-ends n h b = going-ends 1 (resume_all e cs) x₀ ow₀ ew₀ j (resume_left e cs j) x ow ew inv n (omega arith) (resume-ends e cs j (meaning x.vol) h)

-- ---- rules of items, by m activations for each at most
module _ (m : ℕ) (e : Env) (kind : ℕ) {A : Type 0} (f : A → List ℕ) (xs : List A) where
  abbrev pub Starting : Carried → List ℕ → List ℕ → ℕ → Carried → List ℕ → List ℕ → Type 0
  Starting x₀ ow₀ ew₀ j x ow ew = Going m (activate_each e kind (flatten (map f xs))) x₀ ow₀ ew₀ j (each_left e kind f xs j) x ow ew

  pub starting-starts : (x₀ : Carried) (ow₀ ew₀ : List ℕ) → Starting x₀ ow₀ ew₀ 0 x₀ ow₀ ew₀
  unfolding each_left
  starting-starts x₀ ow₀ ew₀ = going-starts m (activate_each e kind (flatten (map f xs))) x₀ ow₀ ew₀

  module _ {x₀ : Carried} {ow₀ ew₀ : List ℕ} {j : ℕ} {x : Carried} {ow ew : List ℕ} (inv : Starting x₀ ow₀ ew₀ j x ow ew) where
    pub starting-goes : (d : A) (a : A) {y : Carried} {ow' ew' : List ℕ} → j < length xs → a ≡ get_or xs j d → Fires m (activate_each e kind (f a)) x ow ew y ow' ew' → Starting x₀ ow₀ ew₀ (j + 1) y ow' ew'
    starting-goes d a {y} {ow'} {ew'} h is g =
        going-turns m (activate_each e kind (flatten (map f xs))) x₀ ow₀ ew₀ j (each_left e kind f xs j) x ow ew inv (activate_each e kind (f a)) (each_left e kind f xs (j + 1)) y ow' ew'
        (rw is (each-turns e kind f xs j d (meaning x.vol) h)) g

    pub starting-ends : (n : ℕ) → length xs ≤ j → j * m ≤ n → Fires n (activate_each e kind (flatten (map f xs))) x₀ ow₀ ew₀ x ow ew
    starting-ends n h b = going-ends m (activate_each e kind (flatten (map f xs))) x₀ ow₀ ew₀ j (each_left e kind f xs j) x ow ew inv n b (each-ends e kind f xs j (meaning x.vol) h)

-- ---- the rules of a wall window
module _ (e : Env) (from window : ℕ) (order : List ℕ) where
  abbrev pub Turning : Carried → List ℕ → List ℕ → Bool → ℕ → Carried → List ℕ → List ℕ → Type 0
  Turning x₀ ow₀ ew₀ missed j x ow ew = Going 1 (fire_due_wall_rules e from window false order) x₀ ow₀ ew₀ j (wall_left e from window order missed j) x ow ew

  pub turning-starts : (x₀ : Carried) (ow₀ ew₀ : List ℕ) → Turning x₀ ow₀ ew₀ false 0 x₀ ow₀ ew₀
  unfolding wall_left
  turning-starts x₀ ow₀ ew₀ = going-starts 1 (fire_due_wall_rules e from window false order) x₀ ow₀ ew₀

  module _ {x₀ : Carried} {ow₀ ew₀ : List ℕ} (missed : Bool) {j : ℕ} {x : Carried} {ow ew : List ℕ} (inv : Turning x₀ ow₀ ew₀ missed j x ow ew) where
    pub turning-goes : (d i : ℕ) (after : Bool) {y : Carried} {ow' ew' : List ℕ} → j < length order → i ≡ get_or order j d → Turns e from window i missed after x ow ew y ow' ew'
        → Turning x₀ ow₀ ew₀ after (j + 1) y ow' ew'
    turning-goes d i after {y} {ow'} {ew'} h is g =
        going-turns 1 (fire_due_wall_rules e from window false order) x₀ ow₀ ew₀ j (wall_left e from window order missed j) x ow ew inv _ (wall_left e from window order after (j + 1)) y ow' ew'
        (wall-turns e from window order missed after j d (meaning x.vol) h (rw is at g.missed))
        (rw is at g.fires)

    pub turning-ends : (n : ℕ) {w : List ℕ} → length order ≤ j → j ≤ n → Means w (base x.vol) (count_missed missed (meaning x.vol)) → Fires n (fire_due_wall_rules e from window false order) x₀ ow₀ ew₀ (with_vol w x) ow ew
    turning-ends n {w} h b c =
        going-closes 1 (fire_due_wall_rules e from window false order) x₀ ow₀ ew₀ j (wall_left e from window order missed j) x ow ew inv 0 n (with_vol w x) ow ew (omega arith)
        (same-part 0 (λ v. model.no_outcome (count_missed missed v)) (wall_left e from window order missed j) (wall-ends e from window order missed j (meaning x.vol) h)
        (changed (count_missed missed) x c (keeps-next missed (meaning x.vol)) (keeps-last missed (meaning x.vol)) ow ew))
