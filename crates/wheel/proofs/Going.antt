-- A loop whose turns are parts of a tick: what is left of it, from here, gives what the whole does. Assumes nothing.
use Prim.Native.Nat.{ℕ, suc, ◌+◌, ◌*◌, ◌≤◌}
use native.Mathlib.Nat.{suc-mul}
use native.Mathlib.Numerals.{add-one}
use native.Mathlib.Omega.{arith}
use mathlib.Core.Path.{◌≡◌, refl, sym, subst, ◌∙◌}
use mathlib.Core.List.{List}
use lib.ListN.{length}
use Rattle.model.specs.Activate as model
use Rattle.model.specs.Activate.{no_outcome, and_then}
use Rattle.model.specs.State.{Volatile}
use Rattle.state.specs.Meaning.{meaning}
use Rattle.activate.specs.Handled.{Continues, Within, Room}
use Rattle.activate.specs.Carried.{Carried}
use Rattle.activate.proofs.Continues.{then-continues, within_none, within-then, within_more, room-left, room-less}
use Rattle.wheel.specs.Tick.{Fires}
use Rattle.wheel.proofs.Fires.{same-outcomes, same-effects, skips}

-- after j turns of m activations at most, k is left
pub record Going (m : ℕ) (h : Volatile → model.Handled) (x₀ : Carried) (ow₀ ew₀ : List ℕ) (j : ℕ) (k : Volatile → model.Handled) (x : Carried) (ow ew : List ℕ) : Type 0 where
  pub leads : (r : Carried) (ow' ew' : List ℕ) → Continues x ow ew (k (meaning x.vol)) r ow' ew' → Continues x₀ ow₀ ew₀ (h (meaning x₀.vol)) r ow' ew'
  pub within : Within (j * m) x₀ x
  pub long_outcomes : length ow ≡ length ow₀
  pub long_effects : length ew ≡ length ew₀

module _ (m : ℕ) (h : Volatile → model.Handled) (x₀ : Carried) (ow₀ ew₀ : List ℕ) where
  pub going-starts : Going m h x₀ ow₀ ew₀ 0 h x₀ ow₀ ew₀
  going-starts = record {
    leads = λ r ow' ew' c. c;
    within = within_more 0 (0 * m) x₀ x₀ (omega arith) (within_none x₀ x₀ refl refl refl refl);
    long_outcomes = refl;
    long_effects = refl;
  }

  module _ (j : ℕ) (k : Volatile → model.Handled) (x : Carried) (ow ew : List ℕ) (inv : Going m h x₀ ow₀ ew₀ j k x ow ew) where
    pub room-here : (n : ℕ) → suc j * m ≤ n → Room n x₀ → Room m x
    room-here n b a = room-left (j * m) m x₀ x (room-less (j * m + m) n x₀ (let s = suc-mul j m in omega arith) a) inv.within

    pub going-turns :
        (f next : Volatile → model.Handled) (y : Carried) (ow' ew' : List ℕ) → k (meaning x.vol) ≡ and_then (f (meaning x.vol)) next
        → Fires m f x ow ew y ow' ew' → Going m h x₀ ow₀ ew₀ (j + 1) next y ow' ew'
    going-turns f next y ow' ew' e turn =
        let v = meaning x.vol in
        record {
          leads = λ r a b c.
              inv.leads r a b
              (subst (λ (g : model.Handled). Continues x ow ew g r a b) (sym e)
              (then-continues x ow ew (f v) y ow' ew' next r a b turn.says (subst (λ (w : Volatile). Continues y ow' ew' (next w) r a b) turn.says.state.says c)));
          within = within_more (j * m + m) ((j + 1) * m) x₀ y (let s = suc-mul j m in rw (add-one j) (omega arith)) (within-then (j * m) m x₀ x y inv.within turn.within);
          long_outcomes = same-outcomes turn.says ∙ inv.long_outcomes;
          long_effects = same-effects turn.says ∙ inv.long_effects;
        }

    -- what is left is done at once
    pub going-closes : (l n : ℕ) (y : Carried) (ow' ew' : List ℕ) → j * m + l ≤ n → Fires l k x ow ew y ow' ew' → Fires n h x₀ ow₀ ew₀ y ow' ew'
    going-closes l n y ow' ew' b f = record {
      says = inv.leads y ow' ew' f.says;
      within = within_more (j * m + l) n x₀ y b (within-then (j * m) l x₀ x y inv.within f.within);
    }

    -- nothing is left
    pub going-ends : (n : ℕ) → j * m ≤ n → k (meaning x.vol) ≡ no_outcome (meaning x.vol) → Fires n h x₀ ow₀ ew₀ x ow ew
    going-ends n b e = going-closes 0 n x ow ew (omega arith) (skips 0 k x ow ew e)
