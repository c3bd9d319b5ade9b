-- The loop over the conditions of a rule: at condition k, what is left decides as all of them do. Assumes nothing.
use mathlib.Core.Path.{◌≡◌, refl}
use mathlib.Core.Bool.{Bool, true, false}
use mathlib.Core.List.{List}
use Rattle.std.specs.Prelude.{Option, None, Some}
use Prim.Native.Nat.{ℕ, ◌+◌, ◌<◌}
use native.Mathlib.Numerals.{add-one}
use lib.ListN.{length, drop, get_or}
use lib.Seq.{drop-cons, drop-length}
use Rattle.model.specs.Eval.{eval_condition, conditions_hold}
use Rattle.model.specs.State.{Env, Rest}
use Rattle.model.specs.declared.Condition.{Condition}

-- what the conditions from k on decide
unfoldable pub left : Env → Rest → List (Option Condition) → ℕ → Option Bool
left e s cs k = conditions_hold e s (drop k cs)

pub starts : (e : Env) (s : Rest) (cs : List (Option Condition)) → left e s cs 0 ≡ conditions_hold e s cs
unfolding left
starts e s cs = refl

module _ (e : Env) (s : Rest) (cs : List (Option Condition)) (k : ℕ) {o : Option Condition} {w : Option Bool} (inv : left e s cs k ≡ w) (l : k < length cs) (here : o ≡ get_or cs k None) where
  -- a record of no kind of condition
  pub unknown : o ≡ None → None ≡ w
  unfolding left conditions_hold
  unknown h = rw (drop-cons cs k None l, ← here, h) at inv

  -- a turn, by the answer r at condition k; w is what all of them decide
  module _ {c : Condition} {r : Option Bool} (known : o ≡ Some c) (is : r ≡ eval_condition e s c) where
    pub holds : r ≡ Some true → left e s cs (k + 1) ≡ w
    unfolding left conditions_hold
    holds h = rw add-one (rw (drop-cons cs k None l, ← here, known, ← is, h) at inv)

    pub fails : r ≡ Some false → Some false ≡ w
    unfolding left conditions_hold
    fails h = rw (drop-cons cs k None l, ← here, known, ← is, h) at inv

    pub stops : r ≡ None → None ≡ w
    unfolding left conditions_hold
    stops h = rw (drop-cons cs k None l, ← here, known, ← is, h) at inv

pub ends : (e : Env) (s : Rest) (cs : List (Option Condition)) (k : ℕ) {w : Option Bool} → left e s cs k ≡ w → k ≡ length cs → Some true ≡ w
unfolding left conditions_hold
ends e s cs k inv n = rw (n, drop-length cs) at inv
