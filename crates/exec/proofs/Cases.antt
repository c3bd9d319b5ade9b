-- What each action is, by the tests that the code makes. At variables, so that the definitions open here and nowhere else.
-- Assumes nothing.
use Prim.Native.Nat.{ℕ}
use mathlib.Core.Path.{◌≡◌, ap, ◌∙◌}
use Rattle.std.specs.Prelude.{None, Option, Some}
use lib.IntN.{ℤ}
use mir.Syntax.{w64}
use mir.Val.{SFits}
use Rattle.words.proofs.Laws.{signed-bits}
use Rattle.words.specs.Signed.{signed64, bits64, saturating_add_i64}
use Rattle.model.specs.State.{Env, Rest, var_named}
use Rattle.model.specs.Eval.{value_at}
use Rattle.model.specs.Actions.{var_set, var_add, run_prim}
use Rattle.model.specs.declared.Job.{Job}
use Rattle.model.specs.declared.Action.TheVariants.{VarAdd}
use Rattle.model.specs.declared.VarValue.{VarValue}
use Rattle.model.specs.declared.VarValue.TheVariants.{Int}

-- value i is value j, where i is j
pub value-of : (e : Env) (s : Rest) (i j : ℕ) (r : Option ℤ) → r ≡ value_at e s i → i ≡ j → r ≡ value_at e s j
value-of e s i j r h k = rw k at h

-- A signed local holds bits: a number that is read from one is the number that was put there.
pub stored-bits : (z : ℤ) (n : ℕ) → SFits w64 z → n ≡ bits64 (signed64 (bits64 z)) → n ≡ bits64 z
stored-bits z n f e = e ∙ ap bits64 (signed-bits z f)

pub stored-sum : (y step z : ℤ) → SFits w64 y → SFits w64 step → z ≡ saturating_add_i64 (signed64 (bits64 y)) (signed64 (bits64 step)) → z ≡ saturating_add_i64 y step
stored-sum y step z f g e = e ∙ ap (λ (x : ℤ). saturating_add_i64 x (signed64 (bits64 step))) (signed-bits y f) ∙ ap (saturating_add_i64 y) (signed-bits step g)

pub stored_some : (z : ℤ) (o : Option ℤ) → SFits w64 z → Some z ≡ o → Some (signed64 (bits64 z)) ≡ o
stored_some z o f e = ap Some (signed-bits z f) ∙ e

module _ (e : Env) (j : Job) (s : Rest) where
  -- ---- what reads a value
  pub adds : (name v : ℕ) (step : Option ℤ) (held : Option VarValue) → step ≡ value_at e s v → held ≡ var_named s name → var_add e j s name step held ≡ run_prim e j s (VarAdd name v)
  unfolding run_prim
  adds name v step held p q = rw (p, q)

  -- the sum with what a variable holds
  module _ (name : ℕ) (step : ℤ) (held : Option VarValue) where
    pub add-integer :
        (x : VarValue) (m : ℕ) (y z : ℤ) (n : ℕ) → held ≡ Some x → x ≡ Int m → y ≡ signed64 m → z ≡ saturating_add_i64 y step → n ≡ bits64 z
        → var_set e j s name (Int n) ≡ var_add e j s name (Some step) held
    add-integer x m y z n h k p q b = rw (h, k, b, q, p)

    pub add-first : (n : ℕ) → held ≡ None → n ≡ bits64 step → var_set e j s name (Int n) ≡ var_add e j s name (Some step) held
    add-first n h b = rw (h, b)
