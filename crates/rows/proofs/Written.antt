-- Each row of a store, written part by part. Assumes nothing.
use mathlib.Core.Path.{◌≡◌, refl}
use mathlib.Core.List.{List, ◌++◌}
use Prim.Native.Nat.{ℕ, ◌+◌, ◌≤◌}
use native.Mathlib.Omega.{arith}
use lib.ListN.{length}
use Rattle.model.specs.Codec.{wide}
use Rattle.model.specs.Parts.{any, timer_row, slot_row, jump_row, pending_row}
use Rattle.model.specs.declared.Jump.{Jump}
use Rattle.model.specs.declared.VarValue.TheVariants.{Int, Text}
use Rattle.model.specs.declared.Variable.{Variable}
use Rattle.model.specs.declared.NamedTimer.{NamedTimer}
use Rattle.model.specs.declared.EverySlot.{EverySlot}
use Rattle.model.specs.declared.Point.{Point}
use Rattle.model.specs.declared.Pending.{Pending}
use Rattle.rows.specs.Places.{laid}
use Rattle.rows.specs.Rows.{variable_code_row, leap_row, point_row}
use Rattle.rows.specs.Sizes.{point-takes}
use Rattle.rows.proofs.Writing.{lays, and-then}

module _ (w w₁ w₂ : List ℕ) (k : ℕ) where
  pub leap-put : (x : Jump) → k + 2 ≤ length w → w₁ ≡ laid w k (any.put x.at) → w₂ ≡ laid w₁ (k + 1) (any.put x.to) → w₂ ≡ laid w k (leap_row.put x)
  leap-put x h e f = lays w w₁ w₂ k (k + 1) (any.put x.at) (any.put x.to) (omega arith) refl e f

  pub timer-put : (x : NamedTimer) → k + 3 ≤ length w → w₁ ≡ laid w k (any.put x.name) → w₂ ≡ laid w₁ (k + 1) (wide.put x.due) → w₂ ≡ laid w k (timer_row.put x)
  timer-put x h e f = lays w w₁ w₂ k (k + 1) (any.put x.name) (wide.put x.due) (omega arith) refl e f

  module _ (w₃ : List ℕ) where
    -- name, tag and value
    three : (n t v : ℕ) → k + 4 ≤ length w → w₁ ≡ laid w k (any.put n) → w₂ ≡ laid w₁ (k + 1) (any.put t) → w₃ ≡ laid w₂ (k + 2) (wide.put v)
        → w₃ ≡ laid w k (any.put n ++ (any.put t ++ wide.put v))
    three n t v h e f g =
        and-then w w₁ w₃ k (k + 1) (any.put n) (any.put t ++ wide.put v) (omega arith) refl e (λ l. lays w₁ w₂ w₃ (k + 1) (k + 2) (any.put t) (wide.put v) (omega arith) (omega arith) f g)

    pub int-put : (x : Variable) (v : ℕ) → x.value ≡ Int v → k + 4 ≤ length w → w₁ ≡ laid w k (any.put x.name) → w₂ ≡ laid w₁ (k + 1) (any.put 0)
        → w₃ ≡ laid w₂ (k + 2) (wide.put v) → w₃ ≡ laid w k (variable_code_row.put x)
    int-put x v p h e f g = rw p (three x.name 0 v h e f g)

    pub text-put : (x : Variable) (v : ℕ) → x.value ≡ Text v → k + 4 ≤ length w → w₁ ≡ laid w k (any.put x.name) → w₂ ≡ laid w₁ (k + 1) (any.put 1)
        → w₃ ≡ laid w₂ (k + 2) (wide.put v) → w₃ ≡ laid w k (variable_code_row.put x)
    text-put x v p h e f g = rw p (three x.name 1 v h e f g)

    module _ (w₄ : List ℕ) where
      pub slot-put : (x : EverySlot) → k + 5 ≤ length w → w₁ ≡ laid w k (any.put x.rule) → w₂ ≡ laid w₁ (k + 1) (any.put x.place)
          → w₃ ≡ laid w₂ (k + 2) (any.put x.period) → w₄ ≡ laid w₃ (k + 3) (wide.put x.due) → w₄ ≡ laid w k (slot_row.put x)
      slot-put x h e₁ e₂ e₃ e₄ =
          and-then w w₁ w₄ k (k + 1) (any.put x.rule) (any.put x.place ++ (any.put x.period ++ wide.put x.due)) (omega arith) refl e₁
          (λ l. and-then w₁ w₂ w₄ (k + 1) (k + 2) (any.put x.place) (any.put x.period ++ wide.put x.due) (omega arith) (omega arith) e₂
          (λ m. lays w₂ w₃ w₄ (k + 2) (k + 3) (any.put x.period) (wide.put x.due) (omega arith) (omega arith) e₃ e₄))

pub point-put : (w w₁ w₂ w₃ : List ℕ) (k : ℕ) (x : Point) → k + 5 ≤ length w → w₁ ≡ laid w k (any.put x.list) → w₂ ≡ laid w₁ (k + 1) (any.put x.place)
    → w₃ ≡ laid w₂ (k + 2) (jump_row.put x.jump) → w₃ ≡ laid w k (point_row.put x)
point-put w w₁ w₂ w₃ k x h e₁ e₂ e₃ =
    and-then w w₁ w₃ k (k + 1) (any.put x.list) (any.put x.place ++ jump_row.put x.jump) (omega arith) refl e₁
    (λ l. lays w₁ w₂ w₃ (k + 1) (k + 2) (any.put x.place) (jump_row.put x.jump) (omega arith) (omega arith) e₂ e₃)

pub pending-put : (w w₁ w₂ w₃ w₄ w₅ w₆ w₇ w₈ : List ℕ) (k : ℕ) (x : Pending) → k + 15 ≤ length w
    → w₁ ≡ laid w k (wide.put x.seq) → w₂ ≡ laid w₁ (k + 2) (wide.put x.due) → w₃ ≡ laid w₂ (k + 4) (any.put x.rule)
    → w₄ ≡ laid w₃ (k + 5) (point_row.put x.point) → w₅ ≡ laid w₄ (k + 10) (any.put x.budget)
    → w₆ ≡ laid w₅ (k + 11) (any.put x.trigger) → w₇ ≡ laid w₆ (k + 12) (wide.put x.number) → w₈ ≡ laid w₇ (k + 14) (any.put 0)
    → w₈ ≡ laid w k (pending_row.put x)
pending-put w w₁ w₂ w₃ w₄ w₅ w₆ w₇ w₈ k x h e₁ e₂ e₃ e₄ e₅ e₆ e₇ e₈ =
    let j = point-takes.long x.point in
    and-then w w₁ w₈ k (k + 2) (wide.put x.seq) _ (omega arith) refl e₁
    (λ l₁. and-then w₁ w₂ w₈ (k + 2) (k + 4) (wide.put x.due) _ (omega arith) (omega arith) e₂
    (λ l₂. and-then w₂ w₃ w₈ (k + 4) (k + 5) (any.put x.rule) _ (omega arith) (omega arith) e₃
    (λ l₃. and-then w₃ w₄ w₈ (k + 5) (k + 10) (point_row.put x.point) _ (omega arith) (omega arith) e₄
    (λ l₄. and-then w₄ w₅ w₈ (k + 10) (k + 11) (any.put x.budget) _ (omega arith) (omega arith) e₅
    (λ l₅. and-then w₅ w₆ w₈ (k + 11) (k + 12) (any.put x.trigger) _ (omega arith) (omega arith) e₆
    (λ l₆. lays w₆ w₇ w₈ (k + 12) (k + 14) (wide.put x.number) (any.put 0) (omega arith) (omega arith) e₇ e₈))))))
