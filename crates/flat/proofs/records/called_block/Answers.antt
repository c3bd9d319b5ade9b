-- `flat::records::called_block` meets its contract. Assumes nothing.
use mathlib.Core.Path.{◌≡◌, refl, ◌∙◌}
use mathlib.Core.List.{List}
use Prim.Native.Nat.{ℕ, zero, suc, ◌-◌, ◌≤◌}
use native.Mathlib.Omega.{arith}
use Rattle.model.specs.declared.Record.{Record}
use Rattle.model.specs.Rules.{record_in}
use Rattle.flat.specs.Outcome.{block_at}
use Rattle.std.specs.Prelude.{None, Some}
use Rattle.flat.proofs.records.called_block.Goals as goal

no_block : (blocks : List ℕ) (x : ℕ) → (1 ≤ x → ⊥) → None ≡ block_at blocks x
unfolding block_at
no_block blocks zero h = refl
no_block blocks (suc k) h = absurd (h (omega arith))

a_block : (blocks : List ℕ) (k x : ℕ) (r : Record) → 1 ≤ x → k ≡ x - 1 → r ≡ record_in blocks k → Some r ≡ block_at blocks x
unfolding block_at
a_block blocks k zero r h e f = absurd (omega arith)
a_block blocks k (suc n) r h e f = let z : k ≡ n = omega arith in rw (f, z) refl

pub returns-in_err-k : goal.returns-in_err-k
returns-in_err-k c = c.from_residual.ensures ∙ no_block _ _ c.in_err-k.ensures

pub returns : goal.returns
returns c = a_block _ _ _ c.read_record.result c.in_ok-k.ensures.0 c.in_ok-k.ensures.1 c.read_record.ensures
