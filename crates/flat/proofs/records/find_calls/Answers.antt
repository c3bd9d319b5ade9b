-- `flat::records::find_calls` meets its contract: after i turns the calls of the first i records are looked up. Assumes nothing.
use mathlib.Core.Path.{◌≡◌, refl}
use mathlib.Core.List.{List}
use Prim.Native.Nat.{ℕ, suc, ◌+◌, ◌/◌, ◌≤◌, ◌<◌}
use native.Mathlib.Omega.{arith}
use native.Mathlib.Decide.{dec_le}
use lib.ListN.{length, set, length-set}
use lib.Seq.{get_or-set_same, get_or-set_other}
use Rattle.std.specs.Prelude.{Option, None, Some, MatchOption}
use Rattle.std.specs.Option.{option_map}
use Rattle.std.proofs.Common.{rules}
use Rattle.model.specs.declared.FlowAction.{FlowAction}
use Rattle.model.specs.Rules.{record_in}
use Rattle.flat.specs.Outcome.{action_in, block_at, called_in, Resolved}
use Rattle.flat.proofs.records.find_calls.Goals as goal

module _ (acts blocks calls : List ℕ) where
  none_yet : Resolved acts blocks calls 0
  unfolding Resolved
  none_yet i h = absurd (omega arith)

  one_more : (k x : ℕ) → Resolved acts blocks calls k → k < length calls → block_at blocks x ≡ called_in blocks (action_in acts k) → x ≤ length blocks / 8
      → Resolved acts blocks (set calls k x) (k + 1)
  unfolding Resolved
  one_more k x h l e f i g = elim (dec_le k i) [
    | yes m ↦ let j : i ≡ k = omega arith in rw (j, get_or-set_same calls k x 0 l) (f, e)
    | no m ↦ let o : i ≡ k → ⊥ = λ j. omega arith in rw (get_or-set_other calls k i x 0 o) (h i (omega arith))
  ]

pub loop-i-init : goal.loop-i-init
loop-i-init c = let a = c.args in (refl, none_yet a.acts.now a.blocks.now a.calls.now)

-- the number of the block that was found, or of none
numbered : (blocks : List ℕ) (r : Option ℕ) (x : FlowAction) (n : ℕ) → MatchOption r (n ≡ 0) (λ k. n ≡ k + 1) → ((k : ℕ) → r ≡ Some k → k < length blocks / 8)
    → option_map (record_in blocks) r ≡ called_in blocks x → (block_at blocks n ≡ called_in blocks x) × (n ≤ length blocks / 8)
unfolding block_at
numbered blocks None x n m b h = (rw m h, omega arith)
numbered blocks (Some k) x n m b h = let s : n ≡ suc k = omega arith in (rw s h, omega (arith, b k refl))

pub loop-i-preserved : goal.loop-i-preserved
loop-i-preserved c =
    let a = c.args in
    let l = c.loop-i in
    let f = c.find_called in
    let i-lt : l.i < length l.calls = omega (arith, l.invariant.0, c.requires, c.loop-i-test.true) in
    let said : MatchOption f.result (c.map_or.result ≡ 0) (λ (k : ℕ). c.map_or.result ≡ k + 1) = search rules in
    let n = numbered a.blocks.now f.result _ c.map_or.result said f.ensures.upper_bound f.ensures.result_value in
    (simp length-set l.invariant.0, one_more a.acts.now a.blocks.now l.calls l.i c.map_or.result l.invariant.1 i-lt n.0 n.1)
