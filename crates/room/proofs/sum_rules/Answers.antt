-- `room::sum_rules` meets its contract. Assumes nothing.
use mathlib.Core.Path.{◌≡◌, refl, ◌∙◌}
use borrow.Author.Rules.{rules}
use Prim.Native.Nat.{◌≤◌}
use native.Mathlib.Omega.{arith}
use Rattle.fields.proofs.Total.{empty, adds}
use Rattle.room.proofs.Rows.{budget-of, few-of}
use Rattle.room.proofs.Counting.{no-greatest, grows, effects-of, bodies_of, part-ends, product-fits}
use Rattle.room.proofs.sum_rules.Goals as goal

pub loop-i-init : goal.loop-i-init
loop-i-init c =
    let s : c.default-sums.result.starts ≡ 0 = search rules in
    let e : c.default-sums.result.effects ≡ 0 = search rules in
    let l : c.default-sums.result.longest ≡ 0 = search rules in
    (omega (arith, c.size_of-n.ensures, few-of _ _ c.requires), c.size_of-n.ensures, s ∙ empty _, e ∙ empty _, l ∙ no-greatest _, empty _, omega (arith, s), omega (arith, e))

pub overflow_mul-sums : goal.overflow_mul-sums
overflow_mul-sums c =
    let m : c.min.result ≤ 256 = omega (arith, c.min.ensures, c.budget-b.ensures, (budget-of _ _ c.requires).1) in
    omega (arith, product-fits _ _ c.starts-s.ensures.1 m)

pub overflow_add-sums-in-loop-i : goal.overflow_add-sums-in-loop-i
overflow_add-sums-in-loop-i c =
    let v = c.loop-i.invariant in
    let m : c.min.result ≤ 256 = omega (arith, c.min.ensures, c.budget-b.ensures, (budget-of _ _ c.requires).1) in
    omega (arith, c.loop-i.auto.i-end, v.0, v.7, product-fits _ _ c.starts-s.ensures.1 m)

pub loop-i-preserved : goal.loop-i-preserved
loop-i-preserved c =
    let v = c.loop-i.invariant in
    let lt = c.loop-i-test.true in
    let s = c.starts-s.ensures in
    let z = c.list_at-begin.ensures.size.0 ∙ c.requires.sizes c.loop-i.i (omega (arith, lt, v.1)) in
    let a = c.list_at-begin.ensures.begin.0 ∙ c.requires.begins c.loop-i.i (omega (arith, lt, v.1)) in
    let m : c.min.result ≤ 256 = omega (arith, c.min.ensures, c.budget-b.ensures, (budget-of _ _ c.requires).1) in (
      v.0,
      v.1,
      adds _ _ _ _ v.2 s.0,
      adds _ _ _ _ v.3 (effects-of _ _ _ _ _ _ _ _ refl s.0 c.min.ensures z c.budget-b.ensures),
      grows _ _ _ _ _ v.4 (bodies_of _ _ _ _ _ _ _ a v.5 z c.max.ensures) c.max-in-loop-i.ensures,
      part-ends _ _ _ _ _ _ v.5 a z,
      omega (arith, v.6, s.1),
      omega (arith, v.7, product-fits _ _ s.1 m),
    )
