-- `image::passing::Counted::row_both` meets its contract. Assumes nothing.
use mathlib.Core.Path.{◌≡◌, ◌∙◌}
use Prim.Native.Nat.{ℕ}
use mathlib.Core.Bool.{Bool}
use mathlib.Core.List.{List}
use native.Mathlib.Omega.{arith}
use lib.ListN.{length, get_or, drop}
use Rattle.std.proofs.Common.{rules}
use Rattle.std.proofs.lemmas.List.{take_all, length-drop}
use Rattle.std.proofs.lemmas.Iterator.{YieldsList-from_slice, YieldsList-from_zip}
use Rattle.std.proofs.lemmas.Iterator.Consumers.{YieldsList-at}
use Rattle.std.proofs.lemmas.Iterator.Adapters.{serves_from_places}
use Rattle.model.specs.declared.Field.{Field}
use Rattle.model.specs.Rows.{void}
use Rattle.fields.proofs.Chains.{computes-all}
use Rattle.image.specs.Passing.{both_pass, row_both}
use Rattle.image.proofs.OnePass.{zero-is}
use Rattle.image.proofs.Pairs.{YieldsList-from_pairs, has-two, row-fields}
use Rattle.image.proofs.passing.Counted.row_both.Goals as goal

pub all-fields-requires-clause-callable : goal.all-fields-requires-clause-callable
all-fields-requires-clause-callable c =
    let r = c.args.row.now in
    let l = drop 1 c.args.w.now in
    let road = YieldsList-from_zip (YieldsList-at c.zip.ensures.first (YieldsList-from_slice r c.iter.ensures.rest)) (YieldsList-at c.zip.ensures.second (YieldsList-from_pairs l _ c.windows.ensures.size (c.windows.ensures.rest ∙ take_all 7 l (omega (arith, length-drop 1 c.args.w.now))))) in
    serves_from_places road (λ x q k. search rules) (λ x i h e. let two : length x.1.now ≡ 2 = has-two r l (x.0.now, x.1.now) i h e in search (rules, two))

pub returns : goal.returns
unfolding row_both
returns c =
    let r = c.args.row.now in
    let w = c.args.w.now in
    let five : length r ≡ 5 = omega arith in
    let q : Field → List ℕ → Bool = λ f p. both_pass c.args.self.now.image.now c.args.holder f (get_or p 0 0) (get_or p 1 0) in
    let road = YieldsList-from_zip (YieldsList-at c.zip.ensures.first (YieldsList-from_slice r c.iter.ensures.rest)) (YieldsList-at c.zip.ensures.second (YieldsList-from_pairs (drop 1 w) _ c.windows.ensures.size (c.windows.ensures.rest ∙ take_all 7 (drop 1 w) (omega (arith, length-drop 1 w))))) in
    let all = computes-all c.all-fields.new.self _ (λ p. q p.0 p.1) c.all-fields.result c.all-fields.ensures.ran road (λ x b u k. search rules) in
    rw (all, row-fields q void r w _ five (omega arith), zero-is (get_or w 6 0), zero-is (get_or w 7 0))
