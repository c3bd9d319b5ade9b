-- `script::scan::uncommented` meets its contract. Assumes nothing.
use Rattle.std.proofs.Common.{ℕ, take, ap, rules, tests, ◌∙◌, ◌==◌}
use Rattle.std.proofs.lemmas.Iterator.{YieldsList-from_slice}
use Rattle.std.proofs.lemmas.Iterator.Search.{position_from_yields_List}
use Rattle.script.proofs.Splits.{position_or_end}
use Rattle.script.proofs.scan.uncommented.Goals as goal

pub returns : goal.returns
returns c =
    let l = c.args.line.now in
    let e = position_from_yields_List (λ b. b == 35) _ _ c.position.result c.position.ensures.ran (YieldsList-from_slice l cc) (λ x b q k. search (rules, tests)) in
    ap (λ (n : ℕ). take n l) (rw e at c.unwrap_or-end.ensures ∙ position_or_end (λ b. b == 35) l)
