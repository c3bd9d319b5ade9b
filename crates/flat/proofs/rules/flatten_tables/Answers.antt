-- `flat::rules::flatten_tables` meets its contract: all parts, and 0 behind them. Assumes nothing.
use Prim.Native.Nat.{◌/◌}
use lib.ListN.{length}
use native.Mathlib.Omega.{arith}
use Rattle.flat.specs.Load.{flatten_tables}
use Rattle.flat.proofs.RuleLists.{cleared, rules-count}
use Rattle.flat.proofs.Rows.{whole_length, zeros-behind}
use Rattle.flat.proofs.rules.flatten_tables.Goals as goal

pub returns : goal.returns
returns c =
    let a = c.args in
    let f = c.flatten_each in
    let z = c.in_ok-made.ensures in
    let w = zeros-behind f.new.words c.fill.new.self c.place-end.result c.place-end.ensures.0 c.fill.ensures.len (c.fill.ensures.after (λ y e. e)) in
    let r = zeros-behind f.new.lists c.fill-2.new.self c.min-last.result (omega (arith, c.min-last.ensures)) c.fill-2.ensures.len (c.fill-2.ensures.after (λ y e. e)) in
    cleared (flatten_tables a.t.now.acts.now a.t.now.blocks.now a.t.now.rules.now a.t.now.depth a.t.now.limit) c.in_ok-made.made.size c.in_ok-made.made.same a.seen.now f.new.words f.new.lists _ _ (length a.t.now.rules.now / 16) c.place-end.result c.min-last.result z
    (rules-count a.t.now.acts.now a.t.now.blocks.now a.t.now.rules.now a.t.now.depth a.t.now.limit) c.place-end.ensures.1 w
    (whole_length f.new.words c.fill.new.self c.place-end.result c.place-end.ensures.0 c.fill.ensures.len) (λ h. omega (arith, h, c.min-last.ensures)) r
    (whole_length f.new.lists c.fill-2.new.self c.min-last.result (omega (arith, c.min-last.ensures)) c.fill-2.ensures.len)
