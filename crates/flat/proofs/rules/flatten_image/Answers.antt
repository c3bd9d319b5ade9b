-- `flat::rules::flatten_image` meets its contract: the tables are parts of the image. Assumes nothing.
use Rattle.std.proofs.Common.{sym, arith}
use Rattle.flat.proofs.Checked.{long, short, checked-tables, same-rules}
use Rattle.flat.proofs.rules.flatten_image.Goals as goal

pub new-tables-requires : goal.new-tables-requires
new-tables-requires c = (long c.args.image.now c.requires.checked, short c.args.image.now c.requires.checked)

pub find_calls-requires : goal.find_calls-requires
find_calls-requires c =
    let acts = rw c.new-tables.ensures at c.table-acts.ensures in
    let blocks = rw c.new-tables.ensures at c.table-blocks.ensures in
    let t = rw (sym acts, sym blocks) at (checked-tables c.args.image.now c.requires.checked) in
    (omega (arith, t.tables.few), t.blocks-few)

pub invariant_of-source : goal.invariant_of-source
invariant_of-source c =
    let n = c.new-tables.ensures in
    let acts = rw n at c.table-acts.ensures in
    let blocks = rw n at c.table-blocks.ensures in
    let rules = rw n at c.table-rules.ensures in
    let h = checked-tables c.args.image.now c.requires.checked in
    record {
      checked = rw (acts, blocks, rules, rw n at c.call_depth.ensures, rw n at c.repeat_limit.ensures) h;
      resolved = c.find_calls.ensures;
      calls_len = let t = rw (sym acts) at h.tables.few in omega (arith, t, c.find_calls.auto.calls);
    }

pub returns : goal.returns
returns c =
    let n = c.new-tables.ensures in
    let acts = rw n at c.table-acts.ensures in
    let blocks = rw n at c.table-blocks.ensures in
    let rules = rw n at c.table-rules.ensures in
    rw (acts, blocks, rules, rw n at c.call_depth.ensures, rw n at c.repeat_limit.ensures, sym (same-rules c.args.image.now c.requires.checked)) at c.flatten_tables.ensures
