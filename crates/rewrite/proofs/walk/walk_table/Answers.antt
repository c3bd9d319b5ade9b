-- `rewrite::walk::walk_table` meets its contract. Assumes nothing.
use mathlib.Core.Path.{◌≡◌, refl, ap, ◌∙◌}
use mathlib.Core.List.{◌++◌}
use Prim.Native.Nat.{◌+◌, ◌<◌}
use native.Mathlib.Omega.{arith}
use lib.ListN.{length}
use Rattle.std.specs.Prelude.{option_to_list}
use Rattle.std.proofs.Common.{rules}
use Rattle.rewrite.proofs.Grown.{few-words}
use Rattle.rewrite.proofs.Walking.{turns_left, popped, popped-less, pass-fits, met-enters, met-appends, met-size, plain-on, plain-less, list-entered, list-entered-less, all-walked, all-over}
use Rattle.rewrite.proofs.CodeLaws.{top-leads, top-counts, top-many, started, table-walked}
use Rattle.rewrite.proofs.walk.walk_table.Goals as goal

pub enter-here-requires : goal.enter-here-requires
enter-here-requires c =
    let r = c.requires.counts in
    let l = top-leads _ _ c.requires.image r.0 _ _ _ r.1 r.2 r.3 refl _ c.all_records-all.ensures in
    (l.table, l.near, top-counts _ _ c.requires.image r.0 _ _ _ r.1 r.2 r.3 refl _ c.all_records-all.ensures)

pub append-requires : goal.append-requires
append-requires c =
    let r = c.requires.counts in
    let l = top-leads _ _ c.requires.image r.0 _ _ _ r.1 r.2 r.3 refl _ c.all_records-all.ensures in (
      r.0,
      l.table,
      top-many _ _ c.requires.image r.0 _ _ _ r.1 r.2 r.3 refl _ c.all_records-all.ensures,
      top-counts _ _ c.requires.image r.0 _ _ _ r.1 r.2 r.3 refl _ c.all_records-all.ensures,
    )

pub size-requires : goal.size-requires
size-requires c =
    let r = c.requires.counts in
    let l = top-leads _ _ c.requires.image r.0 _ _ _ r.1 r.2 r.3 refl _ c.all_records-all.ensures in
    (l.table, top-many _ _ c.requires.image r.0 _ _ _ r.1 r.2 r.3 refl _ c.all_records-all.ensures)

pub overflow_add-size : goal.overflow_add-size
overflow_add-size c =
    let r = c.requires.counts in
    let m = top-many _ _ c.requires.image r.0 _ _ _ r.1 r.2 r.3 refl _ c.all_records-all.ensures in
    omega (arith, r.2, c.size.ensures, few-words c.all_records-all.result.table c.all_records-all.result.count m)

pub loop-size-init : goal.loop-size-init
loop-size-init c =
    let r = c.requires.counts in
    started _ _ c.requires.image r.0 _ _ _ r.1 r.2 r.3 refl _ c.all_records-all.ensures
    _ _ _ _ _ c.enter-here.ensures c.append.ensures c.size.ensures _ _ c.new-frames.ensures refl

pub returns-in_default : goal.returns-in_default
returns-in_default c =
    let r = c.requires.counts in
    let z : length c.loop-size.frames.items ≡ 0 = search rules in
    table-walked _ _ c.requires.image r.0 _ _ _ r.1 r.2 r.3 refl _ c.all_records-all.ensures
    _ _ _ _ _ c.enter-here.ensures c.append.ensures c.size.ensures _ _ _ (all-walked c.loop-size.invariant c.loop-size-test.true c.if-here-eq0.true z)

pub loop-size-smaller-then-here-eq0 : goal.loop-size-smaller-then-here-eq0
loop-size-smaller-then-here-eq0 c =
    popped-less c.loop-size.invariant c.if-here-eq0.true _ _ (c.pop.ensures.items ∙ ap (λ o. c.pop.new.self.items ++ option_to_list o) c.in-Some.is)

pub loop-size-preserved-then-here-eq0 : goal.loop-size-preserved-then-here-eq0
loop-size-preserved-then-here-eq0 c =
    popped c.loop-size.invariant c.if-here-eq0.true _ _ (c.pop.ensures.items ∙ ap (λ o. c.pop.new.self.items ++ option_to_list o) c.in-Some.is)

pub pass-here-requires : goal.pass-here-requires
pass-here-requires c = pass-fits c.loop-size.invariant c.requires.image c.loop-size-test.true c.if-here-eq0.false

pub loop-size-smaller-then-m-eq0 : goal.loop-size-smaller-then-m-eq0
loop-size-smaller-then-m-eq0 c =
    plain-less c.loop-size.invariant c.requires.image c.loop-size-test.true c.if-here-eq0.false _ c.mention-m.ensures _ c.put_mention.ensures _ c.pass-here.ensures

pub loop-size-preserved-then-m-eq0 : goal.loop-size-preserved-then-m-eq0
loop-size-preserved-then-m-eq0 c =
    plain-on c.loop-size.invariant c.requires.image c.loop-size-test.true c.if-here-eq0.false _ c.mention-m.ensures _ c.put_mention.ensures _ c.pass-here.ensures c.if-m-eq0.true

pub enter-here-requires-in-loop-size : goal.enter-here-requires-in-loop-size
enter-here-requires-in-loop-size c = met-enters c.loop-size.invariant c.requires.image c.loop-size-test.true c.if-here-eq0.false _ c.mention-m.ensures

pub append-requires-in-loop-size : goal.append-requires-in-loop-size
append-requires-in-loop-size c = met-appends c.loop-size.invariant c.requires.image c.loop-size-test.true c.if-here-eq0.false _ c.mention-m.ensures

pub size-size-requires : goal.size-size-requires
size-size-requires c =
    let a = met-appends c.loop-size.invariant c.requires.image c.loop-size-test.true c.if-here-eq0.false _ c.mention-m.ensures in (a.1, a.2)

pub overflow_add-size-in-loop-size : goal.overflow_add-size-in-loop-size
overflow_add-size-in-loop-size c =
    omega (arith, met-size c.loop-size.invariant c.requires.image c.loop-size-test.true c.if-here-eq0.false _ c.mention-m.ensures _ c.size-size.ensures)

pub loop-size-smaller : goal.loop-size-smaller
loop-size-smaller c =
    let l = c.loop-size in
    let h : turns_left c.enter-here-in-loop-size.result (l.size + c.size-size.result) c.push.new.self.items < turns_left l.here l.size l.frames.items =
    rw c.push.ensures.items
    (list-entered-less c.loop-size.invariant c.requires.image c.loop-size-test.true c.if-here-eq0.false _ c.mention-m.ensures _ c.put_mention.ensures _ c.pass-here.ensures
    c.if-m-eq0.false _ _ _ c.enter-here-in-loop-size.ensures c.append-in-loop-size.ensures c.size-size.ensures) in
    h

pub loop-size-preserved : goal.loop-size-preserved
loop-size-preserved c =
    rw c.push.ensures.items
    (list-entered c.loop-size.invariant c.requires.image c.loop-size-test.true c.if-here-eq0.false _ c.mention-m.ensures _ c.put_mention.ensures _ c.pass-here.ensures
    c.if-m-eq0.false _ _ _ c.enter-here-in-loop-size.ensures c.append-in-loop-size.ensures c.size-size.ensures)

pub returns : goal.returns
returns c =
    let r = c.requires.counts in
    table-walked _ _ c.requires.image r.0 _ _ _ r.1 r.2 r.3 refl _ c.all_records-all.ensures
    _ _ _ _ _ c.enter-here.ensures c.append.ensures c.size.ensures _ _ _ (all-over c.loop-size.invariant c.loop-size-test.false)
