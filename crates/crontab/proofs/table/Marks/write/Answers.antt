-- `crontab::table::Marks::write` meets its contract. Assumes nothing.
use mathlib.Core.Path.{ap, ◌∙◌}
use native.Mathlib.Omega.{arith}
use borrow.Author.Rules.{rules}
use lib.ListN.{length, length-append}
use Rattle.std.proofs.lemmas.List.FromFn.{length-enumerate_from}
use Rattle.std.proofs.lemmas.Iterator.{YieldsList-from_range}
use Rattle.std.proofs.lemmas.Iterator.Consumers.{YieldsList-at, YieldsList-from_filter, YieldsList-from_enumerate}
use Rattle.crontab.specs.Scanned.{marked, marked_minutes}
use Rattle.crontab.proofs.Lines.{marked-of-day, turn-by, end_by, next-of, room-for, one-wrote, all-wrote}
use Rattle.crontab.proofs.table.Marks.write.Goals as goal

pub put-requires : goal.put-requires
put-requires c =
    let hours = c.args.self.now.hours in
    let minutes = c.args.self.now.minutes in
    let turn = turn-by _ _ _ c.loop-n.yielded_by c.in-Some.is c.next.ensures.steps (YieldsList-at c.into_iter-n-iterator.ensures.into_iter_gives (YieldsList-from_enumerate (YieldsList-at c.enumerate-n-items.ensures.source (YieldsList-from_filter _ (marked hours minutes) (YieldsList-from_range 0 1440 1440 c.filter-marked.ensures.source (omega arith)) c.filter-marked.ensures.closure (λ x b q k. search rules))) c.enumerate-n-items.ensures.count)) in
    let next = next-of c.args.ds (marked_minutes hours minutes) c.args.store.now _ _ _ (rw (marked-of-day hours minutes) at turn.0) (rw (marked-of-day hours minutes) at turn.1) in
    room-for c.args.ds (marked_minutes hours minutes) c.args.store.now c.requires c.loop-n.invariant next

pub loop-n-preserved : goal.loop-n-preserved
loop-n-preserved c =
    let hours = c.args.self.now.hours in
    let minutes = c.args.self.now.minutes in
    let turn = turn-by _ _ _ c.loop-n.yielded_by c.in-Some.is c.next.ensures.steps (YieldsList-at c.into_iter-n-iterator.ensures.into_iter_gives (YieldsList-from_enumerate (YieldsList-at c.enumerate-n-items.ensures.source (YieldsList-from_filter _ (marked hours minutes) (YieldsList-from_range 0 1440 1440 c.filter-marked.ensures.source (omega arith)) c.filter-marked.ensures.closure (λ x b q k. search rules))) c.enumerate-n-items.ensures.count)) in
    let next = next-of c.args.ds (marked_minutes hours minutes) c.args.store.now _ _ _ (rw (marked-of-day hours minutes) at turn.0) (rw (marked-of-day hours minutes) at turn.1) in
    rw length-append (one-wrote c.args.ds (marked_minutes hours minutes) c.args.store.now c.loop-n.invariant next c.put.ensures)

pub returns : goal.returns
returns c =
    let hours = c.args.self.now.hours in
    let minutes = c.args.self.now.minutes in
    let all = end_by _ _ _ c.loop-n.yielded_by c.in-None.is c.next.ensures.steps (YieldsList-at c.into_iter-n-iterator.ensures.into_iter_gives (YieldsList-from_enumerate (YieldsList-at c.enumerate-n-items.ensures.source (YieldsList-from_filter _ (marked hours minutes) (YieldsList-from_range 0 1440 1440 c.filter-marked.ensures.source (omega arith)) c.filter-marked.ensures.closure (λ x b q k. search rules))) c.enumerate-n-items.ensures.count)) in
    all-wrote c.args.ds (marked_minutes hours minutes) c.args.store.now (all ∙ length-enumerate_from 0 _ ∙ ap length (marked-of-day hours minutes)) c.loop-n.invariant
