-- `solar::put_all` meets its contract. Assumes nothing.
use mathlib.Core.Path.{◌∙◌}
use borrow.Author.Rules.{rules}
use lib.ListN.{length-append}
use Rattle.std.proofs.lemmas.List.FromFn.{length-enumerate_from}
use Rattle.std.proofs.lemmas.Iterator.Consumers.{YieldsList-at, YieldsList-from_first, YieldsList-from_filter_map, YieldsList-from_enumerate}
use Rattle.model.specs.Rules.{triggers_of}
use Rattle.model.specs.Readback.{start_of, solar_starts}
use Rattle.solar.proofs.Starts.{turn-by, end_by, next-of, room-for, one-wrote, all-wrote}
use Rattle.solar.proofs.put_all.Goals as goal

pub put-requires : goal.put-requires
unfolding solar_starts
put-requires c =
    let sun = c.args.sun in
    let ss = solar_starts sun (triggers_of c.args.image.now c.args.i) in
    let turn = turn-by _ _ _ c.loop-n.yielded_by c.in-Some.is c.next.ensures.steps (YieldsList-at c.into_iter-n-iterator.ensures.into_iter_gives (YieldsList-from_enumerate (YieldsList-at c.enumerate-n-items.ensures.source (YieldsList-from_filter_map _ (start_of sun) (YieldsList-from_first (λ x. x) (λ rest. rest) _ (c.filter_map-own.ensures.source ∙ c.triggers-triggers.ensures.0)) c.filter_map-own.ensures.closure (λ x r q k. search rules))) c.enumerate-n-items.ensures.count)) in
    let next = next-of ss c.args.starts.now _ _ _ turn.0 turn.1 in
    room-for ss c.args.starts.now c.requires c.loop-n.invariant next

pub loop-n-preserved : goal.loop-n-preserved
unfolding solar_starts
loop-n-preserved c =
    let sun = c.args.sun in
    let ss = solar_starts sun (triggers_of c.args.image.now c.args.i) in
    let turn = turn-by _ _ _ c.loop-n.yielded_by c.in-Some.is c.next.ensures.steps (YieldsList-at c.into_iter-n-iterator.ensures.into_iter_gives (YieldsList-from_enumerate (YieldsList-at c.enumerate-n-items.ensures.source (YieldsList-from_filter_map _ (start_of sun) (YieldsList-from_first (λ x. x) (λ rest. rest) _ (c.filter_map-own.ensures.source ∙ c.triggers-triggers.ensures.0)) c.filter_map-own.ensures.closure (λ x r q k. search rules))) c.enumerate-n-items.ensures.count)) in
    let next = next-of ss c.args.starts.now _ _ _ turn.0 turn.1 in
    rw length-append (one-wrote ss c.args.starts.now c.loop-n.invariant next c.put.ensures)

pub returns : goal.returns
unfolding solar_starts
returns c =
    let sun = c.args.sun in
    let ss = solar_starts sun (triggers_of c.args.image.now c.args.i) in
    let all = end_by _ _ _ c.loop-n.yielded_by c.in-None.is c.next.ensures.steps (YieldsList-at c.into_iter-n-iterator.ensures.into_iter_gives (YieldsList-from_enumerate (YieldsList-at c.enumerate-n-items.ensures.source (YieldsList-from_filter_map _ (start_of sun) (YieldsList-from_first (λ x. x) (λ rest. rest) _ (c.filter_map-own.ensures.source ∙ c.triggers-triggers.ensures.0)) c.filter_map-own.ensures.closure (λ x r q k. search rules))) c.enumerate-n-items.ensures.count)) in
    all-wrote ss c.args.starts.now (all ∙ length-enumerate_from 0 _) c.loop-n.invariant
