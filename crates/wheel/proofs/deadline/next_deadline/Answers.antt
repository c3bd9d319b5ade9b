-- `wheel::deadline::next_deadline` meets its contract. Assumes nothing.
use Rattle.std.proofs.Common.{rules, sym, ap, ◌∙◌}
use Rattle.std.proofs.lemmas.Iterator.{YieldsList-from_map}
use Rattle.std.proofs.lemmas.Iterator.Adapters.{option_map_id}
use Rattle.std.proofs.lemmas.Iterator.Consumers.{YieldsList-from_first, min_from_yields_List}
use Rattle.std.specs.List.{reduce}
use Prim.Native.Nat.{min}
use Rattle.model.specs.declared.EverySlot.{EverySlot}
use Rattle.model.specs.declared.NamedTimer.{NamedTimer}
use Rattle.model.specs.declared.Pending.{Pending}
use Rattle.wheel.proofs.Least.{next-is}
use Rattle.wheel.proofs.deadline.next_deadline.Goals as goal

pub returns : goal.returns
returns c flat =
    let slot =
    sym (option_map_id _)
    ∙ min_from_yields_List c.map.result _ c.min-slot.ensures.ran (YieldsList-from_map _ (λ (x : EverySlot). x.due) (YieldsList-from_first (λ x. x) (λ rest. rest) _ (c.map.ensures.source ∙ c.slots.ensures)) c.map.ensures.closure (λ x r q k. search rules))
    in
    let timer =
    sym (option_map_id _)
    ∙ min_from_yields_List c.map-2.result _ c.min-timer.ensures.ran (YieldsList-from_map _ (λ (x : NamedTimer). x.due) (YieldsList-from_first (λ x. x) (λ rest. rest) _ (c.map-2.ensures.source ∙ c.timers.ensures)) c.map-2.ensures.closure (λ x r q k. search rules))
    in
    let continuation =
    sym (option_map_id _)
    ∙ min_from_yields_List c.map-3.result _ c.min-record.ensures.ran (YieldsList-from_map _ (λ (x : Pending). x.due) (YieldsList-from_first (λ x. x) (λ rest. rest) _ c.map-3.ensures.source) c.map-3.ensures.closure (λ x r q k. search rules))
    ∙ ap (reduce min) c.pending.ensures.times
    in
    c.earliest_of.ensures ∙ next-is _ c.args.image c.args.last _ _ _ _ c.wall_poll-poll.ensures slot timer continuation flat
