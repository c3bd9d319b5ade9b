-- `next::Asked::earliest` meets its contract. Assumes nothing.
use mathlib.Core.Path.{sym, ap, ◌∙◌}
use mathlib.Core.List.{map}
use native.Mathlib.Nat.{sub-zero}
use Rattle.std.proofs.Common.{rules}
use Rattle.std.specs.List.{reduce, filter_map, range_with_len}
use Rattle.std.proofs.lemmas.Iterator.{YieldsList-from_range}
use Rattle.std.proofs.lemmas.Iterator.Adapters.{option_map_id}
use Rattle.std.proofs.lemmas.Iterator.Consumers.{YieldsList-from_filter_map, reduce_by_from_yields_List}
use Rattle.model.specs.World.{is_one}
use Rattle.next.specs.Distance.{start_of, earlier, best_of}
use Rattle.next.proofs.BestStart.{by-order}
use Rattle.next.proofs.Least.{of-numbers}
use Rattle.next.proofs.Asked.earliest.Goals as goal

pub returns : goal.returns
unfolding best_of
returns c =
    let s = c.args.self.now in
    let n = c.size_of.result in
    let start = start_of s.image.now (map is_one s.bits.now) s.sun s.t in
    sym (option_map_id _)
    ∙ reduce_by_from_yields_List _ earlier c.filter_map.result _ by-order c.min.ensures.ran (YieldsList-from_filter_map _ start (YieldsList-from_range 0 n n c.filter_map.ensures.source (sub-zero n)) c.filter_map.ensures.closure (λ x r q k. search rules))
    ∙ ap (λ m. reduce earlier (filter_map start (range_with_len 0 m))) c.size_of.ensures
    ∙ ap (reduce earlier) (of-numbers start _)
