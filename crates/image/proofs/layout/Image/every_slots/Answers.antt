-- `image::layout::Image::every_slots` meets its contract. Assumes nothing.
use native.Mathlib.Omega.{arith}
use borrow.Author.Rules.{rules}
use Rattle.std.proofs.lemmas.Iterator.{YieldsList-from_range, YieldsList-from_map}
use Rattle.std.proofs.lemmas.Iterator.Adapters.{fits_from_length, at_most_from_yields_List}
use Rattle.std.proofs.lemmas.Iterator.Consumers.{sum_from_yields_List}
use Rattle.std.proofs.lemmas.List.FromFn.{length-range_with_len}
use mathlib.Core.Path.{◌∙◌}
use Rattle.fields.proofs.Total.{total-sum}
use Rattle.model.specs.Image.{slots_of}
use Rattle.image.proofs.layout.Image.every_slots.Goals as goal

pub sum-requires-clause-fits : goal.sum-requires-clause-fits
sum-requires-clause-fits c =
    fits_from_length _ _ 4294967295 _ (at_most_from_yields_List (YieldsList-from_range 0 c.size_of-n.result c.size_of-n.result c.map.ensures.source (omega arith)) (omega (arith, length-range_with_len 0 c.size_of-n.result))) c.map.ensures.closure (omega arith) (λ x r q k. search rules)

pub returns : goal.returns
returns c =
    let n = c.size_of-n.result in
    rw (← c.size_of-n.ensures)
    (sum_from_yields_List c.map.result c.sum.result c.sum.ensures.ran
    (YieldsList-from_map _ (slots_of c.args.self.now) (YieldsList-from_range 0 n n c.map.ensures.source (omega arith)) c.map.ensures.closure (λ x r q k. search rules)) ∙ total-sum (slots_of c.args.self.now) n)
