-- `image::layout::Image::slots` meets its contract. Assumes nothing.
use mathlib.Core.Path.{◌≡◌, ap, ◌∙◌}
use native.Mathlib.Omega.{arith}
use lib.ListN.{length}
use Rattle.std.proofs.Common.{rules}
use Rattle.std.specs.List.{count_by}
use Rattle.std.proofs.lemmas.Iterator.Consumers.{YieldsList-from_first, YieldsList-from_filter, count_from_yields_List}
use Rattle.std.proofs.lemmas.List.Sums.{length-filter, count_by-le-length}
use Rattle.model.specs.Rules.{triggers_of}
use Rattle.image.proofs.Slots.{is_every_trigger, counts-every}
use Rattle.image.proofs.layout.Image.slots.Goals as goal

pub returns : goal.returns
returns c =
    let ts = triggers_of c.args.self.now c.args.i in
    let n : c.count.result ≡ count_by is_every_trigger ts =
    count_from_yields_List c.filter.result c.count.result c.count.ensures.ran (YieldsList-from_filter _ is_every_trigger (YieldsList-from_first (λ x. x) (λ rest. rest) _ (c.filter.ensures.source ∙ c.triggers.ensures.0)) c.filter.ensures.closure (λ x b q k. search rules)) ∙ length-filter is_every_trigger ts in
    (n ∙ counts-every c.args.self.now c.args.i, omega (arith, n, count_by-le-length is_every_trigger ts, ap length c.triggers.ensures.0, c.triggers.ensures.1))
