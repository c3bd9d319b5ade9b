-- `solar::count` meets its contract. Assumes nothing.
use mathlib.Core.Path.{◌≡◌, ap, ◌∙◌}
use native.Mathlib.Omega.{arith}
use borrow.Author.Rules.{rules}
use lib.ListN.{length}
use Rattle.std.proofs.lemmas.Iterator.Consumers.{YieldsList-from_first, YieldsList-from_filter_map, count_from_yields_List}
use Rattle.model.specs.Rules.{triggers_of}
use Rattle.model.specs.Readback.{start_of, solar_starts}
use Rattle.solar.proofs.Starts.{most-starts}
use Rattle.solar.proofs.count.Goals as goal

pub returns : goal.returns
unfolding solar_starts
returns c =
    let sun = c.args.sun in
    let ts = triggers_of c.args.image.now c.args.i in
    let same : c.count.result ≡ length (solar_starts sun ts) =
    count_from_yields_List c.filter_map.result c.count.result c.count.ensures.ran (YieldsList-from_filter_map _ (start_of sun) (YieldsList-from_first (λ x. x) (λ rest. rest) _ (c.filter_map.ensures.source ∙ c.triggers-triggers.ensures.0)) c.filter_map.ensures.closure (λ x r q k. search rules)) in
    (same, omega (arith, same, most-starts sun ts, ap length c.triggers-triggers.ensures.0, c.triggers-triggers.ensures.1))
