-- `world::check::head_words_fit` meets its contract. Assumes nothing.
use mathlib.Core.Path.{◌∙◌}
use borrow.Author.Rules.{rules}
use Rattle.std.proofs.lemmas.Iterator.{YieldsList-from_slice, YieldsList-from_zip}
use Rattle.std.proofs.lemmas.Iterator.Consumers.{YieldsList-at}
use Rattle.model.specs.Snapshot.{head_most}
use Rattle.fields.proofs.Chains.{computes-all}
use Rattle.world.proofs.Head.{at_most, head-words}
use Rattle.world.proofs.check.head_words_fit.Goals as goal

pub returns : goal.returns
returns c =
    computes-all c.all.new.self _ at_most _ c.all.ensures.ran
    (YieldsList-from_zip (YieldsList-at c.zip.ensures.first (YieldsList-from_slice c.args.s.now c.iter.ensures.rest)) (YieldsList-from_slice head_most c.zip.ensures.second.0))
    (λ x b q k. search rules)
    ∙ head-words c.args.s.now
