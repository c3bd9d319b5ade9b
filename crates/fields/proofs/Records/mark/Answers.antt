-- `fields::Records::mark` meets its contract. Assumes nothing.
use mathlib.Core.Path.{refl, ◌∙◌}
use native.Mathlib.Nat.{sub-zero}
use borrow.Author.Rules.{rules}
use Rattle.std.proofs.lemmas.Iterator.{YieldsList-from_range}
use Rattle.std.proofs.lemmas.Iterator.Consumers.{fold_from_yields_List}
use Rattle.fields.proofs.Marks.{mixes, mark-is}
use Rattle.fields.proofs.Records.mark.Goals as goal

pub returns : goal.returns
returns c =
    let t = c.args.self.now in
    let key = c.args.key in
    fold_from_yields_List _ (mixes t.words.now t.start t.width c.args.i) _ _ c.fold.ensures.ran (YieldsList-from_range 0 key key refl (sub-zero key)) (λ a x b q k. search rules)
    ∙ mark-is t.words.now t.start t.width c.args.i key
