-- `image::layout::Image::rule_named` meets its contract. Assumes nothing.
use mathlib.Core.Path.{◌≡◌}
use mathlib.Core.Bool.{true, false}
use Prim.Native.Nat.{ℕ}
use lib.Dec.{eqb}
use borrow.Author.Rules.{rules}
use Rattle.std.proofs.lemmas.Iterator.{first_from_Range}
use Rattle.model.specs.Image.{word_at, width_of}
use Rattle.model.specs.Rules.{name_of, rule_named}
use Rattle.image.proofs.Numbers.{first-passes}
use Rattle.image.proofs.layout.Image.rule_named.Goals as goal

pub returns : goal.returns
unfolding rule_named word_at width_of
returns c =
    let p = λ (i : ℕ). eqb (name_of c.args.self.now i) c.args.name in
    rw (← c.size_of.ensures)
    (first-passes p c.size_of.result _ (first_from_Range _ _ _ _ (λ i. p i ≡ true) (λ i. p i ≡ false) c.find.ensures.ran (λ x q k. search rules) (λ x q k. search rules)))
