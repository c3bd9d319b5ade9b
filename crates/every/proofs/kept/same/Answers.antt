-- `every::kept::same` meets its contract. Assumes nothing.
use Rattle.std.proofs.Common.{arith, rules, sym, ◌≡◌, ◌∙◌, length}
use borrow.Author.Tests.{ne_eqb}
use Rattle.std.proofs.lemmas.Iterator.{YieldsList-from_zip}
use Rattle.std.proofs.lemmas.Iterator.Consumers.{YieldsList-from_first}
use Rattle.std.proofs.lemmas.Iterator.Search.{all_from_yields_List}
use Rattle.every.proofs.KeptSlots.{same_key, same_by, other_length}
use Rattle.every.proofs.kept.same.Goals as goal

pub returns-then-len : goal.returns-then-len
returns-then-len c =
    let xs = c.args.slots.now in
    let ys = c.args.others.now in
    let e : length xs ≡ length ys = omega arith in
    all_from_yields_List same_key _ _ _ c.all.ensures.ran
    (YieldsList-from_zip (YieldsList-from_first (λ x. x) (λ rest. rest) xs (c.zip.ensures.first ∙ c.iter.ensures)) (YieldsList-from_first (λ x. x) (λ rest. rest) ys (c.zip.ensures.second ∙ c.iter-then-len.ensures)))
    (λ p b q h. search rules)
    ∙ same_by xs ys e

pub returns-else-len : goal.returns-else-len
returns-else-len c = rw (ne_eqb _ _ c.if-len.false) (sym (other_length c.args.slots.now c.args.others.now (λ e. c.if-len.false (omega (arith, e)))))
