-- `decimal::all_digits` meets its contract. Assumes nothing.
use borrow.Author.Rules.{rules}
use Rattle.std.proofs.lemmas.Iterator.{YieldsList-from_slice}
use Rattle.model.specs.Digits.{is_digit}
use Rattle.fields.proofs.Chains.{computes-all}
use Rattle.decimal.proofs.all_digits.Goals as goal

pub returns : goal.returns
unfolding is_digit
returns c = computes-all _ _ is_digit _ c.all.ensures.ran (YieldsList-from_slice c.args.word.now cc) (λ x b q k. search rules)
