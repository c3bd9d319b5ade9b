-- `store::checked::Checked::rule_count` meets its contract. Assumes nothing.
use Rattle.std.proofs.Common.{arith}
use Rattle.store.proofs.LoadWords.{loads}
use Rattle.store.proofs.checked.Checked.rule_count.Goals as goal

pub returns-in-Some-clause-few : goal.returns-in-Some-clause-few
returns-in-Some-clause-few c = omega (arith, c.size_of.ensures, (loads _ c.in-Some.ensures.accepted).rules_few)
