-- `flat::rules::flatten_rules` meets its contract: nothing is compared. Assumes nothing.
use Rattle.model.specs.Flat.{flatten_rules}
use Rattle.std.proofs.Common.{rules}
use Rattle.flat.specs.Load.{loaded}
use Rattle.flat.proofs.RuleLists.{loaded-steps}
use Rattle.flat.proofs.rules.flatten_rules.Goals as goal

pub returns-in_err-made-clause-value : goal.returns-in_err-made-clause-value
unfolding loaded
returns-in_err-made-clause-value c = rw c.in_err-made.ensures.1 (search rules)

pub returns-clause-value : goal.returns-clause-value
returns-clause-value c = let z = c.in_ok-made.ensures in loaded-steps (flatten_rules c.args.image.now) _ z.few z.count
