-- `exec::rules::set_rule_bit` meets its contract. Assumes nothing.
use Rattle.exec.proofs.Follows.{hands-on}
use Rattle.exec.proofs.rules.set_rule_bit.Goals as goal

pub returns-in_err-i : goal.returns-in_err-i
returns-in_err-i c e = rw (← c.rule_named.ensures, c.in_err-i.ensures.ok_part) (hands-on _ c.from_residual.ensures.0)
