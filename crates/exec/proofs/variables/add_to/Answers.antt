-- `exec::variables::add_to` meets its contract. Assumes nothing.
use mathlib.Core.Path.{sym, ◌∙◌}
use Rattle.words.proofs.Laws.{signed-sum-is}
use Rattle.state.specs.Meaning.{meaning}
use Rattle.exec.proofs.Follows.{answers}
use Rattle.exec.proofs.Cases.{stored-bits, stored-sum, add-integer, add-first}
use Rattle.exec.proofs.variables.add_to.Goals as goal

pub returns-in-Some-Int : goal.returns-in-Some-Int
returns-in-Some-Int c e = answers (c.assign-in-Some-Int.ensures e) (add-integer e c.args.env.now.job (meaning c.args.v.now).rest c.args.name c.args.step _ _ _ _ _ _ (sym c.variable.ensures ∙ c.in-Some-Int.is) c.in-Some-Int.field-0-is c.cast_signed.ensures (stored-sum c.cast_signed.result c.args.step _ (record { sfits = c.cast_signed.type_inv }) c.ranges.step (c.saturating_add-sum.ensures ∙ signed-sum-is _)) (stored-bits c.saturating_add-sum.result _ (record { sfits = c.saturating_add-sum.type_inv }) c.cast_unsigned-in-Some-Int.ensures))

pub returns-in-None : goal.returns-in-None
returns-in-None c e = answers (c.assign.ensures e) (add-first e c.args.env.now.job (meaning c.args.v.now).rest c.args.name c.args.step _ _ (sym c.variable.ensures ∙ c.in-None.is) (stored-bits c.args.step _ c.ranges.step c.cast_unsigned.ensures))
