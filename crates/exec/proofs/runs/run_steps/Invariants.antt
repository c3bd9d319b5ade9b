-- `exec::runs::run_steps` meets its contract. Assumes nothing.
use Rattle.exec.proofs.Going.{machine, Going}
use Rattle.exec.proofs.runs.run_steps.Given as goal

abbrev pub invariant-loop-left : goal.invariant-loop-left
invariant-loop-left l = Going l.env.snapshot.now l.env.image.now l.rule.part.now l.rule.own l.env.job l.budget (machine l.initial.v l.initial.point l.initial.run l.initial.effects) l.initial.v l.v l.point l.run l.effects l.left
