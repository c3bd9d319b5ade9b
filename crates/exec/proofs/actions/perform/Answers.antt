-- `exec::actions::perform` meets its contract: one callee for each kind. Assumes nothing.
use Rattle.model.specs.Actions.{run_prim}
use Rattle.eval.specs.Answers.{env_of}
use Rattle.exec.proofs.actions.perform.Goals as goal

pub returns-in-RuleEnable : goal.returns-in-RuleEnable
unfolding run_prim
returns-in-RuleEnable c flat = rw c.in-RuleEnable.is (c.set_rule_bit.ensures (env_of c.args.env.now.snapshot.now c.args.env.now.image.now flat))

pub returns-in-RuleDisable : goal.returns-in-RuleDisable
unfolding run_prim
returns-in-RuleDisable c flat = rw c.in-RuleDisable.is (c.set_rule_bit-in-RuleDisable.ensures (env_of c.args.env.now.snapshot.now c.args.env.now.image.now flat))

pub returns-in-TimerCancel : goal.returns-in-TimerCancel
unfolding run_prim
returns-in-TimerCancel c flat = rw c.in-TimerCancel.is (c.timer_cancel.ensures (env_of c.args.env.now.snapshot.now c.args.env.now.image.now flat))

pub returns-in-Light : goal.returns-in-Light
unfolding run_prim
returns-in-Light c flat = rw c.in-Light.is (c.prim_light.ensures (env_of c.args.env.now.snapshot.now c.args.env.now.image.now flat))

pub returns-in-Recall : goal.returns-in-Recall
unfolding run_prim
returns-in-Recall c flat = rw c.in-Recall.is (c.prim_recall.ensures (env_of c.args.env.now.snapshot.now c.args.env.now.image.now flat))

pub returns-in-Apply : goal.returns-in-Apply
unfolding run_prim
returns-in-Apply c flat = rw c.in-Apply.is (c.prim_apply.ensures (env_of c.args.env.now.snapshot.now c.args.env.now.image.now flat))

pub returns-in-Cycle : goal.returns-in-Cycle
unfolding run_prim
returns-in-Cycle c flat = rw c.in-Cycle.is (c.prim_cycle.ensures c.args.env.now.snapshot.now flat)

pub returns-in-Percent : goal.returns-in-Percent
unfolding run_prim
returns-in-Percent c flat = rw c.in-Percent.is (c.prim_percent.ensures flat)

pub returns-in-PanelSelect : goal.returns-in-PanelSelect
unfolding run_prim
returns-in-PanelSelect c flat = rw c.in-PanelSelect.is (c.panel_select.ensures flat)

pub returns-in-TimerStart : goal.returns-in-TimerStart
unfolding run_prim
returns-in-TimerStart c flat = rw c.in-TimerStart.is (c.timer_start.ensures c.args.env.now.image.now flat)

pub returns-in-TimerRestart : goal.returns-in-TimerRestart
unfolding run_prim
returns-in-TimerRestart c flat = rw c.in-TimerRestart.is (c.timer_restart.ensures c.args.env.now.image.now flat)

pub returns-in-VarSet : goal.returns-in-VarSet
unfolding run_prim
returns-in-VarSet c flat = rw c.in-VarSet.is (c.var_set.ensures c.args.env.now.snapshot.now flat)

pub returns-in-VarAdd : goal.returns-in-VarAdd
unfolding run_prim
returns-in-VarAdd c flat = rw c.in-VarAdd.is (c.var_add.ensures flat)
