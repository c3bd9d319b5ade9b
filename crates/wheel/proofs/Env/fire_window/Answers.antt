-- `wheel::Env::fire_window` meets its contract. Assumes nothing.
use mathlib.Core.Path.{refl}
use mathlib.Core.Bool.{false}
use Rattle.model.specs.Rules.{name_order}
use Rattle.model.specs.Wheel.{fire_due_wall_rules, fire_window}
use Rattle.activate.specs.Carried.{carried_by}
use Rattle.eval.specs.Answers.{env_in}
use Rattle.wheel.proofs.Fires.{same-part, skips}
use Rattle.wheel.proofs.WallTurns.{no-triggers, no-window, opens}
use Rattle.wheel.proofs.Env.fire_window.Goals as goal
use Rattle.wheel.proofs.Env.fire_window.Goals.{then-window-eq0-via-then-window-eq0, then-window-eq0-via-else-window-eq0+then-not-has_wall_triggers}

pub returns-then-window-eq0 : goal.returns-then-window-eq0
returns-then-window-eq0 c =
    let snap = c.args.self.now.snapshot.now in
    let img = c.args.self.now.image.now in
    record {
      does = skips 64 (fire_window (env_in snap img) c.args.minute c.args.window) (carried_by c.args.lent.now) _ _ (elim c.then-window-eq0.branch [
        | then-window-eq0-via-then-window-eq0 w ↦ no-window snap img c.args.minute c.args.window _ w.if-window-eq0.true
        | then-window-eq0-via-else-window-eq0+then-not-has_wall_triggers w ↦ no-triggers snap img c.args.minute c.args.window _ w.has_wall_triggers.ensures w.if-not-has_wall_triggers.true-raw
      ]);
      same = (refl, refl, refl);
    }

pub returns : goal.returns
returns c =
    record {
      does = same-part 64 (fire_due_wall_rules (env_in c.args.self.now.snapshot.now c.args.self.now.image.now) _ c.args.window false (name_order c.args.self.now.image.now)) (fire_window (env_in c.args.self.now.snapshot.now c.args.self.now.image.now) c.args.minute c.args.window) (opens c.args.self.now.snapshot.now c.args.self.now.image.now c.args.minute c.args.window _ c.has_wall_triggers.ensures c.if-not-has_wall_triggers.false-raw c.if-window-eq0.false) c.fire_due_wall_rules.ensures.does;
      same = c.fire_due_wall_rules.ensures.same;
    }
