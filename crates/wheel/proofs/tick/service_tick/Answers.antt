-- `wheel::tick::service_tick` meets its contract. Assumes nothing.
use mathlib.Core.Path.{◌∙◌}
use Rattle.eval.specs.Answers.{env_in}
use Rattle.wheel.proofs.Ticks.{whole-tick}
use Rattle.wheel.proofs.tick.service_tick.Goals as goal

pub returns : goal.returns
returns c =
    let a = c.fire_continuations.ensures.same in
    let b = c.fire_timers.ensures.same in
    let d = c.fire_every.ensures.same in
    let e = c.fire_wall_schedules.ensures.same in
    record {
      does = rw c.words.ensures.same at
          (whole-tick (env_in c.words.result.now c.args.image.now) c.fire_continuations.ensures.does c.fire_timers.ensures.does c.fire_every.ensures.does c.fire_wall_schedules.ensures.does);
      same = (e.0 ∙ d.0 ∙ b.0 ∙ a.0, e.1 ∙ d.1 ∙ b.1 ∙ a.1, e.2 ∙ d.2 ∙ b.2 ∙ a.2);
    }
