-- `engine::starts::next_start` meets its contract. Assumes nothing.
use mathlib.Core.Path.{sym, ◌∙◌}
use Rattle.model.specs.World.{world_of}
use Rattle.world.proofs.Laws.{wall-in-range}
use Rattle.engine.proofs.StartLaws.{known-clock, unknown-clock}
use Rattle.engine.proofs.starts.next_start.Goals as goal

pub week_minute-requires : goal.week_minute-requires
week_minute-requires c =
    wall-in-range _ c.words-words.ensures.accepted (sym c.wall.ensures ∙ c.in-Some.is)

pub returns-in_default : goal.returns-in_default
returns-in_default c = rw c.words-words.ensures.same at (unknown-clock c.args.store.now (world_of c.words-words.result.now) _ c.wall.ensures c.in_default.is)

pub returns-in-Some-next_from : goal.returns-in-Some-next_from
returns-in-Some-next_from c =
    rw c.words-words.ensures.same at (known-clock c.args.store.now (world_of c.words-words.result.now) _ c.wall.ensures _ _ _ c.in-Some.is c.sun.ensures c.week_minute.ensures.0 c.next_from.ensures c.in-Some-next_from.is)

pub returns-in-None : goal.returns-in-None
returns-in-None c =
    rw c.words-words.ensures.same at (known-clock c.args.store.now (world_of c.words-words.result.now) _ c.wall.ensures _ _ _ c.in-Some.is c.sun.ensures c.week_minute.ensures.0 c.next_from.ensures c.in-None.is)
