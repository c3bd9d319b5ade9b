-- `telegrams::is_superseded` meets its contract. Assumes nothing.
use Rattle.telegrams.proofs.CodeLaws.{never-again, level-again}
use Rattle.telegrams.proofs.is_superseded.Goals as goal

pub returns-then-is_level : goal.returns-then-is_level
returns-then-is_level c =
    rw (← c.effect_of-x.ensures) (level-again _ _ _ c.is_level.ensures c.if-is_level.true _ c.is_set_from.ensures)

pub returns-else-is_level : goal.returns-else-is_level
returns-else-is_level c = rw (← c.effect_of-x.ensures) (never-again _ _ _ c.is_level.ensures c.if-is_level.false)
