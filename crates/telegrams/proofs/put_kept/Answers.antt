-- `telegrams::put_kept` meets its contract: what is left to be written gives the whole. Assumes nothing.
use Rattle.telegrams.proofs.CodeLaws.{put-begin, put-left, put-more, put-end}
use Rattle.telegrams.proofs.put_kept.Goals as goal

pub loop-k-init : goal.loop-k-init
loop-k-init c = put-begin _ _

pub loop-k-preserved-then-is_superseded : goal.loop-k-preserved-then-is_superseded
loop-k-preserved-then-is_superseded c =
    put-left _ _ _ _ _ c.loop-k.invariant c.loop-k-test.true _ c.is_superseded.ensures c.if-is_superseded.true

pub loop-k-preserved : goal.loop-k-preserved
loop-k-preserved c =
    put-more _ _ _ _ _ c.loop-k.invariant c.loop-k-test.true _ c.is_superseded.ensures c.if-is_superseded.false _ c.effect_of.ensures _ c.write_effect.ensures

pub returns : goal.returns
returns c = put-end _ _ _ _ _ c.loop-k.invariant c.loop-k-test.false
