-- `rewrite::walk::Frame::pass` meets its contract. Assumes nothing.
use Rattle.rewrite.proofs.CodeLaws.{pass-next, pass-within}
use Rattle.rewrite.proofs.walk.Frame.pass.Goals as goal

pub returns-then-word-width_of : goal.returns-then-word-width_of
returns-then-word-width_of c = pass-next c.args.self c.args.m _ _ c.steps.ensures.0 c.width_of.ensures.0 c.if-word-width_of.true

pub returns : goal.returns
returns c = pass-within c.args.self c.args.m _ _ c.steps.ensures.0 c.width_of.ensures.0 c.if-word-width_of.false
