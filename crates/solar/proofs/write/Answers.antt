-- `solar::write` meets its contract. Assumes nothing.
use Rattle.model.specs.Rules.{triggers_of}
use Rattle.solar.proofs.Starts.{no-room, has-room, shown-all}
use Rattle.solar.proofs.write.Goals as goal

pub returns-then-starts-n : goal.returns-then-starts-n
returns-then-starts-n c = no-room c.args.sun (triggers_of c.args.image.now c.args.i) _ c.count-n.ensures.0 c.requires c.if-starts-n.true

pub put_all-requires : goal.put_all-requires
put_all-requires c = has-room c.args.sun (triggers_of c.args.image.now c.args.i) _ c.count-n.ensures.0 _ c.if-starts-n.false

pub returns : goal.returns
returns c = shown-all c.args.sun (triggers_of c.args.image.now c.args.i) _ c.count-n.ensures.0 c.requires c.if-starts-n.false c.put_all.ensures
