-- `store::hold::Loaded::records_hold` meets its contract. Assumes nothing.
use Rattle.model.specs.Flat.{flatten_rules, set_of}
use Rattle.store.proofs.SetRules.{records-are}
use Rattle.store.proofs.hold.Loaded.records_hold.Goals as goal

pub returns : goal.returns
returns c =
    let r = c.counted in
    let img = c.args.self.now.image.now in
    let set = set_of img (flatten_rules img) in
    records-are c.args.self.now.store.words.now set r.result.n _ r.ensures.size
    (rw (r.ensures.words, r.ensures.place) at (c.records_fit.ensures set (rw r.ensures.words c.requires)))
