-- `store::flat_part::rule_flat` meets its contract. Assumes nothing.
use Rattle.store.proofs.FlatRules.{near-part}
use Rattle.store.proofs.flat_part.rule_flat.Goals as goal

pub invariant_of-result : goal.invariant_of-result
invariant_of-result c =
    let k = c.requires in
    record { near = near-part k.image k.accepted c.args.i _ _ (c.steps.ensures _ k.flat k.inside) (c.own.ensures _ k.flat k.inside) }
