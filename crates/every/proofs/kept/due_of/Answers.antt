-- `every::kept::due_of` meets its contract. Assumes nothing.
use Rattle.std.proofs.Common.{rules, arith, ap, ◌≡◌, ◌∙◌}
use Rattle.std.proofs.lemmas.Iterator.Search.{find_from_yields_List}
use Rattle.std.proofs.lemmas.Iterator.Consumers.{YieldsList-from_first}
use Rattle.model.specs.Lists.{find}
use Rattle.model.specs.Slots.{same_slot, due_or}
use Rattle.rows.proofs.Searching.{finds}
use Rattle.every.proofs.KeptSlots.{answered}
use Rattle.every.proofs.kept.due_of.Goals as goal
use Rattle.every.proofs.kept.due_of.Goals.{After-find}

-- what is found is what the specification finds
found : (c : After-find) → c.find.result ≡ find (same_slot c.args.key.rule c.args.key.place c.args.key.period) c.args.slots.now
found c =
    let p = same_slot c.args.key.rule c.args.key.place c.args.key.period in
    finds p c.args.slots.now _ (find_from_yields_List p _ _ _ c.find.ensures.ran (YieldsList-from_first (λ x. x) (λ rest. rest) _ c.iter.ensures) (λ x b q h. search rules))

pub returns : goal.returns
returns c = answered c.args.fresh _ c.find.result c.map_or.ensures (λ x q. omega (arith, q)) ∙ ap (due_or c.args.fresh) (found c.before)
