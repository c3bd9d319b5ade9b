-- `engine::sets::with_set` meets its contract. Assumes nothing.
use mathlib.Core.Path.{sym, ap, ◌∙◌}
use Rattle.model.specs.State.{Volatile}
use Rattle.engine.proofs.CallLaws.{itself}
use Rattle.engine.proofs.WordLaws.{saying, old-slots}
use Rattle.engine.proofs.SetLaws.{loadable, set-taken}
use Rattle.engine.proofs.sets.with_set.Goals as goal

pub slots_in-old-requires : goal.slots_in-old-requires
slots_in-old-requires c = (saying _ _ c.words.ensures).reads.readable

pub new-tables-requires : goal.new-tables-requires
new-tables-requires c = (loadable _ c.words-2.ensures.accepted).sized

pub rebuild_every-requires : goal.rebuild_every-requires
rebuild_every-requires c = rw c.new-tables.ensures (loadable _ c.words-2.ensures.accepted).few_enough

pub put_rules-requires : goal.put_rules-requires
put_rules-requires c = rw c.new-tables.ensures (loadable _ c.words-2.ensures.accepted).few

pub returns : goal.returns
returns c =
    let s = c.args.store.now in
    let v = sym c.begin.ensures.says in
    rw (← (c.new-tables.ensures ∙ c.words-2.ensures.same))
    (set-taken c.new-tables.result c.args.time s _ _ _ _ _ (rw (c.v.view_is) at c.v.invariant) (itself c.begin.ensures) v (c.slots_in-old.ensures ∙ old-slots _ s c.words.ensures ∙ ap (λ (m : Volatile). m.rest.every) v)
    c.rebuild_every.ensures c.drop_all.ensures.0 c.put_rules.ensures)
