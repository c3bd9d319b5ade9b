-- `store::put_set::put_flat` meets its contract. Assumes nothing.
use mathlib.Core.Path.{refl}
use Rattle.model.specs.Flat.{flatten_rules}
use native.Mathlib.Omega.{arith}
use Rattle.rows.proofs.Writing.{one_set}
use Rattle.store.proofs.LoadWords.{loads, over-never, count-few, flat-put}
use borrow.Author.Rules.{rules}
use Rattle.store.proofs.put_set.put_flat.Goals as goal

pub flatten_rules-requires : goal.flatten_rules-requires
flatten_rules-requires c = record {
  checked = (loads c.words.result.now c.words.ensures.accepted).checked;
  words_len_bound = search rules;
}

pub unreachable-requires : goal.unreachable-requires
unreachable-requires c = absurd (over-never (flatten_rules c.words.result.now) _ _ (loads c.words.result.now c.words.ensures.accepted).few c.flatten_rules.ensures.value c.in_default.is)

pub overflow_cast-s : goal.overflow_cast-s
overflow_cast-s c =
    let k = loads c.words.result.now c.words.ensures.accepted in
    let n = count-few c.words.result.now _ _ k c.flatten_rules.ensures.value c.in-Ok.is in
    search rules

pub returns : goal.returns
returns c =
    rw (← c.words.ensures.same)
    (flat-put c.words.result.now c.args.s.now _ _ _ _ _ _ _ (loads c.words.result.now c.words.ensures.accepted) c.told-s (search rules) (search rules)
    c.flatten_rules.ensures.value c.in-Ok.is c.flatten_rules.ensures.stored refl (one_set _ _ _ (omega (arith, c.told-s))) c.put_words.ensures)
