-- `store::volatile::begin` meets its contract. Assumes nothing.
use mathlib.Core.Path.{◌∙◌}
use Prim.Native.Nat.{◌+◌, ◌*◌}
use native.Mathlib.Omega.{arith}
use Rattle.state.specs.Meaning.{place_of, bits_part, activations_part, positions_part, variables_part}
use Rattle.store.specs.Places.{state_place, activations_place, positions_place, variables_place, changing_words}
use Rattle.rows.proofs.Writing.{one_set}
use Rattle.store.proofs.Copied.{lent_fits, copied}
use Rattle.store.proofs.volatile.begin.Goals as goal

pub put_first-requires : goal.put_first-requires
put_first-requires c =
    lent_fits c.args.store.now _ c.told-v state_place activations_place (place_of bits_part) c.args.rules (omega arith) (omega (arith, c.requires.0.long)) (omega arith) (omega (arith, c.requires.1))

pub overflow_mul-rules : goal.overflow_mul-rules
overflow_mul-rules c = omega (arith, c.requires.1)

pub put_first-requires-2 : goal.put_first-requires-2
put_first-requires-2 c =
    lent_fits c.args.store.now _ (c.put_first.auto.v ∙ c.told-v) activations_place positions_place (place_of activations_part) (c.args.rules * 3) (omega arith) (omega (arith, c.requires.0.long)) (omega arith) (omega (arith, c.requires.1))

pub overflow_mul-rules-2 : goal.overflow_mul-rules-2
overflow_mul-rules-2 c = omega (arith, c.requires.1)

pub put_first-requires-3 : goal.put_first-requires-3
put_first-requires-3 c =
    lent_fits c.args.store.now _ (c.put_first-2.auto.v ∙ c.put_first.auto.v ∙ c.told-v) positions_place variables_place (place_of positions_part) (c.args.rules * 2) (omega arith) (omega (arith, c.requires.0.long)) (omega arith) (omega (arith, c.requires.1))

pub put_words-requires : goal.put_words-requires
put_words-requires c =
    (lent_fits c.args.store.now _ (c.put_first-3.auto.v ∙ c.put_first-2.auto.v ∙ c.put_first.auto.v ∙ c.told-v) variables_place (state_place + changing_words) (place_of variables_part) 0 (omega arith) (omega (arith, c.requires.0.long)) (omega arith) (omega arith)).0

pub returns : goal.returns
returns c =
    copied c.args.store.now c.requires.0 c.args.rules c.requires.1 _ _ _ _ _ _ _ _ _ c.told-v
    c.put_first.ensures
    c.put_first-2.ensures
    c.put_first-3.ensures
    c.put_words.ensures
    c.at.ensures
    (one_set _ _ _ (omega (arith, c.put_words.auto.s, c.put_first-3.auto.v, c.put_first-2.auto.v, c.put_first.auto.v, c.told-v)))
    c.clear.ensures
    (one_set _ _ _ (omega (arith, c.clear.auto.s, c.put_words.auto.s, c.put_first-3.auto.v, c.put_first-2.auto.v, c.put_first.auto.v, c.told-v)))
