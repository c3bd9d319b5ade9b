-- `engine::starts::bits_in` meets its contract. Assumes nothing.
use mathlib.Core.Path.{refl}
use native.Mathlib.Omega.{arith}
use Rattle.engine.proofs.WordLaws.{saying}
use Rattle.engine.proofs.StartLaws.{enabled-words}
use Rattle.engine.proofs.starts.bits_in.Goals as goal

pub slice_bounds-result-end : goal.slice_bounds-result-end
slice_bounds-result-end c = omega (arith, (saying _ _ c.words.ensures).long, c.rule_count-to.ensures.few)

pub returns : goal.returns
returns c = enabled-words _ c.args.store.now c.words.ensures c.rule_count-to.result _ c.rule_count-to.ensures.few c.rule_count-to.ensures.count refl
