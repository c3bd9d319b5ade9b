-- How long ago a rule fired. Assumes nothing.
use mathlib.Core.Path.{◌≡◌}
use Prim.Native.Nat.{ℕ, ◌-◌}
use lib.Dec.{ltb}
use Rattle.std.specs.Prelude.{Some}
use Rattle.model.specs.State.{Env, Rest, last_activation_at}
use Rattle.model.specs.Rules.{rule_named}
use Rattle.model.specs.Eval.{last_fired_older, eval_condition}
use Rattle.model.specs.declared.Condition.TheVariants.{LastFiredOlderThan}

-- by the words of the code: the milliseconds asked for, and those that have gone by
pub fired : (e : Env) (s : Rest) (rule ms : ℕ) {i at than ago : ℕ} → rule_named e.set.image rule ≡ Some i → last_activation_at s i ≡ Some at → than ≡ ms → ago ≡ e.world.now - at → Some (ltb than ago) ≡ eval_condition e s (LastFiredOlderThan rule ms)
unfolding eval_condition last_fired_older
fired e s rule ms h k t l = rw (h, k, t, l)
