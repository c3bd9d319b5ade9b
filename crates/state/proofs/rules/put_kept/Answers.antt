-- `state::rules::put_kept` meets its contract. Assumes nothing.
use native.Mathlib.Omega.{arith}
use mathlib.Core.Path.{refl, ap, ◌∙◌}
use Prim.Native.Nat.{ℕ, ◌+◌, ◌*◌}
use borrow.Author.Tests.{lt-ltb, le-ltb}
use Rattle.model.specs.Codec.{maybe}
use Rattle.rows.specs.Places.{laid}
use Rattle.state.specs.Meaning.{rules_of}
use Rattle.state.specs.Named.{kept_laid}
use Rattle.state.proofs.rules.put_kept.Goals as goal

pub returns-then-i-rule_count-clause-laid : goal.returns-then-i-rule_count-clause-laid
unfolding kept_laid
returns-then-i-rule_count-clause-laid g c =
    let v = c.args.v.now in
    rw (lt-ltb c.args.i (rules_of v) (omega (arith, c.rule_count.ensures.0, c.if-i-rule_count.true)))
    (c.put_option.ensures ∙ ap (λ (n : ℕ). laid v (c.args.part + c.args.i * (1 + n)) ((maybe g.T.Row.codec).put c.args.x)) c.WORDS.ensures)

pub returns-else-i-rule_count-clause-laid : goal.returns-else-i-rule_count-clause-laid
unfolding kept_laid
returns-else-i-rule_count-clause-laid g c = rw (le-ltb c.args.i (rules_of c.args.v.now) (omega (arith, c.rule_count.ensures.0, c.if-i-rule_count.false))) refl
