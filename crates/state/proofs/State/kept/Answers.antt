-- `state::State::kept` meets its contract. Assumes nothing.
use native.Mathlib.Omega.{arith}
use mathlib.Core.Path.{refl, ap, ◌∙◌}
use Prim.Native.Nat.{ℕ, ◌+◌, ◌*◌}
use borrow.Author.Tests.{lt-ltb, le-ltb}
use Rattle.model.specs.Codec.{maybe}
use Rattle.rows.specs.Places.{row_at}
use Rattle.state.specs.Meaning.{rules_of}
use Rattle.state.specs.Named.{kept_for}
use Rattle.state.proofs.State.kept.Goals as goal

pub returns-then-i-rule_count : goal.returns-then-i-rule_count
unfolding kept_for
returns-then-i-rule_count g c =
    let v = c.self.inside.words in
    rw (← c.self.view_is) (
      rw (lt-ltb c.args.i (rules_of v) (omega (arith, c.rule_count.ensures.0, c.if-i-rule_count.true)))
          (c.option_at.ensures ∙ ap (λ (n : ℕ). row_at (maybe g.T.Row.codec) v (c.args.part + c.args.i * (1 + n))) c.WORDS.ensures),
      c.self.invariant,
    )

pub returns : goal.returns
unfolding kept_for
returns g c = rw (← c.self.view_is) (rw (le-ltb c.args.i (rules_of c.self.inside.words) (omega (arith, c.rule_count.ensures.0, c.if-i-rule_count.false))) refl, c.self.invariant)
