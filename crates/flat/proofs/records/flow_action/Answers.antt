-- `flat::records::flow_action` meets its contract: the kind that the tests found is the kind that the definition reads. Assumes nothing.
use mathlib.Core.Path.{◌≡◌}
use Prim.Native.Nat.{ℕ, suc, ◌+◌, ◌-◌, ◌<◌}
use native.Mathlib.Omega.{arith}
use native.Mathlib.Decide.{dec_le}
use borrow.Author.Tests.{lt-ltb, le-ltb}
use Rattle.model.specs.declared.Record.{Record}
use Rattle.model.specs.declared.FlowAction.TheVariants.{Wait, After, Call, Repeat, Conditional, Plain}
use Rattle.model.specs.Rules.{flow_of}
use Rattle.std.proofs.Common.{rules}
use Rattle.flat.proofs.records.flow_action.Goals as goal

-- what each kind is read as
module _ (r : Record) where
  wait : r.kind ≡ 23 → Wait r.a ≡ flow_of r
  unfolding flow_of
  wait h = rw h

  after : r.kind ≡ 24 → After r.a r.b r.c ≡ flow_of r
  unfolding flow_of
  after h = rw h

  call : r.kind ≡ 25 → Call r.a ≡ flow_of r
  unfolding flow_of
  call h = rw h

  repeat : r.kind ≡ 26 → Repeat r.a r.b r.c ≡ flow_of r
  unfolding flow_of
  repeat h = rw h

  conditional : r.kind ≡ 27 → Conditional r.a r.b r.c r.d r.e ≡ flow_of r
  unfolding flow_of
  conditional h = rw h

  low : r.kind < 23 → Plain ≡ flow_of r
  unfolding flow_of
  low h = rw (lt-ltb r.kind 23 h)

  high : (k : ℕ) → r.kind ≡ 28 + k → Plain ≡ flow_of r
  unfolding flow_of
  high k h =
      let e : r.kind - 23 ≡ suc (suc (suc (suc (suc k)))) = omega arith in
      rw (le-ltb r.kind 23 (omega arith), e)

  plain : (r.kind ≡ 23 → ⊥) → (r.kind ≡ 24 → ⊥) → (r.kind ≡ 25 → ⊥) → (r.kind ≡ 26 → ⊥) → (r.kind ≡ 27 → ⊥) → Plain ≡ flow_of r
  plain a b c d e =
      elim (dec_le 23 r.kind) [
        | yes h ↦ high (r.kind - 28) (omega arith)
        | no h ↦ low (omega arith)
      ]

pub returns-in-23 : goal.returns-in-23
returns-in-23 c = wait c.args.r c.in-23.is

pub returns-in-24 : goal.returns-in-24
returns-in-24 c = after c.args.r c.in-24.is

pub returns-in-25 : goal.returns-in-25
returns-in-25 c = call c.args.r c.in-25.is

pub returns-in-26 : goal.returns-in-26
returns-in-26 c = repeat c.args.r c.in-26.is

pub returns-in-27 : goal.returns-in-27
returns-in-27 c = conditional c.args.r c.in-27.is

pub returns-in_default : goal.returns-in_default
returns-in_default c = plain c.args.r (search rules) (search rules) (search rules) (search rules) (search rules)
