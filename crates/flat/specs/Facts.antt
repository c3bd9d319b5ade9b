-- What is known of the tables is a fact: there is at most one proof of it.
use Rattle.std.proofs.Common.{ℕ, refl, List, Option, None, Some}
use native.Mathlib.Nat.{ℕ_set}
use native.Mathlib.Bridge.{le_prop}
use mathlib.Core.HLevel.{Π_prop, ×_prop}
use denote.Struct.Props.{≡_prop}
use Rattle.std.specs.Coded.{Coded, code_by, coded×, coded_ℕ, coded_option}
use Rattle.model.specs.declared.Record.{Record}
use Rattle.model.specs.declared.FlowAction.{FlowAction}
use Rattle.model.specs.declared.FlowAction.TheVariants.{Wait, After, Call, Repeat, Conditional, Plain}
use Rattle.flat.specs.Outcome.{NestedIn, BlockIn, Resolved}
use Rattle.flat.specs.Load.{CheckedTables}

nested-prop : (n i : ℕ) (x : FlowAction) → IsProp (NestedIn n i x)
nested-prop n i (Wait ms) = hlevel (le_prop, ℕ_set)
nested-prop n i (After ms f k) = hlevel (le_prop, ℕ_set)
nested-prop n i (Call b) = hlevel (le_prop, ℕ_set)
nested-prop n i (Repeat t f k) = hlevel (le_prop, ℕ_set)
nested-prop n i (Conditional q yf yk ef ek) = hlevel (le_prop, ℕ_set)
nested-prop n i Plain = hlevel (le_prop, ℕ_set)

block-prop : (n : ℕ) (o : Option Record) → IsProp (BlockIn n o)
block-prop n None = hlevel (le_prop, ℕ_set)
block-prop n (Some r) = hlevel (le_prop, ℕ_set)

pub checked-prop : (acts blocks rules : List ℕ) (d limit : ℕ) → IsProp (CheckedTables acts blocks rules d limit)
checked-prop acts blocks rules d limit = hlevel (le_prop, ℕ_set, nested-prop, block-prop)

-- six numbers
coded_record : Coded Record
coded_record =
    code_by (ℕ × (ℕ × (ℕ × (ℕ × (ℕ × ℕ))))) (coded× coded_ℕ (coded× coded_ℕ (coded× coded_ℕ (coded× coded_ℕ (coded× coded_ℕ coded_ℕ)))))
    (λ r. (r.kind, (r.a, (r.b, (r.c, (r.d, r.e)))))) (λ p. record { kind = p.0; a = p.1.0; b = p.1.1.0; c = p.1.1.1.0; d = p.1.1.1.1.0; e = p.1.1.1.1.1 }) (λ _. refl)

pub resolved-prop : (acts blocks calls : List ℕ) (n : ℕ) → IsProp (Resolved acts blocks calls n)
unfolding Resolved
resolved-prop acts blocks calls n = Π_prop λ i. Π_prop λ _. ×_prop le_prop (≡_prop (coded_option coded_record) _ _)
