-- What activations and resumptions did so far, with the words of the state as they are then.
use Rattle.std.specs.Prelude.{ℕ, ◌≡◌, List}
use Rattle.activate.specs.declared.Handled.{Handled}
use Rattle.activate.specs.declared.Lent.{Lent}

pub record Carried : Type 0 where
  pub vol : List ℕ
  pub outcomes : ℕ
  pub effects : ℕ

abbrev pub carried : List ℕ → Handled → Carried
carried w x = record { vol = w; outcomes = x.outcomes; effects = x.effects }

-- of what a call lends
abbrev pub carried_by : Lent → Carried
carried_by a = carried a.state.now a.handled

-- the same words are lent
abbrev pub SameLent : Lent → Lent → Type 0
SameLent a b = (b.outcomes.ghost_name ≡ a.outcomes.ghost_name) × (b.effects.ghost_name ≡ a.effects.ghost_name) × (b.state.ghost_name ≡ a.state.ghost_name)

-- from what was lent, over the words of outcomes and effects, to what is there then
pub record Over (r : Carried → List ℕ → List ℕ → Carried → List ℕ → List ℕ → Type 0) (a b : Lent) : Type 0 where
  pub does : r (carried_by a) a.outcomes.now a.effects.now (carried_by b) b.outcomes.now b.effects.now
  pub same : SameLent a b
