-- What activations and resumptions did, in the specification's terms: the state after them, and the outcomes and effects in words.
use Rattle.std.specs.Prelude.{ℕ, suc, ◌+◌, ◌*◌, ◌≤◌, ◌≡◌, cond, List, [], ◌∷◌, ◌++◌, leb, length, set, get_or}
use Rattle.words.specs.Pairs.{low_of, high_of}
use Rattle.words.specs.Saturating.{max32, max64}
use Rattle.model.specs.Activate as model
use Rattle.model.specs.Calls.{effects_of}
use Rattle.model.specs.Outcome.{Outcome}
use Rattle.model.specs.declared.Effect.{Effect}
use Rattle.model.specs.declared.Pending.{Pending}
use Rattle.model.specs.Steps.{FlatStep}
use Rattle.flat.specs.Words.{Says}
use Rattle.state.specs.Meaning.{Means, meaning, base, accepted}
use Rattle.eval.specs.Answers.{env_of}
use Rattle.lent_words.specs.PutEffects.{put_effects}
use Rattle.activate.specs.Carried.{Carried}
use Rattle.model.specs.declared.Mode.{Mode}

-- outcome n, whose effects begin at effect `first`, where there is room for it
unfoldable pub put_outcome : List ℕ → ℕ → ℕ → Outcome → List ℕ
put_outcome w n first o =
    cond (leb (n * 8 + 8) (length w))
    (set (set (set (set (set (set (set (set w (n * 8) o.rule) (n * 8 + 1) o.dry) (n * 8 + 2) o.trigger) (n * 8 + 3) o.reason) (n * 8 + 4) first) (n * 8 + 5) (length o.effects))
    (n * 8 + 6) (low_of o.number)) (n * 8 + 7) (high_of o.number))
    w

-- outcomes n, n + 1, ..
unfoldable pub put_outcomes : List ℕ → ℕ → ℕ → List Outcome → List ℕ
put_outcomes w n first [] = w
put_outcomes w n first (o ∷ os) = put_outcomes (put_outcome w n first o) (suc n) (first + length o.effects) os

-- the effects of outcomes, in order
abbrev pub all_effects : List Outcome → List Effect
all_effects [] = []
all_effects (o ∷ os) = o.effects ++ all_effects os

-- from x, over these words, the code came to r and the specification to h
pub record Continues (x : Carried) (ow ew : List ℕ) (h : model.Handled) (r : Carried) (ow' ew' : List ℕ) : Type 0 where
  pub state : Means r.vol (base x.vol) h.vol
  pub outcomes : r.outcomes ≡ x.outcomes + length h.outcomes
  pub effects : r.effects ≡ x.effects + effects_of h.outcomes
  pub outcome_words : ow' ≡ put_outcomes ow x.outcomes x.effects h.outcomes
  pub effect_words : ew' ≡ put_effects ew x.effects (all_effects h.outcomes)

-- no more than n activations or resumptions add: each has one outcome, a budget of 256 steps and one number at most
pub record Within (n : ℕ) (x r : Carried) : Type 0 where
  pub accepted : accepted r.vol ≤ accepted x.vol + n * 256
  pub outcomes : r.outcomes ≤ x.outcomes + n
  pub effects : r.effects ≤ x.effects + n * 256
  pub numbers : (meaning r.vol).last_number ≤ (meaning x.vol).last_number + n

-- numbers that have room for n activations or resumptions
pub record Room (n : ℕ) (x : Carried) : Type 0 where
  pub accepted : accepted x.vol + n * 256 ≤ max32
  pub outcomes : x.outcomes + n ≤ max32
  pub effects : x.effects + n * 256 ≤ max32
  pub numbers : (meaning x.vol).last_number + n ≤ max64 + max32

-- one activation or resumption came to r: in every set where this part says the lists of rule i, it is what the specification gives for the set
pub record Handles (part : List ℕ) (own i : ℕ) (h : List (List FlatStep) → model.Handled) (x : Carried) (ow ew : List ℕ) (r : Carried) (ow' ew' : List ℕ) : Type 0 where
  pub says : (flat : List (List FlatStep)) → Says part own (get_or flat i []) → Continues x ow ew (h flat) r ow' ew'
  pub within : Within 1 x r

module _ (snapshot image part : List ℕ) (own i : ℕ) where
  abbrev pub Activates : ℕ → Mode → Carried → List ℕ → List ℕ → Carried → List ℕ → List ℕ → Type 0
  Activates kind mode x = Handles part own i (λ flat. model.activate (env_of snapshot image flat) i kind mode (meaning x.vol)) x

  abbrev pub Resumes : Pending → Carried → List ℕ → List ℕ → Carried → List ℕ → List ℕ → Type 0
  Resumes c x = Handles part own i (λ flat. model.resume (env_of snapshot image flat) c (meaning x.vol)) x
