-- One part of a call behind another: what they did together, and that there is room for both. Assumes nothing.
use Prim.Native.Nat.{ℕ, ◌+◌, ◌*◌, ◌≤◌}
use native.Mathlib.Omega.{arith}
use mathlib.Core.Path.{◌≡◌, refl, sym, ap, ◌∙◌}
use mathlib.Core.List.{List, [], ◌∷◌, ◌++◌, append_assoc}
use lib.ListN.{length, replicate, length-append}
use Rattle.model.specs.Activate as model
use Rattle.model.specs.Activate.{no_outcome, and_then}
use Rattle.model.specs.Answers as answers
use Rattle.model.specs.Answers.{outcome_words, lent}
use Rattle.model.specs.Calls.{effects_of}
use Rattle.model.specs.Outcome.{Outcome}
use Rattle.model.specs.State as model-state
use Rattle.model.specs.declared.Effect.{Effect}
use Rattle.state.specs.Meaning.{Means, meaning, base, accepted}
use Rattle.state.proofs.Follows.{next-is, accepted-by-next}
use Rattle.lent_words.specs.PutEffects.{put_effects}
use Rattle.lent_words.proofs.Written as lent_written
use Rattle.activate.specs.Handled.{Continues, Within, Room, put_outcomes, all_effects}
use Rattle.activate.specs.Carried.{Carried}
use Rattle.activate.proofs.Written.{put-append, all-effects-length, lent-outcomes, lent-effects}

-- the words of the state are others then
abbrev pub with_vol : List ℕ → Carried → Carried
with_vol w x = record { vol = w; outcomes = x.outcomes; effects = x.effects }

pub effects-append : (os ps : List Outcome) → effects_of (os ++ ps) ≡ effects_of os + effects_of ps
effects-append [] ps = omega arith
effects-append (o ∷ os) ps = ap (λ (k : ℕ). length o.effects + k) (effects-append os ps) ∙ omega arith

pub all-effects-append : (os ps : List Outcome) → all_effects (os ++ ps) ≡ all_effects os ++ all_effects ps
all-effects-append [] ps = refl
all-effects-append (o ∷ os) ps = ap (λ (l : List Effect). o.effects ++ l) (all-effects-append os ps) ∙ sym (append_assoc o.effects (all_effects os) (all_effects ps))

-- x to r by h, and r to s by k of h's state
pub then-continues : (x : Carried) (ow ew : List ℕ) (h : model.Handled) (r : Carried) (ow' ew' : List ℕ) (k : model-state.Volatile → model.Handled) (s : Carried) (ow'' ew'' : List ℕ)
    → Continues x ow ew h r ow' ew' → Continues r ow' ew' (k h.vol) s ow'' ew'' → Continues x ow ew (and_then h k) s ow'' ew''
then-continues x ow ew h r ow' ew' k s ow'' ew'' a b =
    let y = k h.vol in
    let os = h.outcomes in
    let ps = y.outcomes in
    record {
      state = record { says = b.state.says; based = b.state.based ∙ a.state.based };
      outcomes = omega (arith, a.outcomes, b.outcomes, length-append os ps);
      effects = omega (arith, a.effects, b.effects, effects-append os ps);
      outcome_words = b.outcome_words ∙ rw (a.outcomes, a.effects, a.outcome_words) (sym (put-append ow x.outcomes x.effects os ps));
      effect_words = b.effect_words ∙ rw (a.effects, a.effect_words, all-effects-append os ps, ← all-effects-length os) (sym (lent_written.put-append ew x.effects (all_effects os) (all_effects ps)));
    }

-- the state alone changes
pub no-outcome : (x : Carried) (ow ew : List ℕ) (v : model-state.Volatile) (r : Carried) → Means r.vol (base x.vol) v → r.outcomes ≡ x.outcomes → r.effects ≡ x.effects → Continues x ow ew (no_outcome v) r ow ew
unfolding put_outcomes put_effects
no-outcome x ow ew v r m a b = record { state = m; outcomes = a ∙ omega arith; effects = b ∙ omega arith; outcome_words = refl; effect_words = refl }

-- nothing happens
pub nothing-done : (x : Carried) (ow ew : List ℕ) → Continues x ow ew (no_outcome (meaning x.vol)) x ow ew
nothing-done x ow ew = no-outcome x ow ew (meaning x.vol) x (record { says = refl; based = refl }) refl refl

-- ---- room
pub within_none : (x r : Carried) → accepted r.vol ≡ accepted x.vol → (meaning r.vol).last_number ≡ (meaning x.vol).last_number → r.outcomes ≡ x.outcomes → r.effects ≡ x.effects → Within 0 x r
within_none x r a n b c = record { accepted = omega (arith, a); outcomes = omega (arith, b); effects = omega (arith, c); numbers = omega (arith, n) }

pub within-then : (n m : ℕ) (x r s : Carried) → Within n x r → Within m r s → Within (n + m) x s
within-then n m x r s a b =
    record {
      accepted = omega (arith, a.accepted, b.accepted);
      outcomes = omega (arith, a.outcomes, b.outcomes);
      effects = omega (arith, a.effects, b.effects);
      numbers = omega (arith, a.numbers, b.numbers);
    }

pub within_more : (n m : ℕ) (x r : Carried) → n ≤ m → Within n x r → Within m x r
within_more n m x r h a =
    record {
      accepted = omega (arith, a.accepted);
      outcomes = omega (arith, a.outcomes);
      effects = omega (arith, a.effects);
      numbers = omega (arith, a.numbers);
    }

pub room-left : (n m : ℕ) (x r : Carried) → Room (n + m) x → Within n x r → Room m r
room-left n m x r a b =
    record {
      accepted = omega (arith, a.accepted, b.accepted);
      outcomes = omega (arith, a.outcomes, b.outcomes);
      effects = omega (arith, a.effects, b.effects);
      numbers = omega (arith, a.numbers, b.numbers);
    }

pub room-less : (n m : ℕ) (x : Carried) → n ≤ m → Room m x → Room n x
room-less n m x h a = record { accepted = omega (arith, a.accepted); outcomes = omega (arith, a.outcomes); effects = omega (arith, a.effects); numbers = omega (arith, a.numbers) }

-- what the specification's parts bound, the code's do
pub within_by : (n : ℕ) (x : Carried) (ow ew : List ℕ) (h : model.Handled) (r : Carried) (ow' ew' : List ℕ) → Continues x ow ew h r ow' ew'
    → h.vol.next ≤ (meaning x.vol).next + n * 256 → length h.outcomes ≤ n → effects_of h.outcomes ≤ n * 256 → h.vol.last_number ≤ (meaning x.vol).last_number + n → Within n x r
within_by n x ow ew h r ow' ew' c next os es last =
    record {
      accepted = omega (arith, accepted-by-next r.vol (base x.vol) h.vol c.state, next-is x.vol, next);
      outcomes = omega (arith, c.outcomes, os);
      effects = omega (arith, c.effects, es);
      numbers = omega (arith, ap (λ (m : model-state.Volatile). m.last_number) c.state.says, last);
    }

-- ---- the whole of a call, over words that were 0
module _ (x : Carried) (ow ew : List ℕ) (h : model.Handled) (r : Carried) (ow' ew' : List ℕ) (c : Continues x ow ew h r ow' ew') (no : x.outcomes ≡ 0) (ne : x.effects ≡ 0) where
  pub all-outcomes : ow ≡ replicate (length ow) 0 → r.outcomes * 8 ≤ length ow → ow' ≡ lent (length ow) (outcome_words 0 h.outcomes)
  all-outcomes z fits =
      let n : r.outcomes ≡ length h.outcomes = c.outcomes ∙ omega (arith, no) in
      let f : length h.outcomes * 8 ≤ length ow = omega (arith, n, fits) in
      c.outcome_words ∙ rw (no, ne) (lent-outcomes ow h.outcomes z f)

  pub all-effects : ew ≡ replicate (length ew) 0 → r.effects * 5 ≤ length ew → ew' ≡ lent (length ew) (answers.effect_words h.outcomes)
  all-effects z fits =
      let n : r.effects ≡ effects_of h.outcomes = c.effects ∙ omega (arith, ne) in
      let f : effects_of h.outcomes * 5 ≤ length ew = omega (arith, n, fits) in
      c.effect_words ∙ rw ne (lent-effects ew h.outcomes z f)
