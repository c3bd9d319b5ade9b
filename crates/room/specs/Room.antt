-- How much a tick or a run can give while a set is loaded: the most outcomes and the most effects, from the set's image alone. A store holds at most
-- 32 continuations and 16 timers; a tick resumes each continuation once, and starts a rule once for each of its timers that fires, for
-- each of its Every slots, and for its wall triggers together.
use Rattle.std.specs.Prelude.{ℕ, zero, suc, ◌+◌, ◌-◌, ◌*◌, min, max, Bool, true, false, cond, List, [], ◌∷◌, length}
use Rattle.model.specs.Lists.{total}
use Rattle.model.specs.Image.{budget, size_of}
use Rattle.model.specs.Rows.{rules}
use Rattle.model.specs.declared.Trigger.{Trigger}
use Rattle.model.specs.declared.Trigger.TheVariants.{TimerFires, Every, AtTime, AtSolar, Other}
use Rattle.model.specs.Rules.{triggers_of}
use Rattle.model.specs.Flat.{flatten_rule}
use Rattle.model.specs.Wheel.{is_wall_trigger}

-- how many pass; the laws in proofs/ take the first apart, where `count_by` of std folds from the left
abbrev pub count : {A : Type 0} → (A → Bool) → List A → ℕ
count p [] = 0
count p (x ∷ xs) = cond (p x) 1 0 + count p xs

-- the greatest of f at the numbers below n
unfoldable pub greatest : ℕ → (ℕ → ℕ) → ℕ
greatest zero f = 0
greatest (suc n) f = max (greatest n f) (f n)

abbrev pub is_timer_trigger : Trigger → Bool
is_timer_trigger (TimerFires t) = true
is_timer_trigger (Every ms) = false
is_timer_trigger (AtTime h m days) = false
is_timer_trigger (AtSolar event offset) = false
is_timer_trigger Other = false

abbrev pub is_every_trigger : Trigger → Bool
is_every_trigger (TimerFires t) = false
is_every_trigger (Every ms) = true
is_every_trigger (AtTime h m days) = false
is_every_trigger (AtSolar event offset) = false
is_every_trigger Other = false

-- how often a tick can start a rule of these triggers
unfoldable pub starts_by : List Trigger → ℕ
starts_by ts = min 16 (count is_timer_trigger ts) + count is_every_trigger ts + min 1 (count is_wall_trigger ts)

module _ (img : List ℕ) where
  abbrev pub starts_of : ℕ → ℕ
  starts_of i = starts_by (triggers_of img i)

  -- the flat steps of rule i: of its own list, and of the bodies of its afters, those that copies share once
  unfoldable pub own_steps : ℕ → ℕ
  own_steps i = length (flatten_rule img i).rows

  unfoldable pub body_steps : ℕ → ℕ
  body_steps i = length (flatten_rule img i).bodies

  -- the most effects of one start of rule i: one for each step of its own list, and each step is paid
  abbrev pub effects_of_start : ℕ → ℕ
  effects_of_start i = min (budget img) (own_steps i)

  -- the most steps that a continuation can have before it: it stands in a rule's own list, or in a body, which is no longer than all bodies
  abbrev pub longest : ℕ
  longest = greatest (size_of img rules) (λ i. max (own_steps i) (body_steps i))

  -- one for each continuation and each start; a run gives one at the most
  unfoldable pub outcomes_needed : ℕ
  outcomes_needed = 32 + total (size_of img rules) starts_of

  -- a continuation has at most B - 1 left to pay with
  abbrev pub tick_effects : ℕ
  tick_effects = 32 * min (budget img - 1) longest + total (size_of img rules) (λ i. starts_of i * effects_of_start i)

  -- a run is one start: it gives more than a tick can only where B is 1. A dry one takes the bodies too, and still gives no more than 32
  -- continuations can
  unfoldable pub effects_needed : ℕ
  effects_needed = max (min (budget img) longest) tick_effects
