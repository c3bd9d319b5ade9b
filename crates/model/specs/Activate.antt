-- One activation: activate.rs, and `resume` of wheel.rs.
use Rattle.std.specs.Prelude.{ℕ, suc, ◌-◌, Bool, true, false, cond, ◌&&◌, List, [], ◌∷◌, ◌++◌, ltb, eqb, length, set}
use Rattle.std.specs.Prelude.{Option, None, Some}
use Rattle.model.specs.Lists.{or_else}
use Rattle.model.specs.Image.{budget}
use Rattle.model.specs.Rules.{name_of, hold_hcl_of, cooldown_of, conditions_of_rule, rule_named}
use Rattle.model.specs.Steps.{start}
use Rattle.model.specs.Outcome.{Effect, Outcome, Item, started, resumed, aborted}
use Rattle.model.specs.State.{Env, Rest, Volatile, Pending, with_rest, next_number, with_last_activation, bump, bump_by, last_activation_at, activations_total, activations_dry, suppressed_cooldown, conditions_rejected, partial_outcomes, effects_emitted, continuations_fired}
use Rattle.model.specs.Eval.{conditions_hold}
use Rattle.model.specs.Actions.{Job, condition_unevaluable}
use Rattle.model.specs.Exec.{RunOutput, run_steps}
use Rattle.model.specs.Dry.{run_steps_dry}
pub use Rattle.model.specs.declared.Mode.{Mode}
pub use Rattle.model.specs.declared.Mode.TheVariants.{Auto, Manual, Dry}

abbrev pub is_auto : Mode → Bool
is_auto Auto = true
is_auto Manual = false
is_auto Dry = false

abbrev pub is_dry : Mode → Bool
is_dry Auto = false
is_dry Manual = false
is_dry Dry = true

-- what a part of a call did: at most one outcome for each activation and resumption
pub record Handled : Type 0 where
  pub vol : Volatile
  pub outcomes : List Outcome
  pub trace : List Item

abbrev pub no_outcome : Volatile → Handled
no_outcome v = record { vol = v; outcomes = []; trace = [] }

abbrev pub and_then : Handled → (Volatile → Handled) → Handled
and_then x k = let y = k x.vol in record { vol = y.vol; outcomes = x.outcomes ++ y.outcomes; trace = x.trace ++ y.trace }

unfoldable pub outcome : Job → List Effect → ℕ → Outcome
outcome j effects reason = record { rule = j.rule; dry = cond j.dry 1 0; trigger = j.trigger; reason = reason; effects = effects; number = j.number }

-- the rule of this name, at place i of the image; it has no number yet
unfoldable pub job_of : Env → ℕ → ℕ → ℕ → Bool → Job
job_of e name i kind dry = record { rule = name; index = i; hold = hold_hcl_of e.set.image i; trigger = kind; dry = dry; number = 0 }

unfoldable pub numbered : ℕ → Job → Job
numbered n j = record j { number = n }

abbrev pub with_number : ℕ → Volatile → Volatile
with_number n v = record v { last_number = n }

-- `in_cooldown`
abbrev pub within : ℕ → ℕ → Option ℕ → Bool
within now ms None = false
within now ms (Some at) = ltb (now - at) ms

unfoldable pub in_cooldown : Env → ℕ → Rest → Bool
in_cooldown e i s = within e.world.now (cooldown_of e.set.image i) (last_activation_at s i)

-- whether a rule starts now, and what that does to the counters
pub data Decision : Type 0 where
  begins suppressed unevaluable : Rest → Decision

abbrev pub verdict : Option Bool → Bool → Rest → Decision
verdict (Some true) dry s = begins s
verdict (Some false) dry s = suppressed (bump conditions_rejected s)
verdict None dry s = unevaluable (cond dry s (bump partial_outcomes s))

-- the Rust also asks for the depth of a chain, which is always 0 (document 02, request 9; crate `reasons`)
unfoldable pub decide : Env → ℕ → Mode → Rest → Decision
decide e i m s =
    cond (is_auto m && in_cooldown e i s) (suppressed (bump suppressed_cooldown s))
    (verdict (conditions_hold e s (conditions_of_rule e.set.image i)) (is_dry m) s)

-- `finish_wet`
unfoldable pub finish_wet : List Effect → ℕ → Volatile → Volatile
finish_wet effects reason v =
    let s = bump_by effects_emitted (length effects) v.rest in
    with_rest (cond (eqb reason 0) s (bump partial_outcomes s)) v

abbrev pub finished : Job → Item → RunOutput → Handled
finished j item r =
    record { vol = finish_wet r.effects r.reason r.vol; outcomes = outcome j r.effects r.reason ∷ []; trace = item ∷ r.trace }

-- `execute`: the last activation is written before the steps run, and only of a wet run; it takes the next number
unfoldable pub execute_wet : Env → Job → Volatile → Handled
execute_wet e j v =
    let s = with_last_activation (set v.rest.last_activation j.index (Some e.world.now)) (bump activations_total v.rest) in
    let w = numbered (next_number v.last_number) j in
    finished w (started j.rule) (run_steps (budget e.set.image) e w start (with_number (suc v.last_number) (with_rest s v)))

unfoldable pub execute_dry : Env → Job → Volatile → Handled
execute_dry e j v =
    let r = run_steps_dry (budget e.set.image) e j start [] (bump activations_dry v.rest) in
    record { vol = with_rest r.rest v; outcomes = outcome j r.effects r.reason ∷ []; trace = started j.rule ∷ r.trace }

abbrev pub execute : Env → Job → Bool → Volatile → Handled
execute e j true v = execute_dry e j v
execute e j false v = execute_wet e j v

abbrev pub decided : Decision → Env → Job → Volatile → Handled
decided (begins s) e j v = execute e j j.dry (with_rest s v)
decided (suppressed s) e j v = no_outcome (with_rest s v)
decided (unevaluable s) e j v = record { vol = with_rest s v; outcomes = outcome j [] condition_unevaluable ∷ []; trace = aborted j.rule ∷ [] }

-- rule i of the set, by a trigger kind of an outcome
unfoldable pub activate : Env → ℕ → ℕ → Mode → Volatile → Handled
activate e i kind m v = decided (decide e i m v.rest) e (job_of e (name_of e.set.image i) i kind (is_dry m)) v

-- a continuation goes on where it stood, under its own number; its rule is loaded
unfoldable pub resume : Env → Pending → Volatile → Handled
resume e c v =
    let j = numbered c.number (job_of e c.rule (or_else 0 (rule_named e.set.image c.rule)) c.trigger false) in
    finished j (resumed c) (run_steps c.budget e j c.point (with_rest (bump continuations_fired v.rest) v))
