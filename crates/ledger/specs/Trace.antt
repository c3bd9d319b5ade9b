-- What it means that a call's trace and its outcomes are runs of its rules' lists: each item is the step that stands at its place, reports
-- what that step says and leads where that step leads; a run stops only at the list's end, at budget 0, or behind a wait; and each run has one
-- outcome, which tells the run's rule, trigger, effects and reason.
use Rattle.std.specs.Prelude.{◌≡◌, ◌⊎◌, ℕ, suc, ◌+◌, Bool, true, false, cond, List, [], ◌∷◌, ◌++◌}
use Rattle.std.specs.Prelude.{Option, None, Some}
use Rattle.model.specs.Lists.{or_else, to_list, present}
use Rattle.model.specs.Image.{budget}
use Rattle.model.specs.Rows.{actions}
use Rattle.model.specs.declared.Action.{Action}
use Rattle.model.specs.declared.Action.TheVariants.{Light, Recall, Apply, Cycle, HclResume, HclHold, HclEnable, HclDisable, FeedbackOn, FeedbackOff, PanelSelect, CancelHold, CatchMovement, TimerStart, TimerRestart, TimerCancel, VarSet, VarAdd, RuleEnable, RuleDisable, MqttPublish, Log, StatCount, Percent}
use Rattle.model.specs.Rules.{record_of, name_of, rule_named, action_of}
use Rattle.model.specs.declared.Step.{Step}
use Rattle.model.specs.declared.Point.{Point}
use Rattle.model.specs.declared.Step.TheVariants.{Primitive, Wait, Branch, After, Fail}
use Rattle.model.specs.declared.Effect.{Effect}
use Rattle.model.specs.declared.Pending.{Pending}
use Rattle.model.specs.Outcome.{Outcome, Report, plain, disables, defers, Item, started, resumed, aborted, paid}
use Rattle.model.specs.State.{RuleSet}
use Rattle.model.specs.Flat.{step_at}
use Rattle.model.specs.Actions.{condition_unevaluable}
use Rattle.model.specs.Exec.{effect_budget, first_reason, advance, enter_then, body_start}
use Rattle.model.specs.Steps.{start}
use Rattle.model.specs.Calls.{Call, new, load, unload, enable, tick, run, deadline, counters, Done}
use Rattle.model.specs.Answers.{outcomes_in}

-- the effects of the paid steps, in order: a step gives one at the most
abbrev pub effects_in : List Item → List Effect
effects_in [] = []
effects_in (resumed c ∷ ms) = effects_in ms
effects_in (started r ∷ ms) = effects_in ms
effects_in (aborted r ∷ ms) = effects_in ms
effects_in (paid x s g ∷ ms) = to_list g ++ effects_in ms

-- what a wet action reports: RuleDisable of a rule of the set disables it, "off already or not"
abbrev pub report_of : List ℕ → Action → Report
report_of img (Light t h a) = plain
report_of img (Recall s m t) = plain
report_of img (Apply s) = plain
report_of img (Cycle f n) = plain
report_of img (HclResume t) = plain
report_of img (HclHold t) = plain
report_of img (HclEnable s) = plain
report_of img (HclDisable s) = plain
report_of img (FeedbackOn a i k) = plain
report_of img (FeedbackOff a i k) = plain
report_of img (PanelSelect a g v) = plain
report_of img (CancelHold a i k) = plain
report_of img (CatchMovement a i k) = plain
report_of img (TimerStart t ms) = plain
report_of img (TimerRestart t ms) = plain
report_of img (TimerCancel t) = plain
report_of img (VarSet n v) = plain
report_of img (VarAdd n v) = plain
report_of img (RuleEnable rule) = plain
report_of img (RuleDisable rule) = cond (present (rule_named img rule)) (disables rule) plain
report_of img (MqttPublish t p r) = plain
report_of img (Log t) = plain
report_of img (StatCount n) = plain
report_of img (Percent t h v) = plain

-- a record of no kind of action reports nothing
abbrev pub known_report : List ℕ → Option Action → Report
known_report img None = plain
known_report img (Some a) = report_of img a

-- an action or a condition that cannot be evaluated notes reason 1
abbrev pub MayFail : ℕ → Type 0
MayFail q = (q ≡ 0) ⊎ (q ≡ condition_unevaluable)

-- a wait or an after that is dropped notes reason 2
abbrev pub reason_if : Bool → ℕ
reason_if dropped = cond dropped effect_budget 0

-- what a step reports at a point, the effect that it gives (only an action gives one) and the reason that it notes. A wait is told apart below.
abbrev pub Reports : RuleSet → Step → Point → Report → Option Effect → ℕ → Type 0
Reports set (Primitive i) sp s g q = (s ≡ known_report set.image (action_of (record_of set.image actions i))) × MayFail q
Reports set (Wait ms) sp s g q = ⊥
Reports set (After ms) sp s g q = (d : Bool) × (s ≡ defers d ms (body_start sp)) × (g ≡ None) × (q ≡ reason_if d)
Reports set (Branch c t n) sp s g q = (s ≡ plain) × (g ≡ None) × MayFail q
Reports set Fail sp s g q = (s ≡ plain) × (g ≡ None) × (q ≡ condition_unevaluable)

-- into the then-region, into the else-region, or past both
abbrev pub Branches : ℕ → ℕ → Point → Point → Type 0
Branches t n sp to = (to ≡ enter_then sp t n) ⊎ ((to ≡ advance sp t) ⊎ (to ≡ advance sp (t + n)))

-- where a step at a point leads; a wait ends the run
abbrev pub Leads : Step → Point → Point → Type 0
Leads (Primitive i) sp to = to ≡ advance sp 0
Leads (Wait ms) sp to = ⊥
Leads (After ms) sp to = to ≡ advance sp 0
Leads (Branch c t n) sp to = Branches t n sp to
Leads Fail sp to = to ≡ advance sp 0

-- a run of rule i of the set, with a budget, from a point on: its paid steps, and its reason, the first that is noted. Reason 2 is noted by a
-- wait or an after that is dropped, and by a step that is left when the budget is used up; by nothing else.
pub data RunOf (set : RuleSet) (i : ℕ) : ℕ → Point → List Item → ℕ → Type 0 where
  ended : {b : ℕ} {sp : Point} → step_at set i sp ≡ None → RunOf set i b sp [] 0
  exhausted : {sp : Point} {x : Step} → step_at set i sp ≡ Some x → RunOf set i 0 sp [] effect_budget
  waits : {b ms : ℕ} {sp : Point} {d : Bool} → step_at set i sp ≡ Some (Wait ms)
      → RunOf set i (suc b) sp (paid (Wait ms) (defers d ms (advance sp 0)) None ∷ []) (reason_if d)
  continues : {b r : ℕ} {sp to : Point} {x : Step} {s : Report} {g : Option Effect} {ms : List Item} (q : ℕ) → step_at set i sp ≡ Some x → Reports set x sp s g q → Leads x sp to
      → RunOf set i b to ms r → RunOf set i (suc b) sp (paid x s g ∷ ms) (first_reason q r)

-- what a wet run's outcome tells: the rule, the trigger, the reason, the number, and the effects of these paid steps
abbrev pub wet_outcome : ℕ → ℕ → ℕ → ℕ → List Item → Outcome
wet_outcome rule kind reason number ms = record { rule = rule; dry = 0; trigger = kind; reason = reason; effects = effects_in ms; number = number }

-- activations one after the other, each with its outcome: a run of a rule's list from its start with the set's budget; or none, where the
-- conditions cannot be evaluated
pub data ActivationsOf (set : RuleSet) : List Item → List Outcome → Type 0 where
  no_more : ActivationsOf set [] []
  activation : {i kind reason number : ℕ} {ms rest : List Item} {os : List Outcome} → RunOf set i (budget set.image) start ms reason → ActivationsOf set rest os
      → ActivationsOf set (started (name_of set.image i) ∷ (ms ++ rest)) (wet_outcome (name_of set.image i) kind reason number ms ∷ os)
  unevaluable : {kind : ℕ} {rest : List Item} {os : List Outcome} (i : ℕ) → ActivationsOf set rest os
      → ActivationsOf set (aborted (name_of set.image i) ∷ rest) (wet_outcome (name_of set.image i) kind condition_unevaluable 0 [] ∷ os)

-- first resumptions, each with its outcome: a run of the record's rule from its point on with its budget; then activations
pub data TraceOf (set : RuleSet) : List Item → List Outcome → Type 0 where
  activations : {ms : List Item} {os : List Outcome} → ActivationsOf set ms os → TraceOf set ms os
  resumption : {c : Pending} {reason : ℕ} {ms rest : List Item} {os : List Outcome}
      → RunOf set (or_else 0 (rule_named set.image c.rule)) c.budget c.point ms reason → TraceOf set rest os
      → TraceOf set (resumed c ∷ (ms ++ rest)) (wet_outcome c.rule c.trigger reason c.number ms ∷ os)

-- A CALL: its trace and its outcomes, given the set in the store that it finds --------------------------------------------------------
abbrev pub outcomes_of : Done → List Outcome
outcomes_of d = outcomes_in d.answer

-- nothing runs, and there is no outcome
pub record NoOutput (d : Done) : Type 0 where
  pub trace : d.trace ≡ []
  pub outcomes : outcomes_of d ≡ []

-- without a set nothing runs
abbrev pub Ticks : Option RuleSet → Done → Type 0
Ticks None d = NoOutput d
Ticks (Some set) d = TraceOf set d.trace (outcomes_of d)

-- no outcome, or one: of this rule, with trigger 0
abbrev pub OnlyOf : ℕ → List Outcome → Type 0
OnlyOf r [] = Unit {0}
OnlyOf r (o ∷ []) = (o.rule ≡ r) × (o.trigger ≡ 0)
OnlyOf r (o ∷ p ∷ os) = ⊥

-- a wet run activates the rule that it names, once at the most
pub record WetRunOf (set : RuleSet) (r : ℕ) (d : Done) : Type 0 where
  pub runs : ActivationsOf set d.trace (outcomes_of d)
  pub only : OnlyOf r (outcomes_of d)

abbrev pub RunsWet : ℕ → Option RuleSet → Done → Type 0
RunsWet r None d = NoOutput d
RunsWet r (Some set) d = WetRunOf set r d

-- only ticks and runs have a trace and outcomes. A dry run's are not demand 3's.
abbrev pub Conforms : Call → Option RuleSet → Done → Type 0
Conforms (new t) o d = NoOutput d
Conforms (load t img) o d = NoOutput d
Conforms (unload t) o d = NoOutput d
Conforms (enable r on) o d = NoOutput d
Conforms (tick snap os es) o d = Ticks o d
Conforms (run r false snap os es) o d = RunsWet r o d
Conforms (run r true snap os es) o d = Unit {0}
Conforms deadline o d = NoOutput d
Conforms counters o d = NoOutput d
