-- The records of an image, taken apart: the fields of each kind in the order of document 01, "Rule image".
use Rattle.std.specs.Prelude.{Bool, cond, List, [], ◌∷◌, map, ℕ, ◌+◌, ◌-◌, ◌*◌, eqb, leb, ltb, get_or}
use Rattle.std.specs.Prelude.{Option, None, Some, Result, Ok, Err, slice_get}
use Rattle.words.specs.Pairs.{joined}
pub use Rattle.model.specs.declared.Record.{Record}
pub use Rattle.model.specs.declared.Unevaluable.{Unevaluable}
pub use Rattle.model.specs.declared.VarConstant.{VarConstant}
use Rattle.model.specs.declared.VarConstant.TheVariants as constant
pub use Rattle.model.specs.declared.Action.{Action}
pub use Rattle.model.specs.declared.Action.TheVariants.{Light, Recall, Apply, Cycle, HclResume, HclHold, HclEnable, HclDisable, FeedbackOn, FeedbackOff, PanelSelect, CancelHold, CatchMovement, TimerStart, TimerRestart, TimerCancel, VarSet, VarAdd, RuleEnable, RuleDisable, MqttPublish, Log, StatCount, Percent}
pub use Rattle.model.specs.declared.FlowAction.{FlowAction}
pub use Rattle.model.specs.declared.FlowAction.TheVariants.{Wait, After, Call, Repeat, Conditional, Plain}
pub use Rattle.model.specs.declared.Cmp.{Cmp}
pub use Rattle.model.specs.declared.Cmp.TheVariants.{Eq, Ne, Ge, Le, Gt, Lt}
pub use Rattle.model.specs.declared.SolarEvent.{SolarEvent}
pub use Rattle.model.specs.declared.SolarEvent.TheVariants.{Sunrise, Sunset}
pub use Rattle.model.specs.declared.GroupAggregate.{GroupAggregate}
pub use Rattle.model.specs.declared.GroupAggregate.TheVariants.{AnyOn, AllOff}
use Rattle.model.specs.declared.HclState as hcl
pub use Rattle.model.specs.declared.HclState.TheVariants.{Enabled, Overridden}
pub use Rattle.model.specs.declared.VarOperand.{VarOperand}
use Rattle.model.specs.declared.VarOperand.TheVariants as operand
pub use Rattle.model.specs.declared.Condition.{Condition}
pub use Rattle.model.specs.declared.Condition.TheVariants.{TimeInRange, DayIn, SunIs, LampIs, LampLevel, LampCct, GroupState, InputOccupancy, InputLight, HclState, DeviceOnline, RuleEnabled, LastFiredOlderThan, TimerRunning, ControllerActive, VarCompare}
pub use Rattle.model.specs.declared.Value.{Value}
pub use Rattle.model.specs.declared.Value.TheVariants.{Literal, Reading, Offset}
pub use Rattle.model.specs.declared.TimeBound.{TimeBound}
pub use Rattle.model.specs.declared.TimeBound.TheVariants.{Clock, Solar}
pub use Rattle.model.specs.declared.Trigger.{Trigger}
pub use Rattle.model.specs.declared.Trigger.TheVariants.{TimerFires, Every, AtTime, AtSolar, Other}
use Rattle.model.specs.Readings as reading
use Rattle.model.specs.Lists.{up_from, position, sort}
use Rattle.model.specs.Image.{word_at, size_of}
use Rattle.model.specs.Rows.{rules, triggers, conditions}

-- record i in the words of a table of eight words a record
abbrev pub record_in : List ℕ → ℕ → Record
record_in t i =
    record { kind = get_or t (i * 8) 0; a = get_or t (i * 8 + 1) 0; b = get_or t (i * 8 + 2) 0; c = get_or t (i * 8 + 3) 0; d = get_or t (i * 8 + 4) 0; e = get_or t (i * 8 + 5) 0 }

-- record i of table t of an image
abbrev pub record_of : List ℕ → ℕ → ℕ → Record
record_of img t i =
    record {
      kind = word_at img t i 0;
      a = word_at img t i 1;
      b = word_at img t i 2;
      c = word_at img t i 3;
      d = word_at img t i 4;
      e = word_at img t i 5;
    }

-- the words of actions that say one of several
abbrev pub hold_of : ℕ → Option ℕ
hold_of w = cond (eqb w 2) None (Some w)

abbrev pub light_answer_of : ℕ → ℕ → Result (Option ℕ) Unevaluable
light_answer_of answer verb = cond (eqb answer 0) (Ok (Some verb)) (cond (eqb answer 1) (Ok None) (Err (record {})))

abbrev pub scene_of : ℕ → ℕ → Option ℕ
scene_of answer scene = cond (eqb answer 0) (Some scene) None

-- an integer, low and high word, or a text, its number and its byte length
abbrev pub constant_of : ℕ → ℕ → ℕ → VarConstant
constant_of tag low high = cond (eqb tag 1) (constant.Text low high) (constant.Int (joined low high))

-- what a record says as an action of kind 0, 1, ..
abbrev pub actions_of : Record → List Action
actions_of r =
    Light r.a (hold_of r.b) (light_answer_of r.c r.d) ∷
    Recall (scene_of r.a r.b) r.c r.d ∷
    Apply (scene_of r.a r.b) ∷
    Cycle r.a r.b ∷
    HclResume r.a ∷
    HclHold r.a ∷
    HclEnable r.a ∷
    HclDisable r.a ∷
    FeedbackOn r.a r.b r.c ∷
    FeedbackOff r.a r.b r.c ∷
    PanelSelect r.a r.b r.c ∷
    CancelHold r.a r.b r.c ∷
    CatchMovement r.a r.b r.c ∷
    TimerStart r.a r.b ∷
    TimerRestart r.a r.b ∷
    TimerCancel r.a ∷
    VarSet r.a (constant_of r.b r.c r.d) ∷
    VarAdd r.a r.b ∷
    RuleEnable r.a ∷
    RuleDisable r.a ∷
    MqttPublish r.a r.b r.c ∷
    Log r.a ∷
    StatCount r.a ∷
    []

-- kind 28 stands behind the flow actions, 23 to 27
unfoldable pub action_of : Record → Option Action
action_of r = cond (eqb r.kind 28) (Some (Percent r.a (hold_of r.b) r.c)) (slice_get (actions_of r) r.kind)

unfoldable pub flow_of : Record → FlowAction
flow_of r =
    cond (ltb r.kind 23) Plain
    (get_or (Wait r.a ∷ After r.a r.b r.c ∷ Call r.a ∷ Repeat r.a r.b r.c ∷ Conditional r.a r.b r.c r.d r.e ∷ []) (r.kind - 23) Plain)

-- the words of conditions, bounds and triggers that name one of several
abbrev pub cmp_of : ℕ → Option Cmp
cmp_of w = slice_get (Eq ∷ Ne ∷ Ge ∷ Le ∷ Gt ∷ Lt ∷ []) w

abbrev pub event_of : ℕ → SolarEvent
event_of w = cond (eqb w 0) Sunrise Sunset

abbrev pub aggregate_of : ℕ → GroupAggregate
aggregate_of w = cond (eqb w 0) AnyOn AllOff

abbrev pub hcl_state_of : ℕ → hcl.HclState
hcl_state_of w = cond (eqb w 0) Enabled Overridden

abbrev pub operand_of : ℕ → ℕ → VarOperand
operand_of tag w = cond (eqb tag 1) (operand.Text w) (operand.Value w)

abbrev pub conditions_of : Record → List Condition
conditions_of r =
    TimeInRange r.a r.b ∷
    DayIn r.a ∷
    SunIs (eqb r.a 1) ∷
    LampIs r.a r.b (eqb r.c 1) ∷
    LampLevel r.a r.b (cmp_of r.c) r.d ∷
    LampCct r.a r.b (cmp_of r.c) r.d ∷
    GroupState r.a r.b (aggregate_of r.c) ∷
    InputOccupancy r.a r.b r.c (eqb r.d 1) ∷
    InputLight r.a r.b r.c (eqb r.d 1) r.e ∷
    HclState r.a (hcl_state_of r.b) ∷
    DeviceOnline r.a r.b ∷
    RuleEnabled r.a ∷
    LastFiredOlderThan r.a r.b ∷
    TimerRunning r.a ∷
    ControllerActive ∷
    VarCompare r.a (cmp_of r.b) (operand_of r.c r.d) ∷
    []

unfoldable pub condition_of : Record → Option Condition
condition_of r = slice_get (conditions_of r) r.kind

-- a reading, from its code and its three reference words
abbrev pub readings_of : ℕ → ℕ → ℕ → List reading.Reading
readings_of a b c =
    reading.LampLevel a b ∷
    reading.LampCct a b ∷
    reading.LampIsOn a b ∷
    reading.LampLastLevel a b ∷
    reading.GroupAnyOn a b ∷
    reading.GroupAllOff a b ∷
    reading.GroupMemberCount a b ∷
    reading.InputOccupied a b c ∷
    reading.InputLight a b c ∷
    reading.InputPosition a b c ∷
    reading.InputLastEventAge a b c ∷
    reading.TimeNow ∷
    reading.TimeHour ∷
    reading.TimeMinute ∷
    reading.TimeWeekday ∷
    reading.SunRise ∷
    reading.SunSet ∷
    reading.SunIsUp ∷
    reading.Var a ∷
    reading.EventValue ∷
    reading.EventDevice ∷
    reading.EventInstance ∷
    reading.EventOption ∷
    []

unfoldable pub reading_of : ℕ → ℕ → ℕ → ℕ → reading.Reading
reading_of code a b c = get_or (readings_of a b c) code reading.EventOption

unfoldable pub value_of : Record → Option Value
value_of r = slice_get (Literal r.a r.b ∷ Reading (reading_of r.a r.b r.c r.d) ∷ Offset (reading_of r.a r.b r.c r.d) r.e ∷ []) r.kind

unfoldable pub bound_of : Record → Option TimeBound
bound_of r = slice_get (Clock r.a r.b ∷ Solar (event_of r.a) r.b ∷ []) r.kind

unfoldable pub trigger_of : Record → Trigger
trigger_of r = get_or (TimerFires r.a ∷ Every r.a ∷ AtTime r.a r.b r.c ∷ AtSolar (event_of r.a) r.b ∷ []) r.kind Other

-- the parts of rule i
module _ (img : List ℕ) where
  abbrev pub name_of : ℕ → ℕ
  name_of i = word_at img rules i 0

  abbrev pub enabled_of : ℕ → Bool
  enabled_of i = eqb (word_at img rules i 1) 1

  abbrev pub hold_hcl_of : ℕ → ℕ
  hold_hcl_of i = word_at img rules i 2

  abbrev pub cooldown_of : ℕ → ℕ
  cooldown_of i = word_at img rules i 3

  unfoldable pub triggers_of : ℕ → List Trigger
  triggers_of i = map (λ k. trigger_of (record_of img triggers k)) (up_from (word_at img rules i 4) (word_at img rules i 5))

  unfoldable pub conditions_of_rule : ℕ → List (Option Condition)
  conditions_of_rule i = map (λ k. condition_of (record_of img conditions k)) (up_from (word_at img rules i 6) (word_at img rules i 7))

  -- the set's rules, by place in the image, and the place of the rule of a name
  abbrev pub rule_indices : List ℕ
  rule_indices = up_from 0 (size_of img rules)

  unfoldable pub rule_named : ℕ → Option ℕ
  rule_named name = position (λ i. eqb (name_of i) name) rule_indices

  -- the rules by name: "rule and timer names are numbered in byte order of their spelling"
  unfoldable pub name_order : List ℕ
  name_order = sort (λ a b. leb (name_of a) (name_of b)) rule_indices
