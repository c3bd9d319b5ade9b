-- Conditions and values: eval.rs. `none` is Rust's `Err(Unevaluable)`, and `x ← e` its `let x = e?`.
use Rattle.std.specs.Prelude.{ℕ, ◌+◌, ◌-◌, ◌*◌, ◌/◌, ◌%◌, Bool, true, false, cond, not, ◌&&◌, ◌||◌, List, [], ◌∷◌, leb, ltb, eqb, ℤ, pos}
use Rattle.std.specs.Prelude.{Option, None, Some}
use Rattle.std.specs.Int.Signed.{lt_z}
use Rattle.words.specs.Pairs.{joined}
use Rattle.words.specs.Signed.{signed64, signed32, saturating_add_i64}
use Rattle.words.specs.Solar.{solar_time}
use Rattle.words.specs.declared.SolarTime.{SolarTime}
use Rattle.model.specs.Arith.{compare_i64, has_day}
use Rattle.model.specs.Lists.{◌>>=◌, present}
use Rattle.model.specs.Rows.{conditions, values, bounds}
use Rattle.model.specs.Readings as reading
use Rattle.model.specs.Rules.{record_of, rule_named, Value, Literal, Reading, Offset, value_of, TimeBound, Clock, Solar, bound_of}
use Rattle.model.specs.Rules.{Condition, TimeInRange, DayIn, SunIs, LampIs, LampLevel, LampCct, GroupState, InputOccupancy, InputLight, HclState, DeviceOnline, RuleEnabled, LastFiredOlderThan, TimerRunning, ControllerActive, VarCompare, condition_of}
use Rattle.model.specs.Rules.{Cmp, Eq, Ne, SolarEvent, Sunrise, Sunset, GroupAggregate, AnyOn, AllOff, Enabled, Overridden, VarOperand}
use Rattle.model.specs.declared.HclState as hcl
use Rattle.model.specs.declared.VarOperand.TheVariants as operand
use Rattle.model.specs.World.{SunTimes, GroupState as GroupRow, DeviceState, HclTargetState, lamp, group, device, input, hcl_target}
use Rattle.model.specs.State.{Env, Rest, VarValue, Int, Text, is_enabled, last_activation_at, timer_named, var_named}

abbrev pub equal_b : Bool → Bool → Bool
equal_b true b = b
equal_b false b = not b

-- 0 false, 1 true
abbrev pub from_bool : Bool → ℤ
from_bool true = pos 1
from_bool false = pos 0

-- a word that may be missing
abbrev pub number : Option ℕ → Option ℤ
number None = None
number (Some n) = Some (pos n)

-- an integer variable
abbrev pub as_int : Option VarValue → Option ℤ
as_int None = None
as_int (Some (Int n)) = Some (signed64 n)
as_int (Some (Text t)) = None

-- an offset from sunrise or sunset
unfoldable pub solar_time_of : SunTimes → SolarEvent → ℕ → SolarTime
solar_time_of sun Sunrise offset = solar_time sun.sunrise_min offset
solar_time_of sun Sunset offset = solar_time sun.sunset_min offset

-- `solar_minute`: its minute
unfoldable pub solar_of : SunTimes → SolarEvent → ℕ → ℕ
solar_of sun event offset = (solar_time_of sun event offset).minute

unfoldable pub minute_in_range : ℕ → ℕ → ℕ → Bool
minute_in_range t start end = cond (leb start end) (leb start t && leb t end) (leb start t || leb t end)

-- texts know only Eq and Ne
unfoldable pub compare_text : Option Cmp → ℕ → ℕ → Bool
compare_text (Some Eq) a b = eqb a b
compare_text (Some Ne) a b = not (eqb a b)
compare_text cmp a b = false

-- what differs fulfils Ne alone
abbrev pub is_ne : Option Cmp → Bool
is_ne (Some Ne) = true
is_ne cmp = false

abbrev pub group_is : GroupAggregate → GroupRow → Bool
group_is AnyOn g = g.any_on
group_is AllOff g = g.all_off

module _ (e : Env) (s : Rest) where
  unfoldable pub sun_is_up : Option Bool
  sun_is_up = do
    wall ← e.world.wall
    sun ← e.world.sun
    Some (leb sun.sunrise_min wall.minutes_of_day && ltb wall.minutes_of_day sun.sunset_min)

  unfoldable pub eval_reading : reading.Reading → Option ℤ
  eval_reading (reading.LampLevel a i) = do l ← lamp e.world a i; number l.level
  eval_reading (reading.LampCct a i) = do l ← lamp e.world a i; number l.cct_kelvin
  eval_reading (reading.LampIsOn a i) = do l ← lamp e.world a i; Some (from_bool l.is_on)
  eval_reading (reading.LampLastLevel a i) = do l ← lamp e.world a i; number l.last_level
  eval_reading (reading.GroupAnyOn a i) = do g ← group e.world a i; Some (from_bool g.any_on)
  eval_reading (reading.GroupAllOff a i) = do g ← group e.world a i; Some (from_bool g.all_off)
  eval_reading (reading.GroupMemberCount a i) = do g ← group e.world a i; Some (pos g.member_count)
  eval_reading (reading.InputOccupied a i k) = do n ← input e.world a i k; number n.occupied
  eval_reading (reading.InputLight a i k) = do n ← input e.world a i k; number n.light
  eval_reading (reading.InputPosition a i k) = do n ← input e.world a i k; number n.position
  eval_reading (reading.InputLastEventAge a i k) = do n ← input e.world a i k; number n.last_event_age_ms
  eval_reading reading.TimeNow = do w ← e.world.wall; Some (pos w.minutes_of_day)
  eval_reading reading.TimeHour = do w ← e.world.wall; Some (pos (w.minutes_of_day / 60))
  eval_reading reading.TimeMinute = do w ← e.world.wall; Some (pos (w.minutes_of_day % 60))
  eval_reading reading.TimeWeekday = do w ← e.world.wall; Some (pos w.weekday)
  eval_reading reading.SunRise = do sun ← e.world.sun; Some (pos sun.sunrise_min)
  eval_reading reading.SunSet = do sun ← e.world.sun; Some (pos sun.sunset_min)
  eval_reading reading.SunIsUp = do up ← sun_is_up; Some (from_bool up)
  eval_reading (reading.Var name) = as_int (var_named s name)
  -- no event stands behind these calls
  eval_reading reading.EventValue = None
  eval_reading reading.EventDevice = None
  eval_reading reading.EventInstance = None
  eval_reading reading.EventOption = None

  unfoldable pub eval_value : Value → Option ℤ
  eval_value (Literal low high) = Some (signed64 (joined low high))
  eval_value (Reading r) = eval_reading r
  eval_value (Offset r delta) = do
    x ← eval_reading r
    Some (saturating_add_i64 x (signed32 delta))

  -- value i of the image
  abbrev pub value_at : ℕ → Option ℤ
  value_at i = do v ← value_of (record_of e.set.image values i); eval_value v

  unfoldable pub resolve_time_bound : TimeBound → Option ℕ
  resolve_time_bound (Clock hour minute) = Some (hour * 60 + minute)
  resolve_time_bound (Solar event offset) = do sun ← e.world.sun; Some (solar_of sun event offset)

  abbrev pub bound_at : ℕ → Option ℕ
  bound_at i = do b ← bound_of (record_of e.set.image bounds i); resolve_time_bound b

  -- a lamp without a level is at none, and the value is not read
  abbrev pub level_is : Option Cmp → Option ℕ → ℕ → Option Bool
  level_is cmp None v = Some false
  level_is cmp (Some level) v = do x ← value_at v; Some (compare_i64 cmp (pos level) x)

  -- an integer against a value, a text against a text; any other pairing differs
  abbrev pub compare_var : Option VarValue → Option Cmp → VarOperand → Option Bool
  compare_var None cmp x = Some (is_ne cmp)
  compare_var (Some (Text t)) cmp (operand.Text x) = Some (compare_text cmp t x)
  compare_var (Some (Text t)) cmp (operand.Value x) = Some (is_ne cmp)
  compare_var (Some (Int n)) cmp (operand.Text x) = Some (is_ne cmp)
  compare_var (Some (Int n)) cmp (operand.Value x) = do b ← value_at x; Some (compare_i64 cmp (signed64 n) b)

  abbrev pub hcl_is : Option HclTargetState → hcl.HclState → Bool
  hcl_is None state = false
  hcl_is (Some h) Enabled = h.enabled
  hcl_is (Some h) Overridden = h.overridden

  abbrev pub device_online : Option DeviceState → Bool
  device_online None = false
  device_online (Some d) = d.online

  -- of a rule that is not loaded, and of one that never fired
  abbrev pub rule_enabled : Option ℕ → Bool
  rule_enabled None = false
  rule_enabled (Some i) = is_enabled s i

  abbrev pub older_than : ℕ → Option ℕ → Bool
  older_than ms None = true
  older_than ms (Some at) = ltb ms (e.world.now - at)

  unfoldable pub last_fired_older : Option ℕ → ℕ → Bool
  last_fired_older None ms = true
  last_fired_older (Some i) ms = older_than ms (last_activation_at s i)

  unfoldable pub eval_condition : Condition → Option Bool
  eval_condition (TimeInRange start end) = do
    wall ← e.world.wall
    from ← bound_at start
    to ← bound_at end
    Some (minute_in_range wall.minutes_of_day from to)
  eval_condition (DayIn days) = do wall ← e.world.wall; Some (has_day days wall.weekday)
  eval_condition (SunIs up) = do is ← sun_is_up; Some (equal_b is up)
  eval_condition (LampIs a i on) = do l ← lamp e.world a i; Some (equal_b l.is_on on)
  eval_condition (LampLevel a i cmp v) = do l ← lamp e.world a i; level_is cmp l.level v
  eval_condition (LampCct a i cmp v) = do
    left ← eval_reading (reading.LampCct a i)
    right ← value_at v
    Some (compare_i64 cmp left right)
  eval_condition (GroupState a i state) = do g ← group e.world a i; Some (group_is state g)
  eval_condition (InputOccupancy a i k occupied) = do
    left ← eval_reading (reading.InputOccupied a i k)
    Some (equal_b (compare_i64 (Some Ne) left (pos 0)) occupied)
  eval_condition (InputLight a i k above v) = do
    left ← eval_reading (reading.InputLight a i k)
    bound ← value_at v
    Some (cond above (lt_z bound left) (lt_z left bound))
  eval_condition (HclState target state) = Some (hcl_is (hcl_target e.world target) state)
  eval_condition (DeviceOnline a i) = Some (device_online (device e.world a i))
  eval_condition (RuleEnabled rule) = Some (rule_enabled (rule_named e.set.image rule))
  eval_condition (LastFiredOlderThan rule ms) = Some (last_fired_older (rule_named e.set.image rule) ms)
  eval_condition (TimerRunning timer) = Some (present (timer_named s timer))
  eval_condition ControllerActive = Some e.world.active
  eval_condition (VarCompare name cmp x) = compare_var (var_named s name) cmp x

  -- condition i of the image
  abbrev pub condition_at : ℕ → Option Bool
  condition_at i = do c ← condition_of (record_of e.set.image conditions i); eval_condition c

-- `conditions_hold`: the first that does not hold decides
unfoldable pub conditions_hold : Env → Rest → List (Option Condition) → Option Bool
conditions_hold e s [] = Some true
conditions_hold e s (known ∷ cs) = do
  c ← known
  holds ← eval_condition e s c
  elim holds [ true ↦ conditions_hold e s cs | false ↦ Some false ]
