-- What a snapshot says: document 01, "Snapshot", and world.rs.
use Rattle.std.specs.Prelude.{ℕ, Bool, ◌&&◌, cond, List, map, eqb}
use Rattle.std.specs.Prelude.{Option, None, Some}
use Rattle.words.specs.Pairs.{joined}
use Rattle.model.specs.Lists.{find, up_from}
use Rattle.model.specs.Snapshot.{head_word, count_of, cell_at}
pub use Rattle.model.specs.declared.WallTime.{WallTime}
pub use Rattle.model.specs.declared.SunTimes.{SunTimes}
pub use Rattle.model.specs.declared.LampState.{LampState}
pub use Rattle.model.specs.declared.GroupState.{GroupState}
pub use Rattle.model.specs.declared.DeviceState.{DeviceState}
pub use Rattle.model.specs.declared.InputState.{InputState}
pub use Rattle.model.specs.declared.HclTargetState.{HclTargetState}

pub record World : Type 0 where
  pub now : ℕ
  pub wall : Option WallTime
  pub sun : Option SunTimes
  pub active : Bool
  pub lamps : List LampState
  pub groups : List GroupState
  pub devices : List DeviceState
  pub inputs : List InputState
  pub hcl : List HclTargetState

-- a bool, and a present word with its value
abbrev pub is_one : ℕ → Bool
is_one w = eqb w 1

abbrev pub marked : {A : Type 0} → ℕ → A → Option A
marked m a = cond (is_one m) (Some a) None

-- a row, given its words
abbrev pub lamp_of : (ℕ → ℕ) → LampState
lamp_of w =
    record { adapter_id = w 0; id = w 1; level = marked (w 2) (w 3); cct_kelvin = marked (w 4) (w 5); is_on = is_one (w 6); last_level = marked (w 7) (w 8) }

abbrev pub group_of : (ℕ → ℕ) → GroupState
group_of w = record { adapter_id = w 0; id = w 1; any_on = is_one (w 2); all_off = is_one (w 3); member_count = w 4 }

abbrev pub device_of : (ℕ → ℕ) → DeviceState
device_of w = record { adapter_id = w 0; short_address = w 1; online = is_one (w 2) }

abbrev pub input_of : (ℕ → ℕ) → InputState
input_of w =
    record {
      adapter_id = w 0;
      short_address = w 1;
      instance_number = w 2;
      occupied = marked (w 3) (w 4);
      light = marked (w 5) (w 6);
      position = marked (w 7) (w 8);
      last_event_age_ms = marked (w 9) (w 10);
    }

abbrev pub hcl_of : (ℕ → ℕ) → HclTargetState
hcl_of w = record { target = w 0; enabled = is_one (w 1); overridden = is_one (w 2) }

-- the rows of table t
abbrev pub rows_in : {A : Type 0} → List ℕ → ℕ → ((ℕ → ℕ) → A) → List A
rows_in s t row = map (λ i. row (cell_at s t i)) (up_from 0 (count_of s t))

unfoldable pub now_of : List ℕ → ℕ
now_of s = joined (head_word s 0) (head_word s 1)

unfoldable pub world_of : List ℕ → World
world_of s =
    record {
      now = now_of s;
      wall = marked (head_word s 2) (record { weekday = head_word s 3; minutes_of_day = head_word s 4 });
      sun = marked (head_word s 5) (record { sunrise_min = head_word s 6; sunset_min = head_word s 7 });
      active = is_one (head_word s 8);
      lamps = rows_in s 0 lamp_of;
      groups = rows_in s 1 group_of;
      devices = rows_in s 2 device_of;
      inputs = rows_in s 3 input_of;
      hcl = rows_in s 4 hcl_of;
    }

-- the row of an address
module _ (w : World) where
  unfoldable pub lamp : ℕ → ℕ → Option LampState
  lamp a i = find (λ (l : LampState). eqb l.adapter_id a && eqb l.id i) w.lamps

  unfoldable pub group : ℕ → ℕ → Option GroupState
  group a i = find (λ (g : GroupState). eqb g.adapter_id a && eqb g.id i) w.groups

  unfoldable pub device : ℕ → ℕ → Option DeviceState
  device a i = find (λ (d : DeviceState). eqb d.adapter_id a && eqb d.short_address i) w.devices

  unfoldable pub input : ℕ → ℕ → ℕ → Option InputState
  input a i k = find (λ (n : InputState). eqb n.adapter_id a && (eqb n.short_address i && eqb n.instance_number k)) w.inputs

  unfoldable pub hcl_target : ℕ → Option HclTargetState
  hcl_target t = find (λ (h : HclTargetState). eqb h.target t) w.hcl
