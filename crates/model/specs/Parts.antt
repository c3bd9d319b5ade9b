-- The parts of a store, in order: document 01, "Store". Places, layout and size are computed from this; docs/STORE.md lists the places.
use Rattle.std.specs.Prelude.{refl, List, ℕ}
use Rattle.std.specs.Prelude.{Option}
use Rattle.model.specs.Codec.{Row, word, wide, ◌⊗◌, maybe, pad, Same, as_row, Codec, one, all, most, unused, ◌then◌, as_parts}
use Rattle.model.specs.Steps.{Jump, jump_at}
use Rattle.model.specs.State.{NamedTimer, EverySlot, Pending}

-- ROWS ----------------------------------------------------------------------------------------------------------------------------
abbrev pub any : Row ℕ
any = word 4294967295

abbrev pub bit : Row ℕ
bit = word 1

-- where a rule's own list begins in the flat part, and how many steps it has
abbrev pub list_row : Row (ℕ × ℕ)
list_row = any ⊗ any

-- a flat step's four words
abbrev pub step_row : Row (ℕ × (ℕ × (ℕ × ℕ)))
step_row = any ⊗ (any ⊗ (any ⊗ any))

-- name, tag (0 integer, 1 text), and the integer's bits or the text's number
abbrev pub variable_row : Row (ℕ × (ℕ × ℕ))
variable_row = any ⊗ (bit ⊗ wide)

-- name, due time
abbrev pub timer_is : Same (ℕ × ℕ) NamedTimer
timer_is = record { to = λ x. record { name = x.0; due = x.1 }; from = λ t. (t.name, t.due); there = λ t. refl; back = λ x. refl }

abbrev pub timer_row : Row NamedTimer
timer_row = as_row timer_is (any ⊗ wide)

-- rule, place among the rule's triggers, period, due time
abbrev pub slot_is : Same (ℕ × (ℕ × (ℕ × ℕ))) EverySlot
slot_is =
    record {
      to = λ x. record { rule = x.0; place = x.1.0; period = x.1.1.0; due = x.1.1.1 };
      from = λ s. (s.rule, (s.place, (s.period, s.due)));
      there = λ s. refl;
      back = λ x. refl;
    }

abbrev pub slot_row : Row EverySlot
slot_row = as_row slot_is (any ⊗ (any ⊗ (any ⊗ wide)))

-- where it is taken, where it leads
abbrev pub jump_is : Same (ℕ × ℕ) Jump
jump_is = record { to = λ j. jump_at j.0 j.1; from = λ j. (j.at, j.to); there = λ j. refl; back = λ j. refl }

-- mark, jump
abbrev pub jump_row : Row (Option Jump)
jump_row = maybe (as_row jump_is (any ⊗ any))

-- sequence number, due time, rule, list, place, jump, budget, trigger, activation number; its event word is 0
abbrev pub pending_is : Same (ℕ × (ℕ × (ℕ × (ℕ × (ℕ × (Option Jump × (ℕ × (ℕ × (ℕ × Unit {0}))))))))) Pending
pending_is =
    record {
      to =
          λ x.
          record {
            rule = x.1.1.0;
            point = record { list = x.1.1.1.0; place = x.1.1.1.1.0; jump = x.1.1.1.1.1.0 };
            due = x.1.0;
            budget = x.1.1.1.1.1.1.0;
            trigger = x.1.1.1.1.1.1.1.0;
            seq = x.0;
            number = x.1.1.1.1.1.1.1.1.0;
          };
      from =
          λ p.
          (p.seq, (p.due, (p.rule, (p.point.list, (p.point.place, (p.point.jump, (p.budget, (p.trigger, (p.number, tt)))))))));
      there = λ p. refl;
      back = λ x. refl;
    }

abbrev pub pending_row : Row Pending
pending_row = as_row pending_is (wide ⊗ (wide ⊗ (any ⊗ (any ⊗ (any ⊗ (jump_row ⊗ (any ⊗ (word 4 ⊗ (wide ⊗ pad 1)))))))))

-- PARTS ---------------------------------------------------------------------------------------------------------------------------
-- the loaded word, the image, the rules' lists and the flat steps
pub record Loaded : Type 0 where
  pub loaded : ℕ
  pub image : List ℕ
  pub lists : List (ℕ × ℕ)
  pub steps : List (ℕ × (ℕ × (ℕ × ℕ)))

-- what ticks and runs change
pub record Changing : Type 0 where
  pub bits : List ℕ
  pub activations : List (Option ℕ)
  pub positions : List (Option ℕ)
  pub variables : List (ℕ × (ℕ × ℕ))
  pub timers : List NamedTimer
  pub slots : List EverySlot
  pub pending : List Pending
  pub prev_week_min : Option ℕ
  pub next : ℕ
  pub last_number : ℕ
  pub counters : List ℕ

pub record Parts : Type 0 where
  pub last : ℕ
  pub set : Loaded
  pub changing : Changing

abbrev pub loaded_is : Same (ℕ × (List ℕ × (List (ℕ × ℕ) × List (ℕ × (ℕ × (ℕ × ℕ)))))) Loaded
loaded_is =
    record {
      to = λ x. record { loaded = x.0; image = x.1.0; lists = x.1.1.0; steps = x.1.1.1 };
      from = λ s. (s.loaded, (s.image, (s.lists, s.steps)));
      there = λ s. refl;
      back = λ x. refl;
    }

unfoldable pub loaded_part : Codec Loaded
loaded_part = as_parts loaded_is (one bit then (most 4096 any then (all 64 list_row then most 2048 step_row)))

abbrev pub changing_is : Same (List ℕ × (List (Option ℕ) × (List (Option ℕ) × (List (ℕ × (ℕ × ℕ)) × (List NamedTimer × (List EverySlot × (List Pending × (Option ℕ × (ℕ × (ℕ × List ℕ)))))))))) Changing
changing_is =
    record {
      to =
          λ x.
          record {
            bits = x.0;
            activations = x.1.0;
            positions = x.1.1.0;
            variables = x.1.1.1.0;
            timers = x.1.1.1.1.0;
            slots = x.1.1.1.1.1.0;
            pending = x.1.1.1.1.1.1.0;
            prev_week_min = x.1.1.1.1.1.1.1.0;
            next = x.1.1.1.1.1.1.1.1.0;
            last_number = x.1.1.1.1.1.1.1.1.1.0;
            counters = x.1.1.1.1.1.1.1.1.1.1;
          };
      from =
          λ m.
          (m.bits, (m.activations, (m.positions, (m.variables, (m.timers, (m.slots, (m.pending, (m.prev_week_min, (m.next, (m.last_number, m.counters))))))))));
      there = λ m. refl;
      back = λ x. refl;
    }

unfoldable pub changing_part : Codec Changing
changing_part =
    as_parts changing_is
    (all 64 bit
    then (all 64 (maybe wide)
    then (all 64 (maybe (word 15))
    then (most 16 variable_row
    then (most 16 timer_row
    then (most 64 slot_row
    then (most 32 pending_row
    then (one (maybe (word 10079))
    then (one wide
    then (one wide
    then all 12 any))))))))))

abbrev pub parts_is : Same (ℕ × (Loaded × (Changing × Unit {0}))) Parts
parts_is =
    record {
      to = λ x. record { last = x.0; set = x.1.0; changing = x.1.1.0 };
      from = λ s. (s.last, (s.set, (s.changing, tt)));
      there = λ s. refl;
      back = λ x. refl;
    }

-- 16,384 words: the last 2,645 are unused
unfoldable pub layout : Codec Parts
layout = as_parts parts_is (one wide then (loaded_part then (changing_part then unused 2645)))
