-- What the words of a state say: the layout of the store (model's `changing_part`), and four parts more that a call needs: how many records
-- hold a number of the store, how many were accepted, how many activations found no number of 64 bits, how many rules there are.
use Rattle.std.specs.Prelude.{◌≡◌, ◌⊎◌, Bool, true, cond, List, [], ◌∷◌, ◌++◌, map, ℕ, zero, suc, ◌+◌, ◌-◌, ◌*◌, ◌≤◌, ◌<◌, leb, length, get_or, take, drop}
use Rattle.words.specs.Saturating.{max64}
use Rattle.model.specs.Layout.{Part, fixed, counted, size_of, part_fits, up_to, zeros}
use Rattle.model.specs.Codec.{Row, wide, ◌⊗◌, maybe, pad, as_row, most, rows_at}
use Rattle.model.specs.Parts.{any, bit, variable_row, timer_row, slot_row, jump_row, pending_is}
use Rattle.model.specs.Lists.{all}
use Rattle.model.specs.State as model
use Rattle.model.specs.Store.{variable_of, text_short}
use Rattle.model.specs.World.{is_one}
use Rattle.model.specs.declared.Pending.{Pending}
use Rattle.state.specs.Cuts.{cut, sum}

-- THE PARTS ---------------------------------------------------------------------------------------------------------------------------
-- the row of a pending record, whatever the word of its trigger: inside a call the words of triggers, cycle positions and the week minute may
-- be any; what a call gives back is in range again, by the rules of the store
abbrev pub pending_row : Row Pending
pending_row = as_row pending_is (wide ⊗ (wide ⊗ (any ⊗ (any ⊗ (any ⊗ (jump_row ⊗ (any ⊗ (any ⊗ (wide ⊗ pad 1)))))))))

abbrev pub state_parts : List Part
state_parts =
    fixed 64 bit.cells
    ∷ fixed 64 (maybe wide).cells
    ∷ fixed 64 (maybe any).cells
    ∷ counted 16 variable_row.cells
    ∷ counted 16 timer_row.cells
    ∷ counted 64 slot_row.cells
    ∷ counted 32 pending_row.cells
    ∷ fixed 1 (maybe any).cells
    ∷ fixed 1 wide.cells
    ∷ fixed 1 wide.cells
    ∷ fixed 12 any.cells
    ∷ fixed 1 (up_to 32 ∷ [])
    ∷ fixed 1 wide.cells
    ∷ fixed 1 wide.cells
    ∷ fixed 1 (up_to 64 ∷ [])
    ∷ []

abbrev pub part_sizes : List ℕ
part_sizes = map size_of state_parts

-- their numbers
abbrev pub bits_part : ℕ
bits_part = 0

abbrev pub activations_part : ℕ
activations_part = 1

abbrev pub positions_part : ℕ
positions_part = 2

abbrev pub variables_part : ℕ
variables_part = 3

abbrev pub timers_part : ℕ
timers_part = 4

abbrev pub slots_part : ℕ
slots_part = 5

abbrev pub pending_part : ℕ
pending_part = 6

abbrev pub week_part : ℕ
week_part = 7

abbrev pub next_part : ℕ
next_part = 8

abbrev pub last_part : ℕ
last_part = 9

abbrev pub counters_part : ℕ
counters_part = 10

abbrev pub stored_part : ℕ
stored_part = 11

abbrev pub accepted_part : ℕ
accepted_part = 12

abbrev pub beyond_part : ℕ
beyond_part = 13

abbrev pub rules_part : ℕ
rules_part = 14

-- where part t stands, and how many words it has; the code's constants are these (`place`)
abbrev pub place_of : ℕ → ℕ
place_of t = sum (take t part_sizes)

abbrev pub words_in : ℕ → ℕ
words_in t = get_or part_sizes t 0

abbrev pub state_words : ℕ
state_words = sum part_sizes

abbrev pub part : ℕ → List ℕ → List ℕ
part t w = get_or (cut part_sizes w) t []

-- RECORDS ---------------------------------------------------------------------------------------------------------------------------------
-- a record with the number that stands at the offset that it holds
abbrev pub offset_from : ℕ → Pending → Pending
offset_from base p = record p { seq = base + p.seq }

-- the first so many hold numbers, the others offsets from the base
unfoldable pub numbered : ℕ → ℕ → List Pending → List Pending
numbered base zero ps = map (offset_from base) ps
numbered base (suc n) [] = []
numbered base (suc n) (p ∷ ps) = p ∷ numbered base n ps

-- every offset is below the number of records accepted
abbrev pub Below : ℕ → List Pending → Type 0
Below n [] = Unit
Below n (p ∷ ps) = (p.seq < n) × Below n ps

-- WHAT THE PARTS SAY ------------------------------------------------------------------------------------------------------------------------
module _ (ps : List (List ℕ)) where
  abbrev pub rules_in : ℕ
  rules_in = get_or (get_or ps rules_part []) 0 0

  abbrev pub stored_in : ℕ
  stored_in = get_or (get_or ps stored_part []) 0 0

  abbrev pub accepted_in : ℕ
  accepted_in = wide.get (get_or ps accepted_part [])

  abbrev pub base_in : ℕ
  base_in = wide.get (get_or ps next_part [])

  -- the last activation number, up to 2^64 - 1, and how many were needed beyond it
  abbrev pub last_in : ℕ
  last_in = wide.get (get_or ps last_part [])

  abbrev pub beyond_in : ℕ
  beyond_in = wide.get (get_or ps beyond_part [])

  abbrev pub records_in : List Pending
  records_in = (most 32 pending_row).get (get_or ps pending_part [])

  abbrev pub meaning_of : model.Volatile
  meaning_of =
      record {
        rest = record {
          enabled = map is_one (take rules_in (get_or ps bits_part []));
          last_activation = take rules_in (rows_at (maybe wide) 64 (get_or ps activations_part []));
          cycle_pos = take rules_in (rows_at (maybe any) 64 (get_or ps positions_part []));
          vars = map variable_of ((most 16 variable_row).get (get_or ps variables_part []));
          timers = (most 16 timer_row).get (get_or ps timers_part []);
          every = (most 64 slot_row).get (get_or ps slots_part []);
          prev_week_min = (maybe any).get (get_or ps week_part []);
          counters = get_or ps counters_part [];
        };
        pending = numbered base_in stored_in records_in;
        next = base_in + accepted_in;
        last_number = last_in + beyond_in;
      }

-- no number is needed beyond 2^64 - 1, or that one is given
abbrev pub OnlyBeyond : List (List ℕ) → Type 0
OnlyBeyond ps = (beyond_in ps ≡ 0) ⊎ (last_in ps ≡ max64)

-- nothing is kept of rules that there are not: of part p, with f words for a rule, the words behind those of n rules are 0
abbrev pub unset_from : ℕ → ℕ → List ℕ → Bool
unset_from n f p = zeros ((64 - n) * f) (drop (n * f) p)

-- each part has its shape; the stored records are some of those that stand, the others hold offsets of accepted ones; texts are numbers of
-- one word; nothing is kept of rules that there are not; and numbers are needed beyond 2^64 - 1 only behind that one
pub record SoundOf (ps : List (List ℕ)) : Type 0 where
  pub fit : (t : ℕ) → t < 15 → part_fits (get_or state_parts t (fixed 0 [])) (get_or ps t []) ≡ true
  pub stored : stored_in ps ≤ get_or (get_or ps pending_part []) 0 0
  pub offsets : Below (accepted_in ps) (drop (stored_in ps) (records_in ps))
  pub texts : all text_short ((most 16 variable_row).get (get_or ps variables_part [])) ≡ true
  pub bits : unset_from (rules_in ps) 1 (get_or ps bits_part []) ≡ true
  pub activations : unset_from (rules_in ps) 3 (get_or ps activations_part []) ≡ true
  pub positions : unset_from (rules_in ps) 2 (get_or ps positions_part []) ≡ true
  pub beyond : OnlyBeyond ps

-- WHAT THE WORDS SAY ------------------------------------------------------------------------------------------------------------------------
unfoldable pub meaning : List ℕ → model.Volatile
meaning w = meaning_of (cut part_sizes w)

-- the store's next number; how many records were accepted since; how many records hold their numbers, and how many there are; the rules
unfoldable pub base : List ℕ → ℕ
base w = base_in (cut part_sizes w)

unfoldable pub accepted : List ℕ → ℕ
accepted w = accepted_in (cut part_sizes w)

unfoldable pub stored_count : List ℕ → ℕ
stored_count w = stored_in (cut part_sizes w)

unfoldable pub pending_count : List ℕ → ℕ
pending_count w = get_or (part pending_part w) 0 0

unfoldable pub rules_of : List ℕ → ℕ
rules_of w = rules_in (cut part_sizes w)

pub record Sound (w : List ℕ) : Type 0 where
  pub long : length w ≡ state_words
  pub parts : SoundOf (cut part_sizes w)

-- w counts its numbers from the base, and says s
pub record Means (w : List ℕ) (b : ℕ) (s : model.Volatile) : Type 0 where
  pub says : meaning w ≡ s
  pub based : base w ≡ b

-- and is sound
pub record MeansSoundly (w : List ℕ) (b : ℕ) (s : model.Volatile) : Type 0 where
  pub says : meaning w ≡ s
  pub sound : Sound w
  pub based : base w ≡ b

-- w is sound, holds no offset, has a number of 64 bits for every activation, and says s: words as a store is read and written
pub record AllNumbered (w : List ℕ) (s : model.Volatile) : Type 0 where
  pub says : meaning w ≡ s
  pub sound : Sound w
  pub stored : stored_count w ≡ pending_count w
  pub none_accepted : accepted w ≡ 0
  pub last_fits : s.last_number ≤ max64

-- TABLES ------------------------------------------------------------------------------------------------------------------------------------
-- the words of a table of at most n rows
pub record Holds {A : Type 0} (n : ℕ) (r : Row A) (p : List ℕ) (l : List A) : Type 0 where
  pub words : p ≡ (most n r).put l
  pub good : (most n r).good l ≡ true

abbrev pub Counted : {A : Type 0} → ℕ → Row A → List ℕ → Type 0
Counted n r p = Holds n r p ((most n r).get p)

-- behind the others, where there is room
abbrev pub joined : {A : Type 0} → ℕ → A → List A → List A
joined n x l = cond (leb n (length l)) l (l ++ (x ∷ []))
