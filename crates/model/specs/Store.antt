-- The rules of a store, and its words: document 01, "Store".
use Rattle.std.specs.Prelude.{ℕ, zero, suc, ◌+◌, ◌-◌, ◌^◌, ◌≡◌, Bool, true, false, cond, not, ◌&&◌, ◌||◌, List, [], ◌∷◌, ◌++◌, map, leb, ltb, eqb, length, get_or, take, drop, replicate}
use Rattle.std.specs.Prelude.{Option, None, Some}
use Rattle.std.specs.Prelude.{slice_get}
use Rattle.model.specs.Lists.{◌>>=◌, all, flatten, or_else, present}
use Rattle.model.specs.Image.{budget, size_of}
use Rattle.model.specs.Rows.{rules}
use Rattle.model.specs.Rules.{rule_named}
use Rattle.model.specs.Steps.{Step, FlatStep, Primitive, Wait, Branch, After, Fail, Jump, jump_at, Point}
use Rattle.model.specs.Flat.{Flattened, flatten_rules, set_of, list_in, part_of}
use Rattle.model.specs.Load.{image_refusal}
use Rattle.model.specs.World.{is_one}
use Rattle.model.specs.State.{NamedTimer, Int, Text, Variable, EverySlot, Pending, RuleSet, Rest, Volatile, Store}
use Rattle.model.specs.Slots.{rebuild_every}
use Rattle.model.specs.Codec.{decode}
use Rattle.model.specs.Parts.{Loaded, Changing, Parts, layout}

-- PLACES AND JUMPS ----------------------------------------------------------------------------------------------------------------
abbrev pub is_after : Step → Bool
is_after (Primitive i) = false
is_after (Wait ms) = false
is_after (Branch c t e) = false
is_after (After ms) = true
is_after Fail = false

-- p places behind a step that stands at place i: inside its then-region, if it is a branch and p is below the region's size
abbrev pub jump_over : Step → ℕ → ℕ → Option Jump → Option Jump
jump_over (Primitive x) i p j = j
jump_over (Wait ms) i p j = j
jump_over (Branch c t e) i p j = cond (ltb p t) (Some (jump_at (suc i + t) (suc i + t + e))) j
jump_over (After ms) i p j = j
jump_over Fail i p j = j

-- "a jump stands with it exactly while the place is inside a then-region, and leads past the else-region": the jump of the place
-- p places behind the head of this list, which stands at place i
abbrev pub jump_from : ℕ → List Step → ℕ → Option Jump
jump_from i [] p = None
jump_from i (x ∷ xs) zero = None
jump_from i (x ∷ xs) (suc p) = jump_over x i p (jump_from (suc i) xs p)

abbrev pub same_jump : Option Jump → Option Jump → Bool
same_jump None None = true
same_jump None (Some j) = false
same_jump (Some j) None = false
same_jump (Some j) (Some k) = eqb j.at k.at && eqb j.to k.to

-- "its place lies in that list or at its end", with the jump of that place
unfoldable pub point_fits : List Step → Point → Bool
point_fits xs p = leb p.place (length xs) && same_jump p.jump (jump_from 0 xs p.place)

-- "it names one of that rule's lists": its own, or the body of an after in it
abbrev pub is_list : List FlatStep → ℕ → Bool
is_list xs zero = true
is_list xs (suc p) = or_else false (do x ← slice_get xs p; Some (is_after x.step))

-- THE RULES OF A STORE --------------------------------------------------------------------------------------------------------------
abbrev pub distinct : List ℕ → Bool
distinct [] = true
distinct (n ∷ ns) = all (λ m. not (eqb n m)) ns && distinct ns

abbrev pub in_rule : RuleSet → Pending → Option ℕ → Bool
in_rule set c None = false
in_rule set c (Some i) =
    let xs = get_or set.flat i [] in
    is_list xs c.point.list && point_fits (list_in xs c.point.list) c.point

-- its rule is loaded, its list, place and jump are right, and its budget is below B; its trigger is in range by the layout
unfoldable pub pending_fits : Option RuleSet → Pending → Bool
pending_fits None c = false
pending_fits (Some set) c = in_rule set c (rule_named set.image c.rule) && ltb c.budget (budget set.image)

-- slots without their due times
abbrev pub same_slots : List EverySlot → List EverySlot → Bool
same_slots [] [] = true
same_slots [] (y ∷ ys) = false
same_slots (x ∷ xs) [] = false
same_slots (x ∷ xs) (y ∷ ys) =
    eqb x.rule y.rule && (eqb x.place y.place && (eqb x.period y.period && same_slots xs ys))

abbrev pub passes_load : Option RuleSet → Bool
passes_load None = true
passes_load (Some set) = eqb (image_refusal set.image) 0

abbrev pub rule_count : Option RuleSet → ℕ
rule_count None = 0
rule_count (Some set) = size_of set.image rules

abbrev pub slots_of : Option RuleSet → List EverySlot
slots_of None = []
slots_of (Some set) = rebuild_every set.image [] 0

-- bits, last activations and cycle positions belong to loaded rules, one for each
abbrev pub one_for_each : ℕ → Rest → Bool
one_for_each n s = eqb (length s.enabled) n && (eqb (length s.last_activation) n && eqb (length s.cycle_pos) n)

-- the number of an activation that was begun
abbrev pub is_given : ℕ → Pending → Bool
is_given last c = leb 1 c.number && leb c.number last

unfoldable pub rules_hold : Store → Bool
rules_hold s =
    passes_load s.loaded
    && (distinct (map (λ (t : NamedTimer). t.name) s.vol.rest.timers)
    && (distinct (map (λ (v : Variable). v.name) s.vol.rest.vars)
    && (all (pending_fits s.loaded) s.vol.pending
    && (distinct (map (λ (c : Pending). c.seq) s.vol.pending)
    && (all (λ (c : Pending). ltb c.seq s.vol.next) s.vol.pending
    && (all (is_given s.vol.last_number) s.vol.pending
    && (one_for_each (rule_count s.loaded) s.vol.rest
    && same_slots s.vol.rest.every (slots_of s.loaded))))))))

-- WHAT THE PARTS SAY ----------------------------------------------------------------------------------------------------------------
-- a list, filled up to n entries
abbrev pub filled : {A : Type 0} → ℕ → A → List A → List A
filled n x xs = xs ++ replicate (n - length xs) x

abbrev pub bit_of : Bool → ℕ
bit_of true = 1
bit_of false = 0

-- the parts of the rules stand one behind the other, the first at k: where a rule's own list begins, behind its bodies, and how many
-- steps it has
abbrev pub list_rows : ℕ → List Flattened → List (ℕ × ℕ)
list_rows k [] = []
list_rows k (f ∷ fs) = let own = k + length f.bodies in (own, length f.rows) ∷ list_rows (own + length f.rows) fs

abbrev pub no_list : ℕ × ℕ
no_list = (0, 0)

abbrev pub loaded_of : Option RuleSet → Loaded
loaded_of None = record { loaded = 0; image = []; lists = replicate 64 no_list; steps = [] }
loaded_of (Some set) =
    let fs = flatten_rules set.image in
    record { loaded = 1; image = set.image; lists = filled 64 no_list (list_rows 0 fs); steps = flatten (map part_of fs) }

abbrev pub variable_row_of : Variable → ℕ × (ℕ × ℕ)
variable_row_of v = (v.name, elim v.value [ Int n ↦ (0, n) | Text t ↦ (1, t) ])

abbrev pub changing_of : Volatile → Changing
changing_of v =
    record {
      bits = filled 64 0 (map bit_of v.rest.enabled);
      activations = filled 64 None v.rest.last_activation;
      positions = filled 64 None v.rest.cycle_pos;
      variables = map variable_row_of v.rest.vars;
      timers = v.rest.timers;
      slots = v.rest.every;
      pending = v.pending;
      prev_week_min = v.rest.prev_week_min;
      next = v.next;
      last_number = v.last_number;
      counters = v.rest.counters;
    }

unfoldable pub parts_of : Store → Parts
parts_of s = record { last = s.now; set = loaded_of s.loaded; changing = changing_of s.vol }

-- and back: the flat steps are those of the image
abbrev pub set_in : Loaded → Option RuleSet
set_in l = cond (is_one l.loaded) (Some (set_of l.image (flatten_rules l.image))) None

abbrev pub variable_of : ℕ × (ℕ × ℕ) → Variable
variable_of r = record { name = r.0; value = cond (is_one r.1.0) (Text r.1.1) (Int r.1.1) }

abbrev pub volatile_in : ℕ → Changing → Volatile
volatile_in n m =
    record {
      rest = record {
        enabled = map is_one (take n m.bits);
        last_activation = take n m.activations;
        cycle_pos = take n m.positions;
        vars = map variable_of m.variables;
        timers = m.timers;
        every = m.slots;
        prev_week_min = m.prev_week_min;
        counters = m.counters;
      };
      pending = m.pending;
      next = m.next;
      last_number = m.last_number;
    }

unfoldable pub store_in : Parts → Store
store_in p =
    let set = set_in p.set in
    record { now = p.last; loaded = set; vol = volatile_in (rule_count set) p.changing }

-- WORDS THAT SAY NOTHING ARE 0 --------------------------------------------------------------------------------------------------------
abbrev pub same_pair : ℕ × ℕ → ℕ × ℕ → Bool
same_pair a b = eqb a.0 b.0 && eqb a.1 b.1

abbrev pub same_row : ℕ × (ℕ × (ℕ × ℕ)) → ℕ × (ℕ × (ℕ × ℕ)) → Bool
same_row a b = eqb a.0 b.0 && (eqb a.1.0 b.1.0 && same_pair a.1.1 b.1.1)

abbrev pub same_list : {A : Type 0} → (A → A → Bool) → List A → List A → Bool
same_list same [] [] = true
same_list same [] (y ∷ ys) = false
same_list same (x ∷ xs) [] = false
same_list same (x ∷ xs) (y ∷ ys) = same x y && same_list same xs ys

-- "the flat part is its flat form"; without a set, image and flat part are unused
abbrev pub flat_form : Loaded → Loaded → Bool
flat_form l is = same_list eqb l.image is.image && (same_list same_pair l.lists is.lists && same_list same_row l.steps is.steps)

-- "a text variable keeps its number only"
abbrev pub text_short : ℕ × (ℕ × ℕ) → Bool
text_short r = not (is_one r.1.0) || ltb r.1.1 (2 ^ 32)

-- words of rules that are not loaded
abbrev pub unused_past : ℕ → Changing → Bool
unused_past n m =
    all (λ b. eqb b 0) (drop n m.bits)
    && (all (λ a. not (present a)) (drop n m.activations) && all (λ a. not (present a)) (drop n m.positions))

unfoldable pub words_hold : Parts → Bool
words_hold p =
    let set = set_in p.set in
    flat_form p.set (loaded_of set) && (all text_short p.changing.variables && unused_past (rule_count set) p.changing)

-- READING AND WRITING -----------------------------------------------------------------------------------------------------------------
unfoldable pub parts_fit : Parts → Bool
parts_fit p = words_hold p && rules_hold (store_in p)

-- what the words of a store say; none where a rule is broken
unfoldable pub read : List ℕ → Option Store
read w = do p ← decode layout parts_fit w; Some (store_in p)

unfoldable pub write : Store → List ℕ
write s = layout.put (parts_of s)

-- a store that keeps the rules: its numbers have room in their words, its flat steps are those of its image, and the rules hold
abbrev pub FlatFormOf : Option RuleSet → Type 0
FlatFormOf None = Unit {0}
FlatFormOf (Some set) = set ≡ set_of set.image (flatten_rules set.image)

abbrev pub text_fits : Variable → Bool
text_fits v = elim v.value [ Int n ↦ true | Text t ↦ ltb t (2 ^ 32) ]

pub record Keeps (s : Store) : Type 0 where
  pub room : layout.good (parts_of s) ≡ true
  pub texts : all text_fits s.vol.rest.vars ≡ true
  pub flat : FlatFormOf s.loaded
  pub rules : rules_hold s ≡ true
