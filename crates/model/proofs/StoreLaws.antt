-- Reading and writing a store: what was written is read back, for every store that keeps the rules; and a store that reads is what
-- writing gives.
use mathlib.Core.Path.{◌≡◌, refl, sym, ap, ◌∙◌}
use mathlib.Core.Bool.{Bool, true, false, ◌&&◌, not, cond, false≢true}
use mathlib.Core.List.{List, [], ◌∷◌, ◌++◌, map}
use Rattle.std.specs.Prelude.{Option, None, Some}
use Rattle.std.proofs.lemmas.Option.{none-some, same_Some}
use Prim.Native.Nat.{ℕ, zero, suc, ◌+◌, ◌-◌, ◌^◌}
use native.Mathlib.Omega.{arith}
use lib.Dec.{leb, ltb, eqb}
use lib.ListN.{length, take, drop, replicate, length-append, length-map, take-append-drop}
use lib.Seq.{take_at, drop_at}
use borrow.Author.Tests.{leb-true, eqb-true, eq-eqb}
use Rattle.std.proofs.lemmas.Bool.{and_from, and_parts}
use Rattle.model.specs.Lists.{all, present, ◌>>=◌}
use Rattle.model.specs.Flat.{Flattened, flatten_rules, set_of}
use Rattle.model.specs.World.{is_one}
use Rattle.model.specs.State.{NamedTimer, Variable, VarValue, Int, Text, Pending, RuleSet, Volatile, Store}
use Rattle.model.specs.Codec.{all_good, decode, word, wide, maybe}
use Rattle.model.specs.Parts.{Loaded, Changing, Parts, layout, loaded_part, changing_part, bit, variable_row}
use Rattle.model.specs.Store.{filled, bit_of, loaded_of, variable_row_of, changing_of, parts_of, set_in, variable_of, volatile_in, store_in, list_rows, same_pair, same_row, same_list, flat_form, text_short, unused_past, words_hold, parts_fit, rule_count, one_for_each, is_given, passes_load, distinct, pending_fits, same_slots, slots_of, rules_hold, read, write, FlatFormOf, text_fits, Keeps}
use Rattle.model.proofs.CodecLaws.{Holds, decode-put, put-decode}
use Rattle.model.proofs.PartsLaws.{layout-laws}

-- LISTS ---------------------------------------------------------------------------------------------------------------------------
-- a list whose entries from n on are all x
module _ {A : Type 0} (x : A) (is : A → Bool) (sure : (a : A) → is a ≡ true → a ≡ x) (here : is x ≡ true) where
  only : (l : List A) → all is l ≡ true → l ≡ replicate (length l) x
  only [] e = refl
  only (a ∷ l) e = let (p, q) = and_parts _ _ e in rw (sure a p) (ap (λ t. x ∷ t) (only l q))

  all_same : (m : ℕ) → all is (replicate m x) ≡ true
  all_same zero = refl
  all_same (suc m) = and_from _ _ here (all_same m)

  fill-take : (m n : ℕ) (l : List A) → length l ≡ m → all is (drop n l) ≡ true → filled m x (take n l) ≡ l
  fill-take m n l e z =
      let s = ap length (take-append-drop n l) in
      let t : length (take n l) + length (drop n l) ≡ m = sym (length-append (take n l) (drop n l)) ∙ s ∙ e in
      let d : m - length (take n l) ≡ length (drop n l) = omega arith in
      ap (λ (k : ℕ). take n l ++ replicate k x) d ∙ ap (λ r. take n l ++ r) (sym (only (drop n l) z)) ∙ take-append-drop n l

  take-fill : (m n : ℕ) (l : List A) → length l ≡ n → take n (filled m x l) ≡ l
  take-fill m n l e = take_at l (replicate (m - length l) x) n e

  drop-fill : (m n : ℕ) (l : List A) → length l ≡ n → all is (drop n (filled m x l)) ≡ true
  drop-fill m n l e = rw (drop_at l (replicate (m - length l) x) n e) (all_same (m - length l))

-- each list of a set has one row
pub rows-length : (k : ℕ) (fs : List Flattened) → length (list_rows k fs) ≡ length fs
rows-length k [] = refl
rows-length k (f ∷ fs) = ap suc (rows-length (k + length f.bodies + length f.rows) fs)

-- SAMENESS ------------------------------------------------------------------------------------------------------------------------
module _ {A : Type 0} (same : A → A → Bool) where
  pub same-list : ((a b : A) → same a b ≡ true → a ≡ b) → (l r : List A) → same_list same l r ≡ true → l ≡ r
  same-list sure [] [] e = refl
  same-list sure [] (y ∷ r) e = absurd (false≢true e)
  same-list sure (x ∷ l) [] e = absurd (false≢true e)
  same-list sure (x ∷ l) (y ∷ r) e = let (p, q) = and_parts _ _ e in rw (sure x y p) (ap (λ t. y ∷ t) (same-list sure l r q))

  list_same : ((a : A) → same a a ≡ true) → (l : List A) → same_list same l l ≡ true
  list_same r [] = refl
  list_same r (x ∷ l) = and_from _ _ (r x) (list_same r l)

pub same-pair : (a b : ℕ × ℕ) → same_pair a b ≡ true → a ≡ b
same-pair (a, b) (c, d) e = let (p, q) = and_parts _ _ e in rw (eqb-true a c p, eqb-true b d q)

pair_same : (a : ℕ × ℕ) → same_pair a a ≡ true
pair_same (a, b) = and_from _ _ (eq-eqb a a refl) (eq-eqb b b refl)

pub same_row_lem : (a b : ℕ × (ℕ × (ℕ × ℕ))) → same_row a b ≡ true → a ≡ b
same_row_lem (a, (b, c)) (d, (e, f)) h =
    let (p, q) = and_parts _ _ h in
    let (r, s) = and_parts _ _ q in
    rw (eqb-true a d p, eqb-true b e r, same-pair c f s)

row_same : (a : ℕ × (ℕ × (ℕ × ℕ))) → same_row a a ≡ true
row_same (a, (b, c)) = and_from _ _ (eq-eqb a a refl) (and_from _ _ (eq-eqb b b refl) (pair_same c))

number_same : (a : ℕ) → eqb a a ≡ true
number_same a = eq-eqb a a refl

-- BITS, OPTIONS, VARIABLES ----------------------------------------------------------------------------------------------------------
none_only : {A : Type 0} (a : Option A) → not (present a) ≡ true → a ≡ None
none_only None e = refl
none_only (Some a) e = absurd (false≢true e)

pub bit-back : (b : ℕ) → leb b 1 ≡ true → bit_of (is_one b) ≡ b
bit-back zero e = refl
bit-back (suc zero) e = refl
bit-back (suc (suc b)) e = let l = leb-true (suc (suc b)) 1 e in absurd (omega arith)

pub bits_back : (l : List ℕ) → all_good bit l ≡ true → map bit_of (map is_one l) ≡ l
unfolding all_good
bits_back [] e = refl
bits_back (b ∷ l) e = let (p, q) = and_parts _ _ e in rw (bit-back b p) (ap (λ t. b ∷ t) (bits_back l q))

good-take : (n : ℕ) (l : List ℕ) → all_good bit l ≡ true → all_good bit (take n l) ≡ true
unfolding all_good
good-take zero l e = refl
good-take (suc n) [] e = refl
good-take (suc n) (b ∷ l) e = let (p, q) = and_parts (leb b 1) (all_good bit l) e in and_from (leb b 1) _ p (good-take n l q)

bools-back : (l : List Bool) → map is_one (map bit_of l) ≡ l
bools-back [] = refl
bools-back (true ∷ l) = ap (λ t. true ∷ t) (bools-back l)
bools-back (false ∷ l) = ap (λ t. false ∷ t) (bools-back l)

pub row_back : (r : ℕ × (ℕ × ℕ)) → leb r.1.0 1 ≡ true → variable_row_of (variable_of r) ≡ r
row_back (n, (zero, v)) e = refl
row_back (n, (suc zero, v)) e = refl
row_back (n, (suc (suc t), v)) e = let l = leb-true (suc (suc t)) 1 e in absurd (omega arith)

pub rows_back : (l : List (ℕ × (ℕ × ℕ))) → all_good variable_row l ≡ true → map variable_row_of (map variable_of l) ≡ l
unfolding all_good
rows_back [] e = refl
rows_back (r ∷ l) e =
    let (p, q) = and_parts (variable_row.good r) (all_good variable_row l) e in
    let (_, t) = and_parts (leb r.0 4294967295) (leb r.1.0 1 && ltb r.1.1 (2 ^ 64)) p in
    let (u, _) = and_parts (leb r.1.0 1) (ltb r.1.1 (2 ^ 64)) t in
    rw (row_back r u) (ap (λ t. r ∷ t) (rows_back l q))

variable-back : (v : Variable) → variable_of (variable_row_of v) ≡ v
variable-back v = go v v.value refl
  where
    go : (v : Variable) (x : VarValue) → v.value ≡ x → variable_of (variable_row_of v) ≡ v
    go v (Int n) e = rw e refl
    go v (Text t) e = rw e refl

variables-back : (l : List Variable) → map variable_of (map variable_row_of l) ≡ l
variables-back [] = refl
variables-back (v ∷ l) = rw (variable-back v) (ap (λ t. v ∷ t) (variables-back l))

-- THE PARTS OF WHAT THE PARTS SAY ---------------------------------------------------------------------------------------------------
-- `flat_form` compares all but the loaded word, which is 0 or 1
module _ (l : Loaded) (b : leb l.loaded 1 ≡ true) where
  word_back : (n : ℕ) → l.loaded ≡ n → (loaded_of (set_in l)).loaded ≡ l.loaded
  word_back zero e = rw e refl
  word_back (suc zero) e = rw e refl
  word_back (suc (suc n)) e = let h = leb-true l.loaded 1 b in absurd (omega (arith, e))

  loaded-back : flat_form l (loaded_of (set_in l)) ≡ true → loaded_of (set_in l) ≡ l
  loaded-back f =
      let is = loaded_of (set_in l) in
      let (i, r) = and_parts (same_list eqb l.image is.image) (same_list same_pair l.lists is.lists && same_list same_row l.steps is.steps) f in
      let (a, c) = and_parts (same_list same_pair l.lists is.lists) (same_list same_row l.steps is.steps) r in
      let image = same-list eqb eqb-true l.image is.image i in
      let lists = same-list same_pair same-pair l.lists is.lists a in
      let steps = same-list same_row same_row_lem l.steps is.steps c in
      let word = word_back l.loaded refl in
      λ j. record { loaded = word j; image = sym image j; lists = sym lists j; steps = sym steps j }

-- what the layout says of a part's numbers
module _ (p : Parts) (g : layout.good p ≡ true) where
  good-set : loaded_part.good p.set ≡ true
  unfolding layout
  good-set = (and_parts (loaded_part.good p.set) _ (and_parts (ltb p.last (2 ^ 64)) _ g).1).0

  good-changing : changing_part.good p.changing ≡ true
  unfolding layout
  good-changing = (and_parts (changing_part.good p.changing) true (and_parts (loaded_part.good p.set) _ (and_parts (ltb p.last (2 ^ 64)) _ g).1).1).0

loaded-bit : (l : Loaded) → loaded_part.good l ≡ true → leb l.loaded 1 ≡ true
unfolding loaded_part
loaded-bit l g = (and_parts (leb l.loaded 1) _ g).0

module _ (m : Changing) (g : changing_part.good m ≡ true) where
  good-bits : (length m.bits ≡ 64) × (all_good bit m.bits ≡ true)
  unfolding changing_part
  good-bits =
      let (a, _) = and_parts (eqb (length m.bits) 64 && all_good bit m.bits) _ g in
      let (b, c) = and_parts (eqb (length m.bits) 64) (all_good bit m.bits) a in
      (eqb-true _ _ b, c)

  long-activations : length m.activations ≡ 64
  unfolding changing_part
  long-activations =
      let (_, r) = and_parts (eqb (length m.bits) 64 && all_good bit m.bits) _ g in
      let (a, _) = and_parts (eqb (length m.activations) 64 && all_good (maybe wide) m.activations) _ r in
      eqb-true _ _ (and_parts (eqb (length m.activations) 64) _ a).0

  rest_of : (eqb (length m.positions) 64 && all_good (maybe (word 15)) m.positions ≡ true) × (all_good variable_row m.variables ≡ true)
  unfolding changing_part
  rest_of =
      let (_, r) = and_parts (eqb (length m.bits) 64 && all_good bit m.bits) _ g in
      let (_, t) = and_parts (eqb (length m.activations) 64 && all_good (maybe wide) m.activations) _ r in
      let (p, u) = and_parts (eqb (length m.positions) 64 && all_good (maybe (word 15)) m.positions) _ t in
      let (v, _) = and_parts (leb (length m.variables) 16 && all_good variable_row m.variables) _ u in
      (p, (and_parts (leb (length m.variables) 16) (all_good variable_row m.variables) v).1)

  long-positions : length m.positions ≡ 64
  long-positions = eqb-true _ _ (and_parts (eqb (length m.positions) 64) (all_good (maybe (word 15)) m.positions) rest_of.0).0

  changing-back : (n : ℕ) → unused_past n m ≡ true → changing_of (volatile_in n m) ≡ m
  changing-back n u =
      let (b, r) = and_parts (all (λ b. eqb b 0) (drop n m.bits)) _ u in
      let (a, c) = and_parts (all (λ a. not (present a)) (drop n m.activations)) (all (λ a. not (present a)) (drop n m.positions)) r in
      let bits : filled 64 0 (map bit_of (map is_one (take n m.bits))) ≡ m.bits =
      ap (filled 64 0) (bits_back (take n m.bits) (good-take n m.bits good-bits.1))
      ∙ fill-take 0 (λ b. eqb b 0) (λ b e. eqb-true b 0 e) refl 64 n m.bits good-bits.0 b in
      let activations = fill-take None (λ a. not (present a)) none_only refl 64 n m.activations long-activations a in
      let positions = fill-take None (λ a. not (present a)) none_only refl 64 n m.positions long-positions c in
      let variables = rows_back m.variables rest_of.1 in
      λ j.
      record {
        bits = bits j;
        activations = activations j;
        positions = positions j;
        variables = variables j;
        timers = m.timers;
        slots = m.slots;
        pending = m.pending;
        prev_week_min = m.prev_week_min;
        next = m.next;
        last_number = m.last_number;
        counters = m.counters;
      }

pub parts-back : (p : Parts) → layout.good p ≡ true → words_hold p ≡ true → parts_of (store_in p) ≡ p
unfolding parts_of store_in words_hold
parts-back p g w =
    let set = set_in p.set in
    let (f, r) = and_parts (flat_form p.set (loaded_of set)) (all text_short p.changing.variables && unused_past (rule_count set) p.changing) w in
    let (_, u) = and_parts (all text_short p.changing.variables) (unused_past (rule_count set) p.changing) r in
    let l = loaded-back p.set (loaded-bit p.set (good-set p g)) f in
    let c = changing-back p.changing (good-changing p g) (rule_count set) u in
    λ j. record { last = p.last; set = l j; changing = c j }

-- WHAT THE PARTS OF A STORE SAY -------------------------------------------------------------------------------------------------------
set_back : (o : Option RuleSet) → FlatFormOf o → set_in (loaded_of o) ≡ o
set_back None f = refl
set_back (Some set) f = ap Some (sym f)

form-refl : (l : Loaded) → flat_form l l ≡ true
form-refl l = and_from _ _ (list_same eqb number_same l.image) (and_from _ _ (list_same same_pair pair_same l.lists) (list_same same_row row_same l.steps))

short_row : (v : Variable) (x : VarValue) → v.value ≡ x → text_fits v ≡ true → text_short (variable_row_of v) ≡ true
short_row v (Int n) e t = rw e refl
short_row v (Text n) e t = rw e (rw e at t)

texts-short : (l : List Variable) → all text_fits l ≡ true → all text_short (map variable_row_of l) ≡ true
texts-short [] e = refl
texts-short (v ∷ l) e = let (t, r) = and_parts (text_fits v) (all text_fits l) e in and_from _ _ (short_row v v.value refl t) (texts-short l r)

fit_row : (r : ℕ × (ℕ × ℕ)) (b : Bool) → is_one r.1.0 ≡ b → text_short r ≡ true → text_fits (variable_of r) ≡ true
fit_row r true e t = rw e (rw e at t)
fit_row r false e t = rw e refl

texts-fit : (l : List (ℕ × (ℕ × ℕ))) → all text_short l ≡ true → all text_fits (map variable_of l) ≡ true
texts-fit [] e = refl
texts-fit (r ∷ l) e = let (t, q) = and_parts (text_short r) (all text_short l) e in and_from _ _ (fit_row r (is_one r.1.0) refl t) (texts-fit l q)

module _ (n : ℕ) (v : Volatile) (o : one_for_each n v.rest ≡ true) where
  lengths : (length v.rest.enabled ≡ n) × ((length v.rest.last_activation ≡ n) × (length v.rest.cycle_pos ≡ n))
  lengths =
      let (a, r) = and_parts (eqb (length v.rest.enabled) n) _ o in
      let (b, c) = and_parts (eqb (length v.rest.last_activation) n) (eqb (length v.rest.cycle_pos) n) r in
      (eqb-true _ _ a, (eqb-true _ _ b, eqb-true _ _ c))

  volatile-back : volatile_in n (changing_of v) ≡ v
  volatile-back =
      let (a, (b, c)) = lengths in
      let bits = ap (map is_one) (take-fill 0 (λ b. eqb b 0) (λ b e. eqb-true b 0 e) refl 64 n (map bit_of v.rest.enabled) (length-map v.rest.enabled bit_of ∙ a)) ∙ bools-back v.rest.enabled in
      let activations = take-fill None (λ a. not (present a)) none_only refl 64 n v.rest.last_activation b in
      let positions = take-fill None (λ a. not (present a)) none_only refl 64 n v.rest.cycle_pos c in
      let variables = variables-back v.rest.vars in
      λ j.
      record {
        rest = record {
          enabled = bits j;
          last_activation = activations j;
          cycle_pos = positions j;
          vars = variables j;
          timers = v.rest.timers;
          every = v.rest.every;
          prev_week_min = v.rest.prev_week_min;
          counters = v.rest.counters;
        };
        pending = v.pending;
        next = v.next;
        last_number = v.last_number;
      }

  unused-zero : unused_past n (changing_of v) ≡ true
  unused-zero =
      let (a, (b, c)) = lengths in
      and_from _ _ (drop-fill 0 (λ b. eqb b 0) (λ b e. eqb-true b 0 e) refl 64 n (map bit_of v.rest.enabled) (length-map v.rest.enabled bit_of ∙ a))
      (and_from _ _ (drop-fill None (λ a. not (present a)) none_only refl 64 n v.rest.last_activation b)
      (drop-fill None (λ a. not (present a)) none_only refl 64 n v.rest.cycle_pos c))

one-for-each : (s : Store) → rules_hold s ≡ true → one_for_each (rule_count s.loaded) s.vol.rest ≡ true
unfolding rules_hold
one-for-each s h =
    let (_, a) = and_parts (passes_load s.loaded) _ h in
    let (_, b) = and_parts (distinct (map (λ (t : NamedTimer). t.name) s.vol.rest.timers)) _ a in
    let (_, c) = and_parts (distinct (map (λ (v : Variable). v.name) s.vol.rest.vars)) _ b in
    let (_, d) = and_parts (all (pending_fits s.loaded) s.vol.pending) _ c in
    let (_, e) = and_parts (distinct (map (λ (c : Pending). c.seq) s.vol.pending)) _ d in
    let (_, f) = and_parts (all (λ (c : Pending). ltb c.seq s.vol.next) s.vol.pending) _ e in
    let (_, g) = and_parts (all (is_given s.vol.last_number) s.vol.pending) _ f in
    (and_parts (one_for_each (rule_count s.loaded) s.vol.rest) (same_slots s.vol.rest.every (slots_of s.loaded)) g).0

pub store-back : (s : Store) → Keeps s → store_in (parts_of s) ≡ s
unfolding store_in parts_of
store-back s k =
    let l = set_back s.loaded k.flat in
    let v = volatile-back (rule_count s.loaded) s.vol (one-for-each s k.rules) in
    let w : volatile_in (rule_count (set_in (loaded_of s.loaded))) (changing_of s.vol) ≡ s.vol = ap (λ o. volatile_in (rule_count o) (changing_of s.vol)) l ∙ v in
    λ j. record { now = s.now; loaded = l j; vol = w j }

words-hold : (s : Store) → Keeps s → words_hold (parts_of s) ≡ true
unfolding words_hold parts_of
words-hold s k =
    let l = set_back s.loaded k.flat in
    let f : flat_form (loaded_of s.loaded) (loaded_of (set_in (loaded_of s.loaded))) ≡ true =
    ap (λ o. flat_form (loaded_of s.loaded) (loaded_of o)) l ∙ form-refl (loaded_of s.loaded) in
    let u : unused_past (rule_count (set_in (loaded_of s.loaded))) (changing_of s.vol) ≡ true =
    ap (λ o. unused_past (rule_count o) (changing_of s.vol)) l ∙ unused-zero (rule_count s.loaded) s.vol (one-for-each s k.rules) in
    and_from _ _ f (and_from _ _ (texts-short s.vol.rest.vars k.texts) u)

-- READING AND WRITING -----------------------------------------------------------------------------------------------------------------
pub read-write : (s : Store) → Keeps s → read (write s) ≡ Some s
unfolding read write parts_fit
read-write s k =
    let b = store-back s k in
    let r : rules_hold (store_in (parts_of s)) ≡ true = ap rules_hold b ∙ k.rules in
    let d = decode-put layout layout-laws parts_fit (parts_of s) k.room (and_from _ _ (words-hold s k) r) in
    rw d (ap Some b)

-- a store that reads
pub record Reads (w : List ℕ) (s : Store) : Type 0 where
  pub written : write s ≡ w
  pub keeps : Keeps s

flat-form : (l : Loaded) → FlatFormOf (set_in l)
unfolding set_of
flat-form l = go (is_one l.loaded)
  where
    go : (b : Bool) → FlatFormOf (cond b (Some (set_of l.image (flatten_rules l.image))) None)
    go true = refl
    go false = tt

parts-read : (w : List ℕ) (p : Parts) → Holds layout layout-laws parts_fit w p → Reads w (store_in p)
unfolding write parts_fit words_hold
parts-read w p h =
    let (a, r) = and_parts (words_hold p) (rules_hold (store_in p)) h.met in
    let b = parts-back p h.good a in
    let set = set_in p.set in
    let (_, c) = and_parts (flat_form p.set (loaded_of set)) (all text_short p.changing.variables && unused_past (rule_count set) p.changing) a in
    let (t, _) = and_parts (all text_short p.changing.variables) (unused_past (rule_count set) p.changing) c in
    record {
      written = ap layout.put b ∙ h.put_back;
      keeps =
          record {
            room = ap layout.good b ∙ h.good;
            texts = unfold store_in in texts-fit p.changing.variables t;
            flat = unfold store_in in flat-form p.set;
            rules = r;
          };
    }

pub write_read : (w : List ℕ) (s : Store) → read w ≡ Some s → Reads w s
unfolding read
write_read w s e = go (decode layout parts_fit w) refl e
  where
    go : (o : Option Parts) → decode layout parts_fit w ≡ o → (o >>= (λ p. Some (store_in p))) ≡ Some s → Reads w s
    go None d e = absurd (none-some _ e)
    go (Some p) d e = rw (same_Some _ _ e) at (parts-read w p (put-decode layout layout-laws parts_fit w p d))
