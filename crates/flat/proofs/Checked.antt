-- What the checks of load say of the tables that flattening reads.
use mathlib.Core.Path.{◌≡◌, refl, sym, ap, ◌∙◌}
use mathlib.Core.Bool.{Bool, true, false, ◌||◌, cond}
use mathlib.Core.List.{List, [], ◌∷◌, map}
use Rattle.std.specs.Prelude.{Option, Some}
use Prim.Native.Nat.{ℕ, zero, suc, ◌+◌, ◌*◌, ◌-◌, ◌/◌, ◌≤◌, ◌<◌}
use native.Mathlib.Nat.{mul_comm, add-zero}
use native.Mathlib.Omega.{arith}
use native.Mathlib.Decide.{dec_le}
use borrow.Author.Tests.{lt-ltb, le-ltb, leb-true, ltb-true, ne_eqb}
use lib.Dec.{leb, ltb, eqb}
use lib.ListN.{length, drop, get_or, length-drop}
use lib.Seq.{length-take-le, get_or-take, get_or-drop}
use Rattle.std.proofs.lemmas.Bool.{and_parts}
use Rattle.model.specs.declared.Record.{Record}
use Rattle.model.specs.declared.Field.TheVariants.{Span, Nested}
use Rattle.model.specs.declared.FlowAction.TheVariants.{Wait, After, Call, Repeat, Conditional, Plain}
use Rattle.model.specs.Lists.{find, up_from}
use Rattle.model.specs.Rows.{rules, blocks, actions, field_of}
use Rattle.model.specs.Image.{width_of, image_sized, trailer, call_depth, repeat_limit, limits_fit, limit_fits, first_of, size_of, table_of, word_at, leads, word_passes, record_passes, table_passes, tables_pass}
use Rattle.model.specs.Rules.{record_in, flow_of}
use Rattle.model.specs.Flat.{block_named, flatten_rule, flatten_rules}
use Rattle.model.proofs.Bools as bools
use Rattle.model.proofs.ImageLaws.{table-follows, starts-inside}
use Rattle.flat.specs.Outcome.{Behind, NestedIn, BlockIn, action_in}
use Rattle.flat.specs.Load.{Checked, CheckedTables, rule_at, rules_up_to, flatten_tables}

-- A LIST OF ACTIONS, AS A RECORD HOLDS IT -------------------------------------------------------------------------------------------
or-behind : (next i w : ℕ) → eqb next 0 || ltb i w ≡ true → 0 < next → i < w
or-behind next i w e h =
    let n : next ≡ 0 → ⊥ = λ q. omega arith in
    ltb-true i w (rw (ne_eqb next 0 n) at e)

pub behind : (img : List ℕ) (i w next : ℕ) → leads img i Nested w next ≡ true → Behind (size_of img actions) i w next
unfolding leads
behind img i w next e =
    let b = and_parts (leb (w + next) (size_of img actions)) (eqb next 0 || ltb i w) e in
    record { inside = leb-true (w + next) (size_of img actions) b.0; behind = or-behind next i w b.1 }

pub spanned : (img : List ℕ) (i w next : ℕ) → leads img i (Span actions) w next ≡ true → w + next ≤ size_of img actions
unfolding leads
spanned img i w next e = leb-true (w + next) (size_of img actions) e

-- what an action's record must say of its lists
module _ (r : Record) (n i : ℕ)
    (after : r.kind ≡ 24 → Behind n i r.b r.c)
    (repeat : r.kind ≡ 26 → Behind n i r.b r.c)
    (conditional : r.kind ≡ 27 → Behind n i r.b r.c × Behind n i r.d r.e) where
  nested-at : (m : ℕ) → r.kind ≡ 23 + m
      → NestedIn n i (get_or (Wait r.a ∷ After r.a r.b r.c ∷ Call r.a ∷ Repeat r.a r.b r.c ∷ Conditional r.a r.b r.c r.d r.e ∷ []) m Plain)
  nested-at zero e = tt
  nested-at (suc zero) e = after (omega arith)
  nested-at (suc (suc zero)) e = tt
  nested-at (suc (suc (suc zero))) e = repeat (omega arith)
  nested-at (suc (suc (suc (suc zero)))) e = conditional (omega arith)
  nested-at (suc (suc (suc (suc (suc m))))) e = tt

  pub nested-in : NestedIn n i (flow_of r)
  unfolding flow_of
  nested-in =
      elim (dec_le 23 r.kind) [
        | yes h ↦ rw (le-ltb r.kind 23 h) (nested-at (r.kind - 23) (omega arith))
        | no h ↦ rw (lt-ltb r.kind 23 (omega arith)) tt
      ]

found_here : (n : ℕ) (b : Bool) (r : Record) (o : Option Record) → r.a + r.b ≤ n → BlockIn n o → BlockIn n (cond b (Some r) o)
found_here n true r o x y = x
found_here n false r o x y = y

-- what is found is in the table, if each record's list is
block-in : (n : ℕ) (p : Record → Bool) (g : ℕ → Record) (i k : ℕ) → ((j : ℕ) → j < i + k → (g j).a + (g j).b ≤ n)
    → BlockIn n (find p (map g (up_from i k)))
block-in n p g i zero h = tt
block-in n p g i (suc k) h =
    found_here n (p (g i)) (g i) (find p (map g (up_from (suc i) k))) (h i (omega arith)) (block-in n p g (suc i) k (λ j l. h j (omega arith)))

-- WORDS OF A TABLE ------------------------------------------------------------------------------------------------------------------
module _ (img : List ℕ) (t width : ℕ) (wide : width_of t ≡ width) (ends : first_of img (t + 1) ≤ length img) (orders : first_of img t ≤ first_of img (t + 1)) where
  pub table-length : length (table_of img t) ≡ first_of img (t + 1) - first_of img t
  unfolding table_of
  table-length =
      length-take-le (first_of img (t + 1) - first_of img t) (drop (first_of img t) img) (omega (arith, length-drop (first_of img t) img))

  pub table-word : (i j : ℕ) → i * width + j < first_of img (t + 1) - first_of img t → get_or (table_of img t) (i * width + j) 0 ≡ word_at img t i j
  unfolding table_of word_at
  table-word i j h =
      let e : first_of img t + (i * width + j) ≡ first_of img t + width * i + j = omega (arith, mul_comm i width) in
      get_or-take (first_of img (t + 1) - first_of img t) (drop (first_of img t) img) (i * width + j) 0 h
      ∙ get_or-drop (first_of img t) img (i * width + j) 0
      ∙ ap (λ (n : ℕ). get_or img n 0) e
      ∙ ap (λ (n : ℕ). get_or img (first_of img t + n * i + j) 0) (sym wide)

eight : width_of actions ≡ 8
unfolding width_of
eight = refl

eight' : width_of blocks ≡ 8
unfolding width_of
eight' = refl

sixteen : width_of rules ≡ 16
unfolding width_of
sixteen = refl

wide_enough : (j : ℕ) → j < 7 → j < width_of actions
unfolding width_of
wide_enough j h = omega arith

-- where the lists stand in the records: document 01, "Rule image"
after-field : (code : ℕ) → field_of actions 24 code 2 ≡ Nested
unfolding field_of
after-field code = refl

repeat-field : (code : ℕ) → field_of actions 26 code 2 ≡ Nested
unfolding field_of
repeat-field code = refl

then-field : (code : ℕ) → field_of actions 27 code 2 ≡ Nested
unfolding field_of
then-field code = refl

else-field : (code : ℕ) → field_of actions 27 code 4 ≡ Nested
unfolding field_of
else-field code = refl

block-field : (kind code : ℕ) → field_of blocks kind code 1 ≡ Span actions
unfolding field_of
block-field kind code = refl

rule-field : (kind code : ℕ) → field_of rules kind code 8 ≡ Span actions
unfolding field_of
rule-field kind code = refl

map_same : {A : Type 0} (f g : ℕ → A) (i k : ℕ) → ((j : ℕ) → j < i + k → f j ≡ g j) → map f (up_from i k) ≡ map g (up_from i k)
map_same f g i zero h = refl
map_same f g i (suc k) h = rw (h i (omega arith), map_same f g (suc i) k (λ j l. h j (omega arith)))

-- AN IMAGE THAT PASSED --------------------------------------------------------------------------------------------------------------
module _ (img : List ℕ) (h : Checked img) where
  pub long : 13 ≤ length img
  unfolding image_sized
  long = leb-true 13 (length img) (and_parts (leb 13 (length img)) (leb (length img) 4096) h.sized).0

  pub short : length img ≤ 4096
  unfolding image_sized
  short = leb-true (length img) 4096 (and_parts (leb 13 (length img)) (leb (length img) 4096) h.sized).1

  pub limit-at : (j : ℕ) → j < 5 → limit_fits img j ≡ true
  unfolding limits_fit
  limit-at j l = bools.every-at (limit_fits img) 5 j h.limited l

  pub repeat-limit : repeat_limit img < 256
  repeat-limit = let e = leb-true (trailer img 2) 255 (and_parts (leb 1 (trailer img 2)) (leb (trailer img 2) 255) (limit-at 2 (omega arith))).1 in omega arith

  pub depth-limit : call_depth img ≤ 8
  depth-limit = leb-true (trailer img 1) 8 (and_parts (leb 0 (trailer img 1)) (leb (trailer img 1) 8) (limit-at 1 (omega arith))).1

  -- the tables follow each other, and end within the image
  pub table-order : (t : ℕ) → t < 7 → first_of img t ≤ first_of img (t + 1)
  table-order t l = table-follows img h.placed t (omega arith)

  pub table-end : (t : ℕ) → t < 7 → first_of img (t + 1) ≤ length img
  table-end t l = starts-inside img h.placed (t + 1) (omega arith)

  -- 14, at word j of record i
  led : (t i j : ℕ) → t < 8 → i < size_of img t → j < width_of t
      → leads img i (field_of t (word_at img t i 0) (word_at img t i 1) j) (word_at img t i j) (word_at img t i (j + 1)) ≡ true
  unfolding tables_pass
  led t i j a b c =
      bools.every-at (word_passes img true t i) (width_of t) j
      (bools.every-at (record_passes img true t) (size_of img t) i (bools.every-at (table_passes img true) 8 t h.linked a) b)
      c

  -- THE TABLES -----------------------------------------------------------------------------------------------------------------------
  abbrev acts : List ℕ
  acts = table_of img actions

  abbrev blks : List ℕ
  blks = table_of img blocks

  abbrev rows : List ℕ
  rows = table_of img rules

  acts-length : length acts ≡ first_of img 5 - first_of img 4
  acts-length = table-length img actions 8 eight (table-end 4 (omega arith)) (table-order 4 (omega arith))

  blks-length : length blks ≡ first_of img 2 - first_of img 1
  blks-length = table-length img blocks 8 eight' (table-end 1 (omega arith)) (table-order 1 (omega arith))

  rows-length : length rows ≡ first_of img 1 - first_of img 0
  rows-length = table-length img rules 16 sixteen (table-end 0 (omega arith)) (table-order 0 (omega arith))

  acts-size : size_of img actions ≡ length acts / 8
  unfolding size_of width_of
  acts-size = rw acts-length

  blks-size : size_of img blocks ≡ length blks / 8
  unfolding size_of width_of
  blks-size = rw blks-length

  pub rows-size : size_of img rules ≡ length rows / 16
  unfolding size_of width_of
  rows-size = rw rows-length

  module _ (i : ℕ) (l : i < length acts / 8) where
    action-word : (j : ℕ) → j < 8 → get_or acts (i * 8 + j) 0 ≡ word_at img actions i j
    action-word j m = table-word img actions 8 eight (table-end 4 (omega arith)) (table-order 4 (omega arith)) i j (omega (arith, acts-length))

    -- the list at word j, where the kind has a nested list there
    action-list : (kind j : ℕ) → j < 7 → get_or acts (i * 8) 0 ≡ kind → ((code : ℕ) → field_of actions kind code j ≡ Nested)
        → Behind (length acts / 8) i (get_or acts (i * 8 + j) 0) (get_or acts (i * 8 + (j + 1)) 0)
    action-list kind j m e f =
        let k : word_at img actions i 0 ≡ kind = sym (action-word 0 (omega arith)) ∙ ap (λ (n : ℕ). get_or acts n 0) (add-zero (i * 8)) ∙ e in
        let x = led actions i j (omega arith) (rw acts-size l) (wide_enough j m) in
        let y = rw (k, f (word_at img actions i 1)) at x in
        rw (action-word j (omega arith), action-word (j + 1) (omega arith), ← acts-size) (behind img i (word_at img actions i j) (word_at img actions i (j + 1)) y)

    action-nested : NestedIn (length acts / 8) i (action_in acts i)
    action-nested =
        nested-in (record_in acts i) (length acts / 8) i
        (λ e. action-list 24 2 (omega arith) e after-field)
        (λ e. action-list 26 2 (omega arith) e repeat-field)
        (λ e. (action-list 27 2 (omega arith) e then-field, action-list 27 4 (omega arith) e else-field))

  block-list : (i : ℕ) → i < length blks / 8 → get_or blks (i * 8 + 1) 0 + get_or blks (i * 8 + 2) 0 ≤ length acts / 8
  block-list i l =
      let a = table-word img blocks 8 eight' (table-end 1 (omega arith)) (table-order 1 (omega arith)) i 1 (omega (arith, blks-length)) in
      let b = table-word img blocks 8 eight' (table-end 1 (omega arith)) (table-order 1 (omega arith)) i 2 (omega (arith, blks-length)) in
      let x = led blocks i 1 (omega arith) (rw blks-size l) (rw eight' (omega arith)) in
      let y = rw (block-field (word_at img blocks i 0) (word_at img blocks i 1)) at x in
      rw (a, b, ← acts-size) (spanned img i (word_at img blocks i 1) (word_at img blocks i 2) y)

  module _ (i : ℕ) (l : i < length rows / 16) where
    pub rule-word : (j : ℕ) → j < 16 → get_or rows (i * 16 + j) 0 ≡ word_at img rules i j
    rule-word j m = table-word img rules 16 sixteen (table-end 0 (omega arith)) (table-order 0 (omega arith)) i j (omega (arith, rows-length))

    rule-list : get_or rows (i * 16 + 8) 0 + get_or rows (i * 16 + 9) 0 ≤ length acts / 8
    rule-list =
        let x = led rules i 8 (omega arith) (rw rows-size l) (rw sixteen (omega arith)) in
        let y = rw (rule-field (word_at img rules i 0) (word_at img rules i 1)) at x in
        rw (rule-word 8 (omega arith), rule-word 9 (omega arith), ← acts-size) (spanned img i (word_at img rules i 8) (word_at img rules i 9) y)

  blocks-found : (b : ℕ) → BlockIn (length acts / 8) (block_named acts blks b)
  unfolding block_named
  blocks-found b = block-in (length acts / 8) _ (record_in blks) 0 (length blks / 8) (λ j l. block-list j (omega arith))

  pub checked-tables : CheckedTables acts blks rows (call_depth img) (repeat_limit img)
  checked-tables =
      record {
        tables = record { few = omega (arith, acts-length, table-end 4 (omega arith), short); nested = action-nested; found = blocks-found };
        depth_le = depth-limit;
        limit-lt = repeat-limit;
        blocks-few = omega (arith, blks-length, table-end 1 (omega arith), short);
        rules-few = omega (arith, rows-length, table-end 0 (omega arith), short);
        inside = rule-list;
      }

  same-rule : (i : ℕ) → i < length rows / 16 → flatten_rule img i ≡ rule_at acts blks rows (call_depth img) (repeat_limit img) i
  unfolding flatten_rule
  same-rule i l = rw (rule-word i l 8 (omega arith), rule-word i l 9 (omega arith))

  -- flattening the image is flattening its tables
  pub same-rules : flatten_rules img ≡ flatten_tables acts blks rows (call_depth img) (repeat_limit img)
  unfolding flatten_rules rules_up_to
  same-rules = rw rows-size (map_same (flatten_rule img) (rule_at acts blks rows (call_depth img) (repeat_limit img)) 0 (length rows / 16) (λ j l. same-rule j (omega arith)))
