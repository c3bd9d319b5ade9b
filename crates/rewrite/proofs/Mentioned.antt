-- One turn of the walk: the next mention of a record is written, and what it mentions is walked. Assumes nothing.
use mathlib.Core.Path.{◌≡◌, refl, sym, ap, ap₂, ◌∙◌, fun_ext}
use mathlib.Core.Bool.{Bool, true, false, cond}
use mathlib.Core.List.{List, [], ◌∷◌, map}
use Prim.Native.Nat.{ℕ, zero, suc, ◌+◌, ◌-◌, ◌<◌, ◌≤◌}
use native.Mathlib.Nat.{add-zero, sub-zero}
use native.Mathlib.Omega.{arith}
use lib.Dec.{eqb, ltb}
use lib.ListN.{length, get_or, drop, set}
use lib.Seq.{set-get_or}
use borrow.Author.Tests.{lt-ltb, le-ltb, ne_eqb}
use Rattle.std.specs.Prelude.{is_some}
use Rattle.model.specs.declared.Field.{Field}
use Rattle.model.specs.declared.Field.TheVariants.{Free, UpTo, Mark, Tag, Index, Span, Nested}
use Rattle.model.specs.Lists.{up_from}
use Rattle.model.specs.Rows.{actions, field_of}
use Rattle.model.specs.Image.{width_of, word_at}
use Rattle.model.specs.Tree.{Records, none, record-of, Cells, word, mention, Reader, cells_of, record_count, place_of}
use Rattle.rewrite.specs.Mention.{Mention, plain, list_at, behind_tag, mention_of, mention_at, steps_of, last_word}
use Rattle.rewrite.specs.Walk.{Store, count_of, append, put, walk_records, walk_cells, put_mention}
use Rattle.rewrite.proofs.Fields as fields
use Rattle.rewrite.proofs.Behind.{spans, field-behind}

-- A MENTION -----------------------------------------------------------------------------------------------------------------------------
pub no-records : (rs : Records) → record_count rs ≡ 0 → rs ≡ none
no-records none e = refl
no-records (record-of cs rs) e = absurd (omega arith)

some-place : (rs : Records) (n p : ℕ) → record_count rs ≡ suc n → place_of p rs ≡ p
some-place none n p e = absurd (omega arith)
some-place (record-of cs rs) n p e = refl

none-appended : (t : ℕ) (s : Store) → append t 0 s ≡ s
unfolding append
none-appended t s = ap (λ (l : List ℕ). record { counts = l; words = s.words }) (ap (set s.counts t) (add-zero (get_or s.counts t 0)) ∙ set-get_or s.counts t 0)

-- the words of a row behind a mention
abbrev pub onward : Mention → ℕ → ℕ
onward m j = cond (is_some m.tag) (suc (suc j)) (suc j)

abbrev shift_by : ℕ → (ℕ → ℕ) → ℕ → ℕ
shift_by zero v = v
shift_by (suc n) v = shift_by n (λ k. v (suc k))

abbrev some : List Field → Bool
some [] = false
some (f ∷ fs) = true

abbrev head_plain : List Field → Type 0
head_plain [] = Unit {0}
head_plain (f ∷ fs) = fields.plain f ≡ true

module _ (firsts : List ℕ) (deeper : Reader) (counted : (t i n : ℕ) → record_count (deeper t i n) ≡ n) where
  -- the list that a mention leads to, where it has records
  unfoldable pub inside : Mention → Store → Store
  inside m s = cond (eqb m.count 0) s (walk_records firsts (deeper m.table m.first m.count) m.table (count_of s m.table) (append m.table m.count s))

  module _ (t p : ℕ) where
    mention-turn : (u i n : ℕ) (cs : Cells) (j : ℕ) (s : Store)
        → walk_cells firsts (mention u (deeper u i n) cs) t p j s
        ≡ walk_cells firsts cs t p (suc j) (inside (list_at u i n) (put firsts t p j (last_word (list_at u i n) (count_of s u)) s))
    unfolding walk_records inside put
    mention-turn u i zero cs j s =
        rw (no-records (deeper u i 0) (counted u i 0)) (ap (walk_cells firsts cs t p (suc j)) (none-appended u _))
    mention-turn u i (suc n) cs j s =
        let e : eqb (suc n) 0 ≡ false = ne_eqb (suc n) 0 (λ x. omega (arith, x)) in
        rw (e, some-place (deeper u i (suc n)) n (count_of s u) (counted u i (suc n)), counted u i (suc n)) refl

    abbrev Turn : List Field → (ℕ → ℕ) → ℕ → Store → Mention → Type 0
    Turn fs v j s m =
        walk_cells firsts (cells_of deeper fs v) t p j s
        ≡ walk_cells firsts (cells_of deeper (drop (steps_of m) fs) (shift_by (steps_of m) v)) t p (onward m j) (inside m (put_mention firsts m t p j s))

    tagged-turn : (b : Bool) (f : Field) (fs : List Field) (u : ℕ) (v : ℕ → ℕ) (j : ℕ) (s : Store)
        → walk_cells firsts (word (v 0) (cond b (mention u (deeper u (v 1) 1) (cells_of deeper fs (λ k. v (suc (suc k))))) (word (v 1) (cells_of deeper fs (λ k. v (suc (suc k))))))) t p j s
        ≡ walk_cells firsts (cells_of deeper fs (λ k. v (suc (suc k)))) t p (suc (suc j))
        (inside (behind_tag (v 0) (cond b (list_at u (v 1) 1) (plain (v 1)))) (put_mention firsts (behind_tag (v 0) (cond b (list_at u (v 1) 1) (plain (v 1)))) t p j s))
    unfolding walk_records inside put_mention put
    tagged-turn true f fs u v j s = mention-turn u (v 1) 1 (cells_of deeper fs (λ k. v (suc (suc k)))) (suc j) (put firsts t p j (v 0) s)
    tagged-turn false f fs u v j s = refl

    list-turn : (f : Field) (fs : List Field) (u : ℕ) (v : ℕ → ℕ) (j : ℕ) (s : Store) → fields.plain f ≡ true
        → walk_cells firsts (mention u (deeper u (v 0) (v 1)) (word (v 1) (cells_of deeper fs (λ k. v (suc (suc k)))))) t p j s
        ≡ walk_cells firsts (cells_of deeper (f ∷ fs) (λ k. v (suc k))) t p (suc j)
        (inside (list_at u (v 0) (v 1)) (put firsts t p j (last_word (list_at u (v 0) (v 1)) (count_of s u)) s))
    list-turn f fs u v j s e =
        rw (fields.plain-cell deeper f fs (λ k. v (suc k)) e) (mention-turn u (v 0) (v 1) (word (v 1) (cells_of deeper fs (λ k. v (suc (suc k))))) j s)

    row-turn : (f : Field) (fs : List Field) (v : ℕ → ℕ) (j : ℕ) (s : Store) → (spans f ≡ true → head_plain fs) → Turn (f ∷ fs) v j s (mention_of f (some fs) (v 0) (v 1))
    unfolding cells_of mention_of walk_records inside put_mention
    row-turn Free fs v j s h = refl
    row-turn (UpTo most) fs v j s h = refl
    row-turn (Mark most value) fs v j s h = refl
    row-turn (Tag u) [] v j s h = refl
    row-turn (Tag u) (f ∷ fs) v j s h = tagged-turn (eqb (v 0) 0) f fs u v j s
    row-turn (Index u) fs v j s h = mention-turn u (v 0) 1 (cells_of deeper fs (λ k. v (suc k))) j s
    row-turn (Span u) [] v j s h = refl
    row-turn (Span u) (f ∷ fs) v j s h = list-turn f fs u v j s (h refl)
    row-turn Nested [] v j s h = refl
    row-turn Nested (f ∷ fs) v j s h = list-turn f fs actions v j s (h refl)

-- a mention takes one word or two, within its row
pub row-fits : (f : Field) (fs : List Field) (w next : ℕ) → steps_of (mention_of f (some fs) w next) ≤ length (f ∷ fs)
unfolding mention_of
row-fits Free fs w next = omega arith
row-fits (UpTo most) fs w next = omega arith
row-fits (Mark most value) fs w next = omega arith
row-fits (Tag t) [] w next = omega arith
row-fits (Tag t) (f ∷ fs) w next = omega arith
row-fits (Index t) fs w next = omega arith
row-fits (Span t) [] w next = omega arith
row-fits (Span t) (f ∷ fs) w next = omega arith
row-fits Nested [] w next = omega arith
row-fits Nested (f ∷ fs) w next = omega arith

-- THE WORDS OF A RECORD -----------------------------------------------------------------------------------------------------------------
drop-fields : (g : ℕ → Field) (n j k : ℕ) → n ≤ k → drop n (map g (up_from j k)) ≡ map g (up_from (j + n) (k - n))
drop-fields g zero j k h = ap₂ (λ x y. map g (up_from x y)) (sym (add-zero j)) (sym (sub-zero k))
drop-fields g (suc n) j zero h = absurd (omega arith)
drop-fields g (suc n) j (suc k) h =
    let a : suc j + n ≡ j + suc n = omega arith in
    let b : k - n ≡ suc k - suc n = omega arith in
    drop-fields g n (suc j) k (omega arith) ∙ ap₂ (λ x y. map g (up_from x y)) a b

shift-words : (g : ℕ → ℕ) (n j : ℕ) → Prim.Path (ℕ → ℕ) (shift_by n (λ k. g (j + k))) (λ k. g ((j + n) + k))
shift-words g zero j = fun_ext (λ k. ap (λ x. g (x + k)) (sym (add-zero j)))
shift-words g (suc n) j =
    let a : (k : ℕ) → j + suc k ≡ suc j + k = λ k. omega arith in
    let b : suc j + n ≡ j + suc n = omega arith in
    ap (shift_by n) (fun_ext (λ k. ap g (a k))) ∙ shift-words g n (suc j) ∙ ap (λ x k. g (x + k)) b

onward-is : (b : Bool) (j : ℕ) → cond b (suc (suc j)) (suc j) ≡ j + cond b 2 1
onward-is true j = omega arith
onward-is false j = omega arith

module _ (img : List ℕ) where
  abbrev pub field_at : ℕ → ℕ → ℕ → Field
  field_at t i j = field_of t (word_at img t i 0) (word_at img t i 1) j

  -- of record i of table t the n words from word j on
  unfoldable pub cells_from : Reader → ℕ → ℕ → ℕ → ℕ → Cells
  cells_from deeper t i j n = cells_of deeper (map (field_at t i) (up_from j n)) (λ k. word_at img t i (j + k))

  more-words : (t i j n : ℕ) → width_of t - j ≡ suc n → some (map (field_at t i) (up_from (suc j) n)) ≡ ltb (j + 1) (width_of t)
  more-words t i j zero e = sym (le-ltb (j + 1) (width_of t) (omega (arith, e)))
  more-words t i j (suc n) e = sym (lt-ltb (j + 1) (width_of t) (omega (arith, e)))

  mention-here : (t i j n : ℕ) → width_of t - j ≡ suc n
      → mention_of (field_at t i j) (some (map (field_at t i) (up_from (suc j) n))) (word_at img t i (j + 0)) (word_at img t i (j + 1)) ≡ mention_at img t i j
  unfolding mention_at
  mention-here t i j n e =
      ap₂ (λ b x. mention_of (field_at t i j) b x (word_at img t i (j + 1))) (more-words t i j n e) (ap (word_at img t i) (add-zero j))

  steps-case : (t i j n : ℕ) → width_of t - j ≡ suc n → steps_of (mention_at img t i j) ≤ suc n
  steps-case t i j n e =
      let x = row-fits (field_at t i j) (map (field_at t i) (up_from (suc j) n)) (word_at img t i (j + 0)) (word_at img t i (j + 1)) in
      let len : length (map (field_at t i) (up_from (suc j) n)) ≡ n = lib.ListN.length-map (up_from (suc j) n) (field_at t i) ∙ Rattle.model.proofs.ListLaws.length-up_from (suc j) n in
      rw (← mention-here t i j n e) (omega (arith, x, len))

  -- a mention ends within its record
  pub steps-fit : (t i j : ℕ) → j < width_of t → j + steps_of (mention_at img t i j) ≤ width_of t
  steps-fit t i j h = let e : width_of t - j ≡ suc (width_of t - j - 1) = omega arith in omega (arith, steps-case t i j (width_of t - j - 1) e)

  head-plain : (t i j n : ℕ) → spans (field_at t i j) ≡ true → head_plain (map (field_at t i) (up_from (suc j) n))
  head-plain t i j zero h = tt {0}
  head-plain t i j (suc n) h = field-behind t (word_at img t i 0) (word_at img t i 1) j h

  module _ (firsts : List ℕ) (deeper : Reader) (counted : (t i n : ℕ) → record_count (deeper t i n) ≡ n) where
    pub cells-turn : (t i p j n : ℕ) (s : Store) → width_of t - j ≡ suc n
        → walk_cells firsts (cells_from deeper t i j (suc n)) t p j s
        ≡ walk_cells firsts (cells_from deeper t i (j + steps_of (mention_at img t i j)) (suc n - steps_of (mention_at img t i j))) t p (j + steps_of (mention_at img t i j))
        (inside firsts deeper counted (mention_at img t i j) (put_mention firsts (mention_at img t i j) t p j s))
    unfolding cells_from
    cells-turn t i p j n s e =
        let v : ℕ → ℕ = λ k. word_at img t i (j + k) in
        let m = mention_at img t i j in
        let fs : List Field = map (field_at t i) (up_from (suc j) n) in
        let after : Store = inside firsts deeper counted m (put_mention firsts m t p j s) in
        let turn : walk_cells firsts (cells_of deeper (field_at t i j ∷ fs) v) t p j s
        ≡ walk_cells firsts (cells_of deeper (drop (steps_of m) (field_at t i j ∷ fs)) (shift_by (steps_of m) v)) t p (onward m j) after
        = rw (mention-here t i j n e) at (row-turn firsts deeper counted t p (field_at t i j) fs v j s (head-plain t i j n)) in
        turn ∙ ap₂ (λ (x : Cells) (k : ℕ). walk_cells firsts x t p k after)
        (ap₂ (λ (gs : List Field) (u : ℕ → ℕ). cells_of deeper gs u) (drop-fields (field_at t i) (steps_of m) j (suc n) (steps-case t i j n e)) (shift-words (word_at img t i) (steps_of m) j))
        (onward-is (is_some m.tag) j)
