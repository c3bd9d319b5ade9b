-- The turns of the walk with an explicit list of what is still to be walked: each leaves what the whole walk gives. Assumes nothing.
use mathlib.Core.Path.{◌≡◌, refl, sym, ap, ap₂, ◌∙◌, fun_ext}
use mathlib.Core.Bool.{Bool, true, false, cond}
use mathlib.Core.List.{List, [], ◌∷◌, ◌++◌, map}
use Prim.Native.Nat.{ℕ, zero, suc, ◌+◌, ◌-◌, ◌<◌, ◌≤◌}
use native.Mathlib.Nat.{add-zero, zero-add, sub-zero, le_refl}
use native.Mathlib.Numerals.{add-one}
use native.Mathlib.Omega.{arith}
use lib.Dec.{eqb}
use lib.ListN.{length, get_or, get_or-append}
use lib.Seq.{get_or-append-add}
use borrow.Author.Tests.{eqb-true, ne_eqb}
use Rattle.model.specs.Lists.{up_from}
use Rattle.model.specs.Image.{width_of, size_of, word_at}
use Rattle.model.specs.Tree.{Cells, Reader, cells_of, fields_of, record_at, list_of, records_of, record_count}
use Rattle.rewrite.specs.Mention.{Mention, list_at, mention_at, steps_of}
use Rattle.rewrite.specs.Walk.{Store, count_of, append, walk_records, walk_cells, walk_list, walk_table, put_mention}
use Rattle.rewrite.specs.Frames.{Frame, no_frame, entered, passed}
use Rattle.rewrite.proofs.Mentioned.{field_at, cells_from, inside, cells-turn, steps-fit}

-- the last of some frames
pub last-frame : (fs : List Frame) (f : Frame) → get_or (fs ++ f ∷ []) (length fs) no_frame ≡ f
last-frame fs f = ap (λ n. get_or (fs ++ f ∷ []) n no_frame) (sym (add-zero (length fs))) ∙ get_or-append-add fs (f ∷ []) 0 no_frame

pub list-size : (at : ℕ → ℕ → ℕ → ℕ) (deeper : Reader) (t n i : ℕ) → record_count (list_of at deeper t i n) ≡ n
unfolding list_of
list-size at deeper t zero i = refl
list-size at deeper t (suc n) i = ap suc (list-size at deeper t n (suc i))

pub counted : (at : ℕ → ℕ → ℕ → ℕ) (depth t i n : ℕ) → record_count (records_of at (suc depth) t i n) ≡ n
unfolding records_of
counted at depth t i n = list-size at (records_of at depth) t n i

module _ (img firsts : List ℕ) where
  -- `left` records of table t from record i on, of record i from word j on; it is row p
  unfoldable pub walk_left : Reader → ℕ → ℕ → ℕ → ℕ → ℕ → Store → Store
  walk_left deeper t i zero j p s = s
  walk_left deeper t i (suc left) j p s =
      walk_records firsts (list_of (word_at img) deeper t (suc i) left) t (suc p) (walk_cells firsts (cells_from img deeper t i j (width_of t - j)) t p j s)

  first-words : (t i : ℕ) → Prim.Path (ℕ → ℕ) (λ k. word_at img t i (0 + k)) (word_at img t i)
  first-words t i = fun_ext (λ k. ap (word_at img t i) (zero-add k))

  -- a list is entered at its first word
  pub list-entered : (deeper : Reader) (t i n p : ℕ) (s : Store) → walk_left deeper t i n 0 p s ≡ walk_records firsts (list_of (word_at img) deeper t i n) t p s
  unfolding walk_left list_of walk_records cells_from record_at fields_of
  list-entered deeper t i zero p s = refl
  list-entered deeper t i (suc n) p s =
      let cs : ℕ → (ℕ → ℕ) → Cells = λ z v. cells_of deeper (map (field_at img t i) (up_from 0 z)) v in
      ap (λ x. walk_records firsts (list_of (word_at img) deeper t (suc i) n) t (suc p) (walk_cells firsts x t p 0 s)) (ap₂ cs (sub-zero (width_of t)) (first-words t i))

  -- a record that is done: on to the next
  record-done : (deeper : Reader) (t i left j p : ℕ) (s : Store) → j ≡ width_of t → walk_left deeper t i (suc left) j p s ≡ walk_left deeper t (suc i) left 0 (suc p) s
  unfolding walk_left walk_records cells_from cells_of
  record-done deeper t i left j p s e =
      let z : width_of t - j ≡ 0 = omega (arith, e) in
      ap (λ n. walk_records firsts (list_of (word_at img) deeper t (suc i) left) t (suc p) (walk_cells firsts (cells_from img deeper t i j n) t p j s)) z
      ∙ sym (list-entered deeper t (suc i) left (suc p) s)

  word-met : (depth t i left j p : ℕ) (s : Store) → j < width_of t
      → walk_left (records_of (word_at img) (suc depth)) t i (suc left) j p s
      ≡ walk_left (records_of (word_at img) (suc depth)) t i (suc left) (j + steps_of (mention_at img t i j)) p
      (inside firsts (records_of (word_at img) (suc depth)) (counted (word_at img) depth) (mention_at img t i j) (put_mention firsts (mention_at img t i j) t p j s))
  unfolding walk_left
  word-met depth t i left j p s h =
      let deeper = records_of (word_at img) (suc depth) in
      let m = mention_at img t i j in
      let n = width_of t - j - 1 in
      let e : width_of t - j ≡ suc n = omega arith in
      let f : suc n - steps_of m ≡ width_of t - (j + steps_of m) = omega (arith, steps-fit img t i j h) in
      let after = inside firsts deeper (counted (word_at img) depth) m (put_mention firsts m t p j s) in
      ap (walk_records firsts (list_of (word_at img) deeper t (suc i) left) t (suc p))
      (ap (λ k. walk_cells firsts (cells_from img deeper t i j k) t p j s) e
      ∙ cells-turn img firsts deeper (counted (word_at img) depth) t i p j n s e
      ∙ ap (λ k. walk_cells firsts (cells_from img deeper t i (j + steps_of m) k) t p (j + steps_of m) after) f)

  -- FRAMES --------------------------------------------------------------------------------------------------------------------------------
  -- the list of frame k; the lists of 4,096 words nest less deep than 600
  unfoldable pub walk_frame : ℕ → Frame → Store → Store
  walk_frame k f s = walk_left (records_of (word_at img) (599 - k)) f.table f.from f.left f.word f.row s

  pub frame-done : (k : ℕ) (f : Frame) (s : Store) → f.left ≡ 0 → walk_frame k f s ≡ s
  unfolding walk_frame walk_left
  frame-done k f s e = ap (λ n. walk_left (records_of (word_at img) (599 - k)) f.table f.from n f.word f.row s) e

  pass-case : (deeper : Reader) (f : Frame) (m : Mention) (s : Store) (left : ℕ) (b : Bool) → f.left ≡ suc left → eqb (f.word + steps_of m) (width_of f.table) ≡ b
      → walk_left deeper f.table f.from (suc left) (f.word + steps_of m) f.row s
      ≡ (let g : Frame = passed f m in walk_left deeper g.table g.from g.left g.word g.row s)
  unfolding passed
  pass-case deeper f m s left true e h =
      let l : f.left - 1 ≡ left = omega (arith, e) in
      rw (h, l, add-one f.from, add-one f.row) (record-done deeper f.table f.from left (f.word + steps_of m) f.row s (eqb-true _ _ h))
  pass-case deeper f m s left false e h = rw (h, e) refl

  abbrev met : ℕ → Frame → Mention → Store → Store
  met depth f m s = inside firsts (records_of (word_at img) (suc depth)) (counted (word_at img) depth) m (put_mention firsts m f.table f.row f.word s)

  -- the next word of a frame: the mention is written and walked, then the frame behind it
  frame-case : (k depth left : ℕ) (f : Frame) (s : Store) → 599 - k ≡ suc depth → f.left ≡ suc left → f.word < width_of f.table
      → walk_frame k f s ≡ walk_frame k (passed f (mention_at img f.table f.from f.word)) (met depth f (mention_at img f.table f.from f.word) s)
  unfolding walk_frame
  frame-case k depth left f s e l h =
      let m = mention_at img f.table f.from f.word in
      let deeper = records_of (word_at img) (suc depth) in
      ap₂ (λ d n. walk_left (records_of (word_at img) d) f.table f.from n f.word f.row s) e l
      ∙ word-met depth f.table f.from left f.word f.row s h
      ∙ pass-case deeper f m (met depth f m s) left (eqb (f.word + steps_of m) (width_of f.table)) l refl
      ∙ ap (λ d. let g : Frame = passed f m in walk_left (records_of (word_at img) d) g.table g.from g.left g.word g.row (met depth f m s)) (sym e)

  module _ (k : ℕ) (f : Frame) (s : Store) (deep : k < 599) (some : 1 ≤ f.left) (word : f.word < width_of f.table) where
    abbrev m : Mention
    m = mention_at img f.table f.from f.word

    abbrev here : Store
    here = put_mention firsts m f.table f.row f.word s

    turn : walk_frame k f s ≡ walk_frame k (passed f m) (met (598 - k) f m s)
    turn = frame-case k (598 - k) (f.left - 1) f s (omega arith) (omega arith) word

    -- it mentions nothing
    pub plain-met : m.count ≡ 0 → walk_frame k f s ≡ walk_frame k (passed f m) here
    unfolding inside
    plain-met e = turn ∙ ap (λ n. walk_frame k (passed f m) (cond (eqb n 0) here (walk_records firsts (records_of (word_at img) (suc (598 - k)) m.table m.first n) m.table (count_of here m.table) (append m.table n here)))) e

    -- it mentions a list, which is entered
    pub list-met : (m.count ≡ 0 → ⊥) → walk_frame k f s ≡ walk_frame k (passed f m) (walk_frame (suc k) (entered here.counts m) (append m.table m.count here))
    unfolding inside walk_frame records_of
    list-met ne =
        let e : 599 - suc k ≡ 598 - k = omega arith in
        turn ∙ ap (walk_frame k (passed f m))
        (ap (λ b. cond b here (walk_records firsts (records_of (word_at img) (suc (598 - k)) m.table m.first m.count) m.table (count_of here m.table) (append m.table m.count here))) (ne_eqb m.count 0 ne)
        ∙ sym (list-entered (records_of (word_at img) (598 - k)) m.table m.first m.count (count_of here m.table) (append m.table m.count here))
        ∙ ap (λ d. walk_left (records_of (word_at img) d) m.table m.first m.count 0 (count_of here m.table) (append m.table m.count here)) (sym e))

  -- the frames below
  unfoldable pub walk_rest : List Frame → ℕ → Store → Store
  walk_rest fs zero s = s
  walk_rest fs (suc k) s = walk_rest fs k (walk_frame k (get_or fs k no_frame) s)

  pub rest-below : (fs gs : List Frame) (s : Store) (k : ℕ) → k ≤ length fs → walk_rest (fs ++ gs) k s ≡ walk_rest fs k s
  unfolding walk_rest
  rest-below fs gs s zero h = refl
  rest-below fs gs s (suc k) h =
      ap (λ g. walk_rest (fs ++ gs) k (walk_frame k g s)) (get_or-append fs gs no_frame k (omega arith))
      ∙ rest-below fs gs (walk_frame k (get_or fs k no_frame) s) k (omega arith)

  -- a frame that is kept while its list is walked
  pub rest-pushed : (fs : List Frame) (f : Frame) (s : Store) → walk_rest (fs ++ f ∷ []) (suc (length fs)) s ≡ walk_rest fs (length fs) (walk_frame (length fs) f s)
  unfolding walk_rest
  rest-pushed fs f s =
      ap (λ g. walk_rest (fs ++ f ∷ []) (length fs) (walk_frame (length fs) g s)) (last-frame fs f)
      ∙ rest-below fs (f ∷ []) (walk_frame (length fs) f s) (length fs) (le_refl _)

  -- all records of a table
  pub table-entered : (t : ℕ) (s : Store) → walk_table firsts img t s
      ≡ walk_frame 0 (entered s.counts (list_at t 0 (size_of img t))) (append t (size_of img t) s)
  unfolding walk_table walk_list walk_frame records_of
  table-entered t s =
      ap (λ n. walk_records firsts (list_of (word_at img) (records_of (word_at img) 599) t 0 (size_of img t)) t (count_of s t) (append t n s)) (list-size (word_at img) (records_of (word_at img) 599) t (size_of img t) 0)
      ∙ sym (list-entered (records_of (word_at img) 599) t 0 (size_of img t) (count_of s t) (append t (size_of img t) s))
