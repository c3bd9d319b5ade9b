-- The two passes give the written image. Assumes nothing.
use mathlib.Core.Path.{◌≡◌, refl, sym, ap, ap₂, ◌∙◌, subst}
use mathlib.Core.Logic.{◌⊎◌, inl, inr}
use mathlib.Core.Bool.{Bool, true, false, cond}
use mathlib.Core.List.{List, [], ◌∷◌, ◌++◌, map}
use Prim.Native.Nat.{ℕ, zero, suc, ◌+◌, ◌-◌, ◌*◌, ◌/◌, ◌%◌, ◌<◌, ◌≤◌}
use native.Mathlib.Nat.{zero-add, mul_comm, div-add-mod', mod-lt, div-lt_iff_lt-mul, eq-or-lt_of_le}
use native.Mathlib.Omega.{arith}
use lib.Dec.{ltb}
use lib.ListN.{length, get_or, set, replicate, length-append, length-replicate, length-set, get_or-append}
use lib.Seq.{get_or-append-add, get_or-set_same, ext_get_or}
use borrow.Author.Tests.{ltb-true, ltb-false, eqb-true}
use Rattle.model.specs.Lists.{all, up_from, flatten, total}
use Rattle.model.specs.Answers.{lent}
use Rattle.model.specs.Rows.{rules, blocks}
use Rattle.model.specs.Image.{width_of, trailer, size_of, word_at}
use Rattle.std.proofs.lemmas.Bool.{and_parts}
use Rattle.model.specs.Tree.{Records, Cells, records_of, below, below_cells, Counts, ◌⊕◌, appended, lists_of, tree_of, tree_size, table_words, words_of}
use Rattle.rewrite.specs.Walk.{Store, count_of, table_total, size_for, word_place, walk_list, walk_table, walk_tables, Walked, Counted, Placed, trailer_of, put_trailer}
use Rattle.rewrite.proofs.ReadBack.{some-word}
use Rattle.rewrite.proofs.Inside.{wide}
use Rattle.rewrite.proofs.Written as written
use Rattle.rewrite.proofs.Theorems as theorems
use Rattle.rewrite.proofs.Placed.{begins, words-counted, total-same, out-length}
use Rattle.rewrite.proofs.Sizes.{lists-sums}
use Rattle.rewrite.proofs.Counting.{At, list-at, tree-in}
use Rattle.rewrite.proofs.Walking.{store}
use Rattle.rewrite.proofs.Right as right

-- LISTS OF ZEROS --------------------------------------------------------------------------------------------------------------------------------
pub zeros-at : (n u : ℕ) → ◌≡◌ {A = ℕ} (get_or (replicate n 0) u 0) 0
zeros-at zero u = refl
zeros-at (suc n) zero = refl
zeros-at (suc n) (suc u) = zeros-at n u

past-at : (l : List ℕ) (n i : ℕ) → length l ≤ i → get_or (l ++ replicate n 0) i 0 ≡ 0
past-at l n i h =
    let e : i ≡ length l + (i - length l) = omega arith in
    ap (λ k. get_or (l ++ replicate n 0) k 0) e ∙ get_or-append-add l (replicate n 0) (i - length l) 0 ∙ zeros-at n (i - length l)

row-wide : (t : ℕ) (rows : List (List ℕ)) (q : ℕ) → all (wide t) rows ≡ true → q < length rows → length (get_or rows q []) ≡ width_of t
row-wide t [] q a h = absurd (omega arith)
row-wide t (r ∷ rows) zero a h = eqb-true (length r) (width_of t) (and_parts (wide t r) (all (wide t) rows) a).0
row-wide t (r ∷ rows) (suc q) a h = row-wide t rows q (and_parts (wide t r) (all (wide t) rows) a).1 (omega arith)

pub total-below : (f g : ℕ → ℕ) (n : ℕ) → ((u : ℕ) → u < n → f u ≡ g u) → total n f ≡ total n g
unfolding total
total-below f g zero e = refl
total-below f g (suc n) e = ap₂ (λ a b. a + b) (total-below f g n (λ u h. e u (omega arith))) (e n (omega arith))

below-or-not : (q n : ℕ) (b : Bool) → ltb q n ≡ b → (q < n) ⊎ (n ≤ q)
below-or-not q n true e = inl (ltb-true q n e)
below-or-not q n false e = inr (ltb-false q n e)

-- EVERY WORD OF THE TABLES IS A WORD OF A ROW -----------------------------------------------------------------------------------------------------
module _ (rows : ℕ → List (List ℕ)) (widths : (t : ℕ) → all (wide t) (rows t) ≡ true) (P : ℕ → Type 0) where
  abbrev Words : ℕ → Type 0
  Words n = (u q i : ℕ) → u < n → q < length (rows u) → i < width_of u → P (written.beginning rows u + width_of u * q + i)

  in-table : (u d : ℕ) → d < length (flatten (rows u)) → ((q i : ℕ) → q < length (rows u) → i < width_of u → P (written.beginning rows u + width_of u * q + i)) → P (written.beginning rows u + d)
  in-table u d h each =
      let w : 0 < width_of u = some-word u in
      let q = d / width_of u in
      let i = d % width_of u in
      let e : width_of u * q + i ≡ d = ap (λ x. x + i) (mul_comm (width_of u) q) ∙ div-add-mod' d (width_of u) in
      let l : q < length (rows u) = (div-lt_iff_lt-mul w).1 (rw (mul_comm (length (rows u)) (width_of u), ← written.flat-length u (rows u) (widths u)) h) in
      let f : written.beginning rows u + width_of u * q + i ≡ written.beginning rows u + d = omega (arith, e) in
      rw f at (each q i l (mod-lt d w))

  word-case : (n k : ℕ) → (k < written.beginning rows n) ⊎ (written.beginning rows n ≤ k) → k < written.beginning rows (suc n) → Words (suc n) → (k < written.beginning rows n → P k) → P k
  word-case n k (inl l) h each before = before l
  word-case n k (inr l) h each before =
      let e : written.beginning rows n + (k - written.beginning rows n) ≡ k = omega arith in
      rw e at (in-table n (k - written.beginning rows n) (omega (arith, written.next-beginning rows n)) (λ q i. each n q i (omega arith)))

  pub every-word : (n k : ℕ) → k < written.beginning rows n → Words n → P k
  unfolding table_words
  every-word zero k h each = absurd (omega arith)
  every-word (suc n) k h each =
      word-case n k (below-or-not k (written.beginning rows n) (ltb k (written.beginning rows n)) refl) h each (λ l. every-word n k l (λ u q i g. each u q i (omega arith)))

-- THE WALK OF BOTH TABLES ---------------------------------------------------------------------------------------------------------------------------
module _ (img : List ℕ) where
  abbrev rows : ℕ → List (List ℕ)
  rows = theorems.rows img

  abbrev cells : Cells
  cells = lists_of (word_at img) (size_of img rules) (size_of img blocks)

  abbrev rule_tree : Records
  rule_tree = records_of (word_at img) 600 rules 0 (size_of img rules)

  abbrev block_tree : Records
  block_tree = records_of (word_at img) 600 blocks 0 (size_of img blocks)

  abbrev nothing : Counts
  nothing u = 0

  abbrev behind : Counts
  behind = appended nothing rules rule_tree ⊕ below rule_tree

  abbrev whole : Counts
  whole = appended behind blocks block_tree ⊕ below block_tree

  whole-is : (u : ℕ) → whole u ≡ below_cells cells u
  unfolding lists_of below
  whole-is u = omega arith

  empty-at : (words : List ℕ) → At (store (replicate 8 0) words) nothing
  empty-at words = record { eight = refl; same = zeros-at 8 }

  module _ (firsts words : List ℕ) where
    abbrev first : Store
    first = walk_list firsts rules rule_tree (store (replicate 8 0) words)

    first-at : At first behind
    first-at = list-at firsts rule_tree rules (store (replicate 8 0) words) nothing (tree-in (word_at img) 600 rules 0 (size_of img rules)) (omega arith) (empty-at words)

    tables-are : walk_tables firsts img (store (replicate 8 0) words) ≡ walk_list firsts blocks block_tree first
    unfolding walk_tables walk_table
    tables-are = refl

    both-at : At (walk_tables firsts img (store (replicate 8 0) words)) whole
    both-at =
        rw tables-are (list-at firsts block_tree blocks first behind (tree-in (word_at img) 600 blocks 0 (size_of img blocks)) (omega arith) first-at)

    count-is : (u : ℕ) → count_of (walk_tables firsts img (store (replicate 8 0) words)) u ≡ below_cells (tree_of img).lists u
    unfolding tree_of
    count-is u = both-at.same u ∙ whole-is u

    size-is : size_for (walk_tables firsts img (store (replicate 8 0) words)).counts ≡ tree_size (tree_of img)
    unfolding size_for tree_size tree_of
    size-is =
        let w : Store = walk_tables firsts img (store (replicate 8 0) words) in
        let a : table_total (count_of w) ≡ table_total (below_cells cells) =
        total-same (λ u. width_of u * count_of w u) (λ u. width_of u * below_cells cells u) 8 (λ u. ap (λ x. width_of u * x) (both-at.same u ∙ whole-is u)) in
        omega (arith, a, lists-sums (word_at img) (size_of img rules) (size_of img blocks))

    -- the first pass
    pub counts-walked : (n size : ℕ) (counts written : List ℕ) → Walked (walk_tables firsts img (store (replicate 8 0) words)) n size counts written → Counted img size counts
    counts-walked n size counts written w =
        record {
          within = λ h.
              let e : counts ≡ (walk_tables firsts img (store (replicate 8 0) words)).counts = ap (λ (s : Store). s.counts) (w.within h) in
              (w.sized ∙ ap size_for e ∙ size-is, λ u l. ap (λ (x : List ℕ). get_or x u 0) e ∙ count-is u);
          over = λ h. rw (← size-is) (w.over h);
          eight = w.eight;
        }

    pub counts-counted : (start : List ℕ) → start ≡ replicate 8 0 → (n size : ℕ) (counts written : List ℕ) → Walked (walk_tables firsts img (store start words)) n size counts written
        → Counted img size counts
    counts-counted start e n size counts written w =
        counts-walked n size counts written (subst (λ (l : List ℕ). Walked (walk_tables firsts img (store l words)) n size counts written) e w)

  pub counts-size : (counts : List ℕ) → ((u : ℕ) → u < 8 → get_or counts u 0 ≡ below_cells (tree_of img).lists u) → size_for counts ≡ tree_size (tree_of img)
  unfolding size_for tree_size tree_of
  counts-size counts counted =
      let a = total-below (λ u. width_of u * get_or counts u 0) (λ u. width_of u * below_cells cells u) 8 (λ u l. ap (λ x. width_of u * x) (counted u l)) in
      omega (arith, a, lists-sums (word_at img) (size_of img rules) (size_of img blocks))

  pub written-long : (room : ℕ) → tree_size (tree_of img) ≤ room → length (lent room (words_of (tree_of img))) ≡ room
  written-long room h =
      let ws : List ℕ = words_of (tree_of img) in
      length-append ws (replicate (room - length ws) 0) ∙ ap (λ n. length ws + n) (length-replicate (room - length ws) 0) ∙ omega (arith, words-counted img)

-- THE SECOND PASS -----------------------------------------------------------------------------------------------------------------------------------
module _ (img : List ℕ) (room : ℕ) (counts firsts : List ℕ) (end : ℕ) (fits : tree_size (tree_of img) ≤ room)
    (counted : (u : ℕ) → u < 8 → get_or counts u 0 ≡ below_cells (tree_of img).lists u) (placed : Placed counts firsts end) where
  abbrev widths : (t : ℕ) → all (wide t) (rows img t) ≡ true
  widths = theorems.tables-wide (word_at img) (size_of img rules) (size_of img blocks)

  abbrev beginning : ℕ → ℕ
  beginning = written.beginning (rows img)

  abbrev out : List ℕ
  out = theorems.out img

  abbrev final : List ℕ
  final = out ++ replicate (room - length out) 0

  row-count : (u : ℕ) → u < 8 → get_or counts u 0 ≡ length (rows img u)
  unfolding tree_of
  row-count u h = counted u h ∙ sym (theorems.table-count (word_at img) (size_of img rules) (size_of img blocks) u)

  beginning-is : (t : ℕ) → t ≤ 8 → total t (λ u. width_of u * get_or counts u 0) ≡ beginning t
  beginning-is t h =
      total-below (λ u. width_of u * get_or counts u 0) (λ u. width_of u * length (rows img u)) t (λ u l. ap (λ x. width_of u * x) (row-count u (omega arith)))
      ∙ sym (begins (rows img) widths t)

  first-is : (t : ℕ) → t < 8 → get_or firsts t 0 ≡ beginning t
  first-is t h = placed.firsts-at t h ∙ beginning-is t (omega arith)

  end-is : end ≡ beginning 8
  end-is = placed.end-at ∙ beginning-is 8 (omega arith)

  out-size : length out ≡ beginning 8 + 13
  out-size = written.image-length (rows img) (theorems.limits img) refl widths

  out-fits : length out ≤ room
  out-fits = rw (out-length img) fits

  final-length : length final ≡ room
  final-length = length-append out (replicate (room - length out) 0) ∙ ap (λ n. length out + n) (length-replicate (room - length out) 0) ∙ omega (arith, out-fits)

  in-out : (k : ℕ) → k < length out → get_or final k 0 ≡ get_or out k 0
  in-out k h = get_or-append out (replicate (room - length out) 0) 0 k h

  module _ (u q i : ℕ) (h : u < 8) (l : q < length (rows img u)) (g : i < width_of u) where
    place-is : word_place firsts u q i ≡ beginning u + (width_of u * q + i)
    place-is = omega (arith, first-is u h)

    there : (beginning u + (width_of u * q + i) < beginning 8) × (get_or (table_words (rows img) 8) (beginning u + (width_of u * q + i)) 0 ≡ get_or (flatten (rows img u)) (width_of u * q + i) 0)
    there = written.table-there (rows img) 8 u (width_of u * q + i) h (written.inside-rows (rows img) (theorems.limits img) refl widths u q i l g)

    agrees : get_or final (word_place firsts u q i) 0 ≡ get_or (get_or (rows img u) q []) i 0
    agrees =
        ap (λ k. get_or final k 0) place-is
        ∙ in-out (beginning u + (width_of u * q + i)) (omega (arith, there.0, out-size))
        ∙ get_or-append (table_words (rows img) 8) (theorems.limits img ++ map beginning (up_from 0 8)) 0 (beginning u + (width_of u * q + i)) there.0
        ∙ there.1 ∙ written.flat-word u (rows img u) q i (widths u) l g

    inside : word_place firsts u q i < length final
    inside = omega (arith, place-is, there.0, out-size, out-fits, final-length)

  abbrev row-widths : (u q : ℕ) → q < length (rows img u) → length (get_or (rows img u) q []) ≡ width_of u
  row-widths u q l = row-wide u (rows img u) q (widths u) l

  abbrev Done : Counts → Counts → Store → Store → Type 0
  Done = right.Done firsts final (rows img) agrees inside row-widths

  -- the rows
  abbrev zeros : List ℕ
  zeros = replicate room 0

  zeros-long : length zeros ≡ length final
  zeros-long = length-replicate room 0 ∙ sym final-length

  rules-done : Done (nothing img) (behind img) (store (replicate 8 0) zeros) (first img firsts zeros)
  rules-done =
      right.list-right firsts final (rows img) agrees inside row-widths (rule_tree img) rules (store (replicate 8 0) zeros) (nothing img)
      (tree-in (word_at img) 600 rules 0 (size_of img rules)) (omega arith) (empty-at img zeros) zeros-long
      (theorems.rules-stand (word_at img) (size_of img rules) (size_of img blocks) (right.from firsts final (rows img)) agrees)

  abbrev last : Store
  last = walk_list firsts blocks (block_tree img) (first img firsts zeros)

  first-long : length (first img firsts zeros).words ≡ length final
  first-long = right.list-length firsts (rule_tree img) rules (store (replicate 8 0) zeros) ∙ zeros-long

  blocks-done : Done (behind img) (whole img) (first img firsts zeros) last
  blocks-done =
      right.list-right firsts final (rows img) agrees inside row-widths (block_tree img) blocks (first img firsts zeros) (behind img)
      (tree-in (word_at img) 600 blocks 0 (size_of img blocks)) (omega arith) (first-at img firsts zeros) first-long
      (theorems.blocks-stand (word_at img) (size_of img rules) (size_of img blocks) (right.from firsts final (rows img)) agrees)

  abbrev Good : List ℕ → ℕ → Type 0
  Good l k = get_or l k 0 ≡ get_or final k 0

  rows-good : (u q i : ℕ) → u < 8 → q < length (rows img u) → i < width_of u → Good last.words (beginning u + width_of u * q + i)
  rows-good u q i h l g =
      let c = right.join-covers firsts final (rows img) agrees inside row-widths (nothing img) (behind img) (whole img) last
      (right.keep-covers firsts final (rows img) agrees inside row-widths (nothing img) (behind img) (first img firsts zeros) last blocks-done.kept rules-done.covers)
      blocks-done.covers in
      let e : word_place firsts u q i ≡ beginning u + width_of u * q + i = omega (arith, place-is u q i h l g) in
      rw e at (c u q i h (omega arith) (omega (arith, whole-is img u, theorems.table-count (word_at img) (size_of img rules) (size_of img blocks) u)) g)

  tables-good : (k : ℕ) → k < beginning 8 → Good last.words k
  tables-good k h = every-word (rows img) widths (Good last.words) 8 k h rows-good

  zeros-good : (k : ℕ) → length out ≤ k → Good last.words k
  zeros-good k h = blocks-done.kept k (rules-done.kept k (zeros-at room k ∙ sym (past-at out (room - length out) k h)))

  -- THE TRAILER -----------------------------------------------------------------------------------------------------------------------------------
  abbrev tail : List ℕ
  tail = theorems.limits img ++ map beginning (up_from 0 8)

  tail-at : (k : ℕ) → k < 13 → get_or final (end + k) 0 ≡ get_or tail k 0
  tail-at k h =
      ap (λ x. get_or final (x + k) 0) end-is ∙ in-out (beginning 8 + k) (omega (arith, out-size)) ∙ get_or-append-add (table_words (rows img) 8) tail k 0

  trailer-case : (k : ℕ) (b : Bool) → ltb k 5 ≡ b → k < 13 → cond b (trailer img k) (get_or firsts (k - 5) 0) ≡ get_or tail k 0
  trailer-case k true e h =
      let l = ltb-true k 5 e in
      sym (get_or-append (theorems.limits img) (map beginning (up_from 0 8)) 0 k l ∙ written.mapped-at (trailer img) 5 0 k l ∙ ap (trailer img) (zero-add k))
  trailer-case k false e h =
      let l = ltb-false k 5 e in
      let j = k - 5 in
      let f : k ≡ 5 + j = omega arith in
      first-is j (omega arith)
      ∙ sym (ap (λ x. get_or tail x 0) f ∙ get_or-append-add (theorems.limits img) (map beginning (up_from 0 8)) j 0
      ∙ written.mapped-at beginning 8 0 j (omega arith) ∙ ap beginning (zero-add j))

  trailer-good : (k : ℕ) → k < 13 → trailer_of img firsts k ≡ get_or final (end + k) 0
  unfolding trailer_of
  trailer-good k h = trailer-case k (ltb k 5) refl h ∙ sym (tail-at k h)

  record Put (l : List ℕ) (k : ℕ) : Type 0 where
    long : length (put_trailer img firsts end k l) ≡ length final
    kept : (i : ℕ) → Good l i → Good (put_trailer img firsts end k l) i
    puts : (j : ℕ) → j < k → Good (put_trailer img firsts end k l) (end + j)

  puts-case : (l : List ℕ) (k j : ℕ) → (j ≡ k) ⊎ (j < k) → k < 13 → Put l k → Good (set (put_trailer img firsts end k l) (end + k) (trailer_of img firsts k)) (end + j)
  puts-case l k j (inl e) h p =
      rw e (get_or-set_same (put_trailer img firsts end k l) (end + k) (trailer_of img firsts k) 0 (omega (arith, p.long, end-is, out-size, out-fits, final-length)) ∙ trailer-good k h)
  puts-case l k j (inr g) h p =
      right.set-right firsts final (rows img) (put_trailer img firsts end k l) (end + k) (trailer_of img firsts k) (end + j) (omega (arith, p.long, end-is, out-size, out-fits, final-length)) (trailer-good k h) (p.puts j g)

  put-all : (l : List ℕ) (k : ℕ) → length l ≡ length final → k ≤ 13 → Put l k
  unfolding put_trailer
  put-all l zero e h = record { long = e; kept = λ i g. g; puts = λ j g. absurd (omega arith) }
  put-all l (suc k) e h =
      let p = put-all l k e (omega arith) in
      let m : List ℕ = put_trailer img firsts end k l in
      record {
        long = length-set m (end + k) (trailer_of img firsts k) ∙ p.long;
        kept = λ i g.
            right.set-right firsts final (rows img) m (end + k) (trailer_of img firsts k) i (omega (arith, p.long, end-is, out-size, out-fits, final-length)) (trailer-good k (omega arith)) (p.kept i g);
        puts = λ j g. let o : j ≤ k = omega arith in puts-case l k j (eq-or-lt_of_le o) (omega arith) p;
      }

  last-long : length last.words ≡ length final
  last-long = right.list-length firsts (block_tree img) blocks (first img firsts zeros) ∙ first-long

  abbrev ended : Put last.words 13
  ended = put-all last.words 13 last-long (omega arith)

  good-case : (k : ℕ) → (k < beginning 8) ⊎ (beginning 8 ≤ k) → (k < length out) ⊎ (length out ≤ k) → Good (put_trailer img firsts end 13 last.words) k
  good-case k (inl l) o = ended.kept k (tables-good k l)
  good-case k (inr l) (inr o) = ended.kept k (zeros-good k o)
  good-case k (inr l) (inl o) =
      let e : end + (k - end) ≡ k = omega (arith, end-is) in
      rw e at (ended.puts (k - end) (omega (arith, end-is, out-size)))

  -- the written words
  pub all-written : put_trailer img firsts end 13 (walk_tables firsts img (store (replicate 8 0) zeros)).words ≡ lent room (words_of (tree_of img))
  all-written =
      ap (λ (s : Store). put_trailer img firsts end 13 s.words) (tables-are img firsts zeros)
      ∙ ext_get_or 0 (put_trailer img firsts end 13 last.words) final ended.long
      (λ k l. good-case k (below-or-not k (beginning 8) (ltb k (beginning 8)) refl) (below-or-not k (length out) (ltb k (length out)) refl))
      ∙ ap (lent room) (sym (theorems.words-are img))

  module _ (few : tree_size (tree_of img) ≤ 4096) (again words : List ℕ) (empty : again ≡ replicate 8 0) (clear : words ≡ replicate room 0) where
    same-whole : walk_tables firsts img (store again words) ≡ walk_tables firsts img (store (replicate 8 0) zeros)
    same-whole = ap₂ (λ (x y : List ℕ). walk_tables firsts img (store x y)) empty clear

    few-words : (n size : ℕ) (counts' written : List ℕ) → Walked (walk_tables firsts img (store again words)) n size counts' written → (4096 < size) ⊎ (size ≤ 4096) → size ≤ 4096
    few-words n size counts' written w (inl l) =
        absurd (omega (arith, few, w.over l, ap (λ (s : Store). size_for s.counts) same-whole, size-is img firsts zeros))
    few-words n size counts' written w (inr l) = l

    pub second-pass : (n size : ℕ) (counts' written trailed : List ℕ) → Walked (walk_tables firsts img (store again words)) n size counts' written
        → trailed ≡ put_trailer img firsts end 13 written → trailed ≡ lent room (words_of (tree_of img))
    second-pass n size counts' written trailed w e =
        let h = few-words n size counts' written w (below-or-not 4096 size (ltb 4096 size) refl) in
        e ∙ ap (λ (s : Store). put_trailer img firsts end 13 s.words) (w.within h ∙ same-whole) ∙ all-written
