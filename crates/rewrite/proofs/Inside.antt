-- No record mentions a rule or a block; every row has the width of its table. Assumes nothing.
use mathlib.Core.Path.{◌≡◌, refl, ap, ◌∙◌}
use mathlib.Core.Bool.{Bool, true, false, cond}
use mathlib.Core.List.{List, [], ◌∷◌, ◌++◌}
use Prim.Native.Nat.{ℕ, zero, suc, ◌<◌}
use native.Mathlib.Omega.{arith}
use lib.Dec.{eqb, leb, ltb}
use lib.ListN.{length}
use borrow.Author.Tests.{eq-eqb, ne_eqb, leb-true, eqb-true}
use Rattle.model.specs.declared.Field.{Field}
use Rattle.model.specs.declared.Field.TheVariants.{Free, UpTo, Mark, Tag, Index, Span, Nested}
use Rattle.model.specs.Lists.{all}
use Rattle.model.specs.Rows.{actions}
use Rattle.model.specs.Image.{width_of}
use Rattle.model.proofs.Bools.{all_append}
use Rattle.std.proofs.lemmas.Bool.{and_parts, and_from}
use Rattle.model.specs.Tree.{none, Cells, word, mention, Reader, cells_of, fields_of, record_at, list_of, records_of, record_count, only, below, below_cells, Counts, appended, rows_of, row_of, rows_below, rows_below_cells}
use Rattle.rewrite.proofs.Fields.{leads_inside, inner, fields-inside}
use Rattle.rewrite.proofs.Counts.{rows_of_list}
use Rattle.rewrite.proofs.ReadBack.{fields-width}

-- NO RULE AND NO BLOCK ------------------------------------------------------------------------------------------------------------------
module _ (u : ℕ) (top : u < 2) where
  none-of : (t n : ℕ) → inner t ≡ true → only t n u ≡ 0
  none-of t n e =
      let l = leb-true 2 t (and_parts (leb 2 t) (ltb t 8) e).0 in
      ap (λ b. cond b n 0) (ne_eqb t u (λ s. omega (arith, s)))

  module _ (deeper : Reader) (h : (t i n : ℕ) → below (deeper t i n) u ≡ 0) where
    mention-none : (t i n : ℕ) (cs : Cells) → inner t ≡ true → below_cells cs u ≡ 0 → below_cells (mention t (deeper t i n) cs) u ≡ 0
    unfolding below
    mention-none t i n cs e z = rw (none-of t (record_count (deeper t i n)) e, h t i n, z) refl

    tagged-none : (a : Bool) (t w : ℕ) (cs : Cells) → inner t ≡ true → below_cells cs u ≡ 0 → below_cells (cond a (mention t (deeper t w 1) cs) (word w cs)) u ≡ 0
    unfolding below
    tagged-none true t w cs e z = mention-none t w 1 cs e z
    tagged-none false t w cs e z = z

    cells-none : (fs : List Field) (w : ℕ → ℕ) → all leads_inside fs ≡ true → below_cells (cells_of deeper fs w) u ≡ 0
    unfolding cells_of below
    cells-none [] w a = refl
    cells-none (Free ∷ fs) w a = cells-none fs (λ j. w (suc j)) a
    cells-none (UpTo most ∷ fs) w a = cells-none fs (λ j. w (suc j)) a
    cells-none (Mark most value ∷ fs) w a = cells-none fs (λ j. w (suc j)) a
    cells-none (Tag t ∷ []) w a = refl
    cells-none (Tag t ∷ (f ∷ fs)) w a =
        let i = and_parts (inner t) (all leads_inside (f ∷ fs)) a in
        tagged-none (eqb (w 0) 0) t (w 1) (cells_of deeper fs (λ j. w (suc (suc j)))) i.0
        (cells-none fs (λ j. w (suc (suc j))) (and_parts (leads_inside f) (all leads_inside fs) i.1).1)
    cells-none (Index t ∷ fs) w a =
        let i = and_parts (inner t) (all leads_inside fs) a in
        mention-none t (w 0) 1 (cells_of deeper fs (λ j. w (suc j))) i.0 (cells-none fs (λ j. w (suc j)) i.1)
    cells-none (Span t ∷ []) w a = refl
    cells-none (Span t ∷ (f ∷ fs)) w a =
        let i = and_parts (inner t) (all leads_inside (f ∷ fs)) a in
        mention-none t (w 0) (w 1) (word (w 1) (cells_of deeper fs (λ j. w (suc (suc j))))) i.0
        (cells-none fs (λ j. w (suc (suc j))) (and_parts (leads_inside f) (all leads_inside fs) i.1).1)
    cells-none (Nested ∷ []) w a = refl
    cells-none (Nested ∷ (f ∷ fs)) w a =
        mention-none actions (w 0) (w 1) (word (w 1) (cells_of deeper fs (λ j. w (suc (suc j))))) refl
        (cells-none fs (λ j. w (suc (suc j))) (and_parts (leads_inside f) (all leads_inside fs) a).1)

    list-none : (at : ℕ → ℕ → ℕ → ℕ) (t i n : ℕ) → below (list_of at deeper t i n) u ≡ 0
    unfolding list_of below record_at
    list-none at t i zero = refl
    list-none at t i (suc n) =
        rw (cells-none (fields_of t (at t i 0) (at t i 1)) (at t i) (fields-inside t (at t i 0) (at t i 1)), list-none at t (suc i) n) refl

  pub none-below : (at : ℕ → ℕ → ℕ → ℕ) (depth t i n : ℕ) → below (records_of at depth t i n) u ≡ 0
  unfolding records_of below
  none-below at zero t i n = refl
  none-below at (suc depth) t i n = list-none (records_of at depth) (none-below at depth) at t i n

-- THE WIDTH OF A ROW --------------------------------------------------------------------------------------------------------------------
abbrev pub wide : ℕ → List ℕ → Bool
wide t row = eqb (length row) (width_of t)

module _ (u : ℕ) where
  -- the rows of table u that a list adds
  abbrev AllWide : Reader → Type 0
  AllWide deeper = (t i n : ℕ) (c : Counts) → all (wide u) (rows_of_list c t (deeper t i n) u) ≡ true

  module _ (deeper : Reader) (h : AllWide deeper) where
    tagged-length : (a : Bool) (t w n : ℕ) (cs : Cells) → ((c : Counts) → length (row_of c cs) ≡ n) → (c : Counts) → length (row_of c (cond a (mention t (deeper t w 1) cs) (word w cs))) ≡ suc n
    unfolding row_of
    tagged-length true t w n cs e c = ap suc (e _)
    tagged-length false t w n cs e c = ap suc (e c)

    row-length : (fs : List Field) (w : ℕ → ℕ) (c : Counts) → length (row_of c (cells_of deeper fs w)) ≡ length fs
    unfolding cells_of row_of
    row-length [] w c = refl
    row-length (Free ∷ fs) w c = ap suc (row-length fs (λ j. w (suc j)) c)
    row-length (UpTo most ∷ fs) w c = ap suc (row-length fs (λ j. w (suc j)) c)
    row-length (Mark most value ∷ fs) w c = ap suc (row-length fs (λ j. w (suc j)) c)
    row-length (Tag t ∷ []) w c = refl
    row-length (Tag t ∷ (f ∷ fs)) w c =
        ap suc (tagged-length (eqb (w 0) 0) t (w 1) (length fs) (cells_of deeper fs (λ j. w (suc (suc j)))) (row-length fs (λ j. w (suc (suc j)))) c)
    row-length (Index t ∷ fs) w c = ap suc (row-length fs (λ j. w (suc j)) _)
    row-length (Span t ∷ []) w c = refl
    row-length (Span t ∷ (f ∷ fs)) w c = ap suc (ap suc (row-length fs (λ j. w (suc (suc j))) _))
    row-length (Nested ∷ []) w c = refl
    row-length (Nested ∷ (f ∷ fs)) w c = ap suc (ap suc (row-length fs (λ j. w (suc (suc j))) _))

    tagged-wide : (a : Bool) (t w : ℕ) (cs : Cells) → ((c : Counts) → all (wide u) (rows_below_cells c cs u) ≡ true) → (c : Counts)
        → all (wide u) (rows_below_cells c (cond a (mention t (deeper t w 1) cs) (word w cs)) u) ≡ true
    unfolding rows_below
    tagged-wide true t w cs e c = all_append (wide u) (rows_of_list c t (deeper t w 1) u) _ (h t w 1 c) (e _)
    tagged-wide false t w cs e c = e c

    cells-wide : (fs : List Field) (w : ℕ → ℕ) (c : Counts) → all (wide u) (rows_below_cells c (cells_of deeper fs w) u) ≡ true
    unfolding cells_of rows_below
    cells-wide [] w c = refl
    cells-wide (Free ∷ fs) w c = cells-wide fs (λ j. w (suc j)) c
    cells-wide (UpTo most ∷ fs) w c = cells-wide fs (λ j. w (suc j)) c
    cells-wide (Mark most value ∷ fs) w c = cells-wide fs (λ j. w (suc j)) c
    cells-wide (Tag t ∷ []) w c = refl
    cells-wide (Tag t ∷ (f ∷ fs)) w c =
        tagged-wide (eqb (w 0) 0) t (w 1) (cells_of deeper fs (λ j. w (suc (suc j)))) (cells-wide fs (λ j. w (suc (suc j)))) c
    cells-wide (Index t ∷ fs) w c = all_append (wide u) (rows_of_list c t (deeper t (w 0) 1) u) _ (h t (w 0) 1 c) (cells-wide fs (λ j. w (suc j)) _)
    cells-wide (Span t ∷ []) w c = refl
    cells-wide (Span t ∷ (f ∷ fs)) w c = all_append (wide u) (rows_of_list c t (deeper t (w 0) (w 1)) u) _ (h t (w 0) (w 1) c) (cells-wide fs (λ j. w (suc (suc j))) _)
    cells-wide (Nested ∷ []) w c = refl
    cells-wide (Nested ∷ (f ∷ fs)) w c = all_append (wide u) (rows_of_list c actions (deeper actions (w 0) (w 1)) u) _ (h actions (w 0) (w 1) c) (cells-wide fs (λ j. w (suc (suc j))) _)

    module _ (at : ℕ → ℕ → ℕ → ℕ) (t : ℕ) where
      rows-wide : (n i : ℕ) (c : Counts) → all (wide t) (rows_of c (list_of at deeper t i n)) ≡ true
      unfolding list_of rows_of record_at
      rows-wide zero i c = refl
      rows-wide (suc n) i c =
          let fs = fields_of t (at t i 0) (at t i 1) in
          and_from _ _ (eq-eqb _ (width_of t) (row-length fs (at t i) c ∙ fields-width t (at t i 0) (at t i 1))) (rows-wide n (suc i) _)

      below-wide : (n i : ℕ) (c : Counts) → all (wide u) (rows_below c (list_of at deeper t i n) u) ≡ true
      unfolding list_of rows_below record_at
      below-wide zero i c = refl
      below-wide (suc n) i c =
          let fs = fields_of t (at t i 0) (at t i 1) in
          all_append (wide u) (rows_below_cells c (cells_of deeper fs (at t i)) u) _ (cells-wide fs (at t i) c) (below-wide n (suc i) _)

      own-wide : (b : Bool) → eqb t u ≡ b → (rows : List (List ℕ)) → all (wide t) rows ≡ true → all (wide u) (cond b rows []) ≡ true
      own-wide true e rows a = rw (eqb-true t u e) at a
      own-wide false e rows a = refl

      list-wide : (i n : ℕ) (c : Counts) → all (wide u) (rows_of_list c t (list_of at deeper t i n) u) ≡ true
      list-wide i n c =
          let rs = list_of at deeper t i n in
          all_append (wide u) (cond (eqb t u) (rows_of (appended c t rs) rs) []) _ (own-wide (eqb t u) refl (rows_of (appended c t rs) rs) (rows-wide n i (appended c t rs))) (below-wide n i (appended c t rs))

  none-wide : (b : Bool) (c : Counts) → all (wide u) (cond b (rows_of c none) [] ++ rows_below c none u) ≡ true
  unfolding rows_of rows_below
  none-wide true c = refl
  none-wide false c = refl

  pub lists-wide : (at : ℕ → ℕ → ℕ → ℕ) (depth : ℕ) → AllWide (records_of at depth)
  unfolding records_of
  lists-wide at zero t i n c = none-wide (eqb t u) _
  lists-wide at (suc depth) t i n c = list-wide (records_of at depth) (lists-wide at depth) at t i n c
