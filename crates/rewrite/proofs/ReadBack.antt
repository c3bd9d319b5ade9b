-- What is read from written tables is the tree that was written. Assumes nothing of the image that the tree was read from.
use mathlib.Core.Path.{◌≡◌, refl, sym, ap, ap₂, ◌∙◌}
use mathlib.Core.Bool.{Bool, true, false, cond}
use mathlib.Core.List.{List, [], ◌∷◌, ◌++◌}
use Prim.Native.Nat.{ℕ, zero, suc, ◌+◌, ◌<◌}
use native.Mathlib.Nat.{add-zero}
use native.Mathlib.Omega.{arith}
use lib.Dec.{eqb, leb, ltb}
use lib.ListN.{length, get_or, length-append, length-map, get_or-append}
use lib.Seq.{get_or-append-add}
use borrow.Author.Tests.{eq-eqb, ltb-true}
use Rattle.model.specs.declared.Field.{Field}
use Rattle.model.specs.declared.Field.TheVariants.{Free, UpTo, Mark, Tag, Index, Span, Nested}
use Rattle.model.specs.Lists.{all, up_from}
use Rattle.model.specs.Rows.{actions, values, field_of}
use Rattle.model.specs.Image.{width_of}
use Rattle.std.proofs.lemmas.Bool.{and_parts}
use Rattle.model.proofs.ListLaws.{length-up_from}
use Rattle.model.specs.Tree.{Records, record-of, Cells, word, mention, Reader, tagged, cells_of, fields_of, record_at, list_of, records_of, record_count, below, below_cells, Counts, ◌⊕◌, place_of, appended, rows_of, row_of, rows_below, rows_below_cells}
use Rattle.rewrite.proofs.Fields.{fields-kept, leads_inside, inner, fields-inside}
use Rattle.rewrite.proofs.Counts.{rows-count, rows_of_list, own-count, cells-count, list-count}

pub fields-width : (t kind code : ℕ) → length (fields_of t kind code) ≡ width_of t
unfolding fields_of
fields-width t kind code = length-map (up_from 0 (width_of t)) (field_of t kind code) ∙ length-up_from 0 (width_of t)

below-eight : (t : ℕ) → inner t ≡ true → t < 8
below-eight t e = ltb-true t 8 (and_parts (leb 2 t) (ltb t 8) e).1

pub some-word : (t : ℕ) → 0 < width_of t
unfolding width_of
some-word t = go (eqb t 0) (eqb t 7)
  where
    go : (a b : Bool) → 0 < cond a 16 (cond b 1 8)
    go true b = omega arith
    go false true = omega arith
    go false false = omega arith

value-words : (t : ℕ) → t ≡ values → 1 < width_of t
unfolding width_of
value-words t e = rw e (omega arith)

-- tables of rows, and word j of record i of table t as it is read from them
module _ (tables : ℕ → List (List ℕ)) (from : ℕ → ℕ → ℕ → ℕ)
    (agrees : (t i j : ℕ) → t < 8 → i < length (tables t) → j < width_of t → from t i j ≡ get_or (get_or (tables t) i []) j 0) where
  -- of each table the rows `rows` stand there, from row `c` on
  abbrev pub Stands : Counts → (ℕ → List (List ℕ)) → Type 0
  Stands c rows = (u k : ℕ) → k < length (rows u) → (c u + k < length (tables u)) × (get_or (tables u) (c u + k) [] ≡ get_or (rows u) k [])

  pub left-part : (c : Counts) (xs ys : ℕ → List (List ℕ)) → Stands c (λ u. xs u ++ ys u) → Stands c xs
  left-part c xs ys h u k l =
      let x = h u k (rw (length-append (xs u) (ys u)) (omega arith)) in
      (x.0, x.1 ∙ get_or-append (xs u) (ys u) [] k l)

  pub right-part : (c d : Counts) (xs ys : ℕ → List (List ℕ)) → ((u : ℕ) → d u ≡ c u + length (xs u)) → Stands c (λ u. xs u ++ ys u) → Stands d ys
  right-part c d xs ys e h u k l =
      let m : d u + k ≡ c u + (length (xs u) + k) = omega (arith, e u) in
      let f : length (xs u) + k < length (xs u ++ ys u) = rw (length-append (xs u) (ys u)) (omega arith) in
      let x = h u (length (xs u) + k) f in
      rw m (x.0, x.1 ∙ get_or-append-add (xs u) (ys u) k [])

  -- a list that stands there is read back from its place
  abbrev pub ReadsBack : Reader → Reader → Type 0
  ReadsBack deeper back = (t i n : ℕ) (c : Counts) → t < 8 → Stands c (rows_of_list c t (deeper t i n)) → back t (place_of (c t) (deeper t i n)) n ≡ deeper t i n

  -- A ROW -------------------------------------------------------------------------------------------------------------------------------
  module _ (deeper back : Reader) (reads : ReadsBack deeper back) where
    abbrev after : Counts → ℕ → Records → Counts
    after c t rs = (appended c t rs) ⊕ below rs

    -- the first n words of the row of `cs`
    abbrev IsRow : ℕ → Counts → (ℕ → ℕ) → Cells → Type 0
    IsRow n c w cs = (j : ℕ) → j < n → w j ≡ get_or (row_of c cs) j 0

    -- a mention of n records, where the row goes on with `cs`
    module _ (c : Counts) (t i n : ℕ) (cs : Cells) (stands : Stands c (rows_below_cells c (mention t (deeper t i n) cs))) where
      list-read : t < 8 → (p : ℕ) → p ≡ place_of (c t) (deeper t i n) → back t p n ≡ deeper t i n
      unfolding rows_below
      list-read l p e =
          rw e (reads t i n c l (left-part c (rows_of_list c t (deeper t i n)) (rows_below_cells (after c t (deeper t i n)) cs) stands))

      rest-stands : Stands (after c t (deeper t i n)) (rows_below_cells (after c t (deeper t i n)) cs)
      unfolding rows_below
      rest-stands =
          right-part c (after c t (deeper t i n)) (rows_of_list c t (deeper t i n)) (rows_below_cells (after c t (deeper t i n)) cs)
          (λ u. omega (arith, list-count (deeper t i n) c t u)) stands

    -- the cells `cs` of n words are read back as `xs`, wherever they stand
    abbrev RestReads : ℕ → (ℕ → ℕ) → Cells → Cells → Type 0
    RestReads n v xs cs = (c : Counts) → IsRow n c v cs → Stands c (rows_below_cells c cs) → xs ≡ cs

    module _ (c : Counts) (t : ℕ) (inside : t < 8) (w v : ℕ → ℕ) (xs cs : Cells) (n : ℕ) where
      index-read : RestReads n (λ j. v (suc j)) xs cs → IsRow (suc n) c v (mention t (deeper t (w 0) 1) cs)
          → Stands c (rows_below_cells c (mention t (deeper t (w 0) 1) cs)) → mention t (back t (v 0) 1) xs ≡ mention t (deeper t (w 0) 1) cs
      unfolding row_of
      index-read rest row s =
          ap₂ (mention t) (list-read c t (w 0) 1 cs s inside (v 0) (row 0 (omega arith)))
          (rest (after c t (deeper t (w 0) 1)) (λ j l. row (suc j) (omega arith)) (rest-stands c t (w 0) 1 cs s))

      tagged-read : (a : Bool) → RestReads n (λ j. v (suc j)) xs cs
          → IsRow (suc n) c v (cond a (mention t (deeper t (w 0) 1) cs) (word (w 0) cs)) → Stands c (rows_below_cells c (cond a (mention t (deeper t (w 0) 1) cs) (word (w 0) cs)))
          → cond a (mention t (back t (v 0) 1) xs) (word (v 0) xs) ≡ cond a (mention t (deeper t (w 0) 1) cs) (word (w 0) cs)
      unfolding row_of rows_below
      tagged-read true rest row s = index-read rest row s
      tagged-read false rest row s = ap₂ word (row 0 (omega arith)) (rest c (λ j l. row (suc j) (omega arith)) s)

      span-read : RestReads n (λ j. v (suc (suc j))) xs cs → IsRow (suc (suc n)) c v (mention t (deeper t (w 0) (w 1)) (word (w 1) cs))
          → Stands c (rows_below_cells c (mention t (deeper t (w 0) (w 1)) (word (w 1) cs)))
          → mention t (back t (v 0) (v 1)) (word (v 1) xs) ≡ mention t (deeper t (w 0) (w 1)) (word (w 1) cs)
      unfolding row_of rows_below
      span-read rest row s =
          ap₂ (mention t) (ap (back t (v 0)) (row 1 (omega arith)) ∙ list-read c t (w 0) (w 1) (word (w 1) cs) s inside (v 0) (row 0 (omega arith)))
          (ap₂ word (row 1 (omega arith)) (rest (after c t (deeper t (w 0) (w 1))) (λ j l. row (suc (suc j)) (omega arith)) (rest-stands c t (w 0) (w 1) (word (w 1) cs) s)))

    cells-read : (fs : List Field) (w v : ℕ → ℕ) → all leads_inside fs ≡ true → RestReads (length fs) v (cells_of back fs v) (cells_of deeper fs w)
    unfolding cells_of row_of rows_below
    cells-read [] w v h c row s = refl
    cells-read (Free ∷ fs) w v h c row s = ap₂ word (row 0 (omega arith)) (cells-read fs (λ j. w (suc j)) (λ j. v (suc j)) h c (λ j l. row (suc j) (omega arith)) s)
    cells-read (UpTo most ∷ fs) w v h c row s = ap₂ word (row 0 (omega arith)) (cells-read fs (λ j. w (suc j)) (λ j. v (suc j)) h c (λ j l. row (suc j) (omega arith)) s)
    cells-read (Mark most value ∷ fs) w v h c row s = ap₂ word (row 0 (omega arith)) (cells-read fs (λ j. w (suc j)) (λ j. v (suc j)) h c (λ j l. row (suc j) (omega arith)) s)
    cells-read (Tag t ∷ []) w v h c row s = ap₂ word (row 0 (omega arith)) refl
    cells-read (Tag t ∷ (f ∷ fs)) w v h c row s =
        let i = and_parts (inner t) (all leads_inside (f ∷ fs)) h in
        ap₂ word (row 0 (omega arith))
        (ap (λ x. tagged back t x (v 1) (cells_of back fs (λ j. v (suc (suc j))))) (row 0 (omega arith))
        ∙ tagged-read c t (below-eight t i.0) (λ j. w (suc j)) (λ j. v (suc j)) (cells_of back fs (λ j. v (suc (suc j)))) (cells_of deeper fs (λ j. w (suc (suc j)))) (length fs) (eqb (w 0) 0)
        (cells-read fs (λ j. w (suc (suc j))) (λ j. v (suc (suc j))) (and_parts (leads_inside f) (all leads_inside fs) i.1).1) (λ j l. row (suc j) (omega arith)) s)
    cells-read (Index t ∷ fs) w v h c row s =
        let i = and_parts (inner t) (all leads_inside fs) h in
        index-read c t (below-eight t i.0) w v (cells_of back fs (λ j. v (suc j))) (cells_of deeper fs (λ j. w (suc j))) (length fs)
        (cells-read fs (λ j. w (suc j)) (λ j. v (suc j)) i.1) row s
    cells-read (Span t ∷ []) w v h c row s = ap₂ word (row 0 (omega arith)) refl
    cells-read (Span t ∷ (f ∷ fs)) w v h c row s =
        let i = and_parts (inner t) (all leads_inside (f ∷ fs)) h in
        span-read c t (below-eight t i.0) w v (cells_of back fs (λ j. v (suc (suc j)))) (cells_of deeper fs (λ j. w (suc (suc j)))) (length fs)
        (cells-read fs (λ j. w (suc (suc j))) (λ j. v (suc (suc j))) (and_parts (leads_inside f) (all leads_inside fs) i.1).1) row s
    cells-read (Nested ∷ []) w v h c row s = ap₂ word (row 0 (omega arith)) refl
    cells-read (Nested ∷ (f ∷ fs)) w v h c row s =
        span-read c actions (omega arith) w v (cells_of back fs (λ j. v (suc (suc j)))) (cells_of deeper fs (λ j. w (suc (suc j)))) (length fs)
        (cells-read fs (λ j. w (suc (suc j))) (λ j. v (suc (suc j))) (and_parts (leads_inside f) (all leads_inside fs) h).1) row s

    -- A LIST ----------------------------------------------------------------------------------------------------------------------------
    module _ (at : ℕ → ℕ → ℕ → ℕ) (t : ℕ) (inside : t < 8) where
      record-read : (i p : ℕ) (c : Counts) → (p < length (tables t)) × (get_or (tables t) p [] ≡ row_of c (record_at at deeper t i))
          → Stands c (rows_below_cells c (record_at at deeper t i)) → record_at from back t p ≡ record_at at deeper t i
      unfolding record_at
      record-read i p c e s =
          let fs = fields_of t (at t i 0) (at t i 1) in
          let reads-word : (j : ℕ) → j < width_of t → from t p j ≡ get_or (row_of c (cells_of deeper fs (at t i))) j 0
          = λ j h. agrees t p j inside e.0 h ∙ ap (λ (x : List ℕ). get_or x j 0) e.1 in
          let same : fields_of t (from t p 0) (from t p 1) ≡ fs =
          fields-kept deeper c t (at t i) (from t p 0) (from t p 1) (reads-word 0 (some-word t)) (λ v. reads-word 1 (value-words t v)) in
          ap (λ (x : List Field). cells_of back x (from t p)) same
          ∙ cells-read fs (at t i) (from t p) (fields-inside t (at t i 0) (at t i 1)) c (λ j h. reads-word j (rw (fields-width t (at t i 0) (at t i 1)) at h)) s

      list-back : (n i p : ℕ) (c : Counts) → ((k : ℕ) → k < n → (p + k < length (tables t)) × (get_or (tables t) (p + k) [] ≡ get_or (rows_of c (list_of at deeper t i n)) k []))
          → Stands c (rows_below c (list_of at deeper t i n)) → list_of from back t p n ≡ list_of at deeper t i n
      unfolding list_of rows_of rows_below
      list-back zero i p c rows s = refl
      list-back (suc n) i p c rows s =
          let cs = record_at at deeper t i in
          let rest = list_of at deeper t (suc i) n in
          let first = rows 0 (omega arith) in
          ap₂ record-of
          (record-read i p c (omega (arith, first.0), ap (λ x. get_or (tables t) x []) (sym (add-zero p)) ∙ first.1) (left-part c (rows_below_cells c cs) (rows_below (c ⊕ below_cells cs) rest) s))
          (list-back n (suc i) (suc p) (c ⊕ below_cells cs)
          (λ k l. let e : suc p + k ≡ p + suc k = omega arith in rw e (rows (suc k) (omega arith)))
          (right-part c (c ⊕ below_cells cs) (rows_below_cells c cs) (rows_below (c ⊕ below_cells cs) rest) (λ u. omega (arith, cells-count cs c u)) s))

      pub list-size : (n i : ℕ) → record_count (list_of at deeper t i n) ≡ n
      unfolding list_of
      list-size zero i = refl
      list-size (suc n) i = ap suc (list-size n (suc i))

      -- a list that is not empty stands at its place
      place-read : (n i : ℕ) (c : Counts) → Stands c (rows_of_list c t (list_of at deeper t i n)) → list_of from back t (c t) n ≡ list_of at deeper t i n
      place-read n i c s =
          let rs = list_of at deeper t i n in
          let d : Counts = appended c t rs in
          let own : ℕ → List (List ℕ) = λ u. cond (eqb t u) (rows_of d rs) [] in
          let here : own t ≡ rows_of d rs = ap (λ b. cond b (rows_of d rs) []) (eq-eqb t t refl) in
          let size : length (own t) ≡ n = ap length here ∙ rows-count d rs ∙ list-size n i in
          list-back n i (c t) d
          (λ k l. let x = left-part c own (rows_below d rs) s t k (rw size l) in (x.0, x.1 ∙ ap (λ (y : List (List ℕ)). get_or y k []) here))
          (right-part c d own (rows_below d rs) (λ u. ap (λ x. c u + x) (sym (own-count (eqb t u) d rs))) s)

      empty-or-place : (n i : ℕ) (c : Counts) → Stands c (rows_of_list c t (list_of at deeper t i n))
          → list_of from back t (place_of (c t) (list_of at deeper t i n)) n ≡ list_of at deeper t i n
      unfolding list_of
      empty-or-place zero i c s = refl
      empty-or-place (suc n) i c s = place-read (suc n) i c s

  -- lists that nest so deep
  pub lists-read : (at : ℕ → ℕ → ℕ → ℕ) (depth : ℕ) → ReadsBack (records_of at depth) (records_of from depth)
  unfolding records_of
  lists-read at zero t i n c l s = refl
  lists-read at (suc depth) t i n c l s = empty-or-place (records_of at depth) (records_of from depth) (lists-read at depth) at t l n i c s
