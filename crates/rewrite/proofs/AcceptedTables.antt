-- (a), fifth part: the written words of an accepted image pass 13 and 14.
-- More than 400 lines, as one file: its lemmas serve the one law `out-passes`, and nothing else.
use mathlib.Core.Path.{◌≡◌, refl, sym, ap, ap₂, ◌∙◌, subst}
use mathlib.Core.Bool.{Bool, true, false, cond, not, ◌&&◌, ◌||◌, false≢true}
use mathlib.Core.List.{List, [], ◌∷◌, ◌++◌}
use Prim.Native.Nat.{ℕ, zero, suc, ◌+◌, ◌-◌, ◌<◌, ◌≤◌}
use native.Mathlib.Nat.{add-zero, zero-add}
use native.Mathlib.Decide.{dec_le}
use native.Mathlib.Omega.{arith}
use lib.Dec.{eqb, leb, ltb}
use lib.ListN.{length, get_or, length-append}
use borrow.Author.Tests.{eq-eqb, eqb-true, lt-ltb, le-leb}
use Rattle.model.specs.declared.Field.{Field}
use Rattle.model.specs.declared.Field.TheVariants.{Free, UpTo, Mark, Tag, Index, Span, Nested}
use Rattle.model.specs.Field.{fits}
use Rattle.model.specs.Rows.{actions, values, rules, blocks}
use Rattle.model.specs.Image.{width_of, size_of, word_at, leads, tables_pass}
use Rattle.model.proofs.Bools.{or-true}
use Rattle.std.proofs.lemmas.Bool.{and_parts, and_from}
use Rattle.model.specs.Tree.{Records, none, record-of, Cells, end, word, mention, Reader, cells_of, fields_of, record_at, list_of, records_of, lists_of, record_count, below, below_cells, Counts, ◌⊕◌, place_of, appended, rows_of, row_of, rows_below, rows_below_cells, tables_of}
use Rattle.rewrite.proofs.Fields.{fields-kept}
use Rattle.rewrite.proofs.Counts.{rows-count, rows_of_list, own-count, cells-count, list-count}
use Rattle.rewrite.proofs.ReadBack.{fields-width, some-word, Stands, left-part, right-part, list-size, lists-read}
use Rattle.rewrite.proofs.Theorems as theorems
use Rattle.rewrite.proofs.Written as written
use Rattle.rewrite.proofs.AcceptedFields.{simple, free, first_simple, down, well, fields-well}
use Rattle.rewrite.proofs.AcceptedRange.{word_fits, row_fits, Fits, tables-pass, Mentions, need, Within, within-next, all-within, first-fits, rest-fits}

value-words : (t : ℕ) → t ≡ values → 1 < width_of t
unfolding width_of
value-words t e = rw e (omega arith)

-- A WORD OF A SIMPLE FIELD ----------------------------------------------------------------------------------------------------------------
module _ (img out : List ℕ) where
  simple-fits : (f : Field) (k p x y a b : ℕ) → simple f ≡ true → y ≡ x → word_fits img k f x a ≡ true → word_fits out p f y b ≡ true
  unfolding fits leads
  simple-fits Free k p x y a b h e r = refl
  simple-fits (UpTo most) k p x y a b h e r = ap (λ z. leb z most && true) e ∙ r
  simple-fits (Mark most value) k p x y a b h e r = absurd (false≢true h)
  simple-fits (Tag t) k p x y a b h e r = absurd (false≢true h)
  simple-fits (Index t) k p x y a b h e r = absurd (false≢true h)
  simple-fits (Span t) k p x y a b h e r = absurd (false≢true h)
  simple-fits Nested k p x y a b h e r = absurd (false≢true h)

free-fits : (out : List ℕ) (f : Field) (p x y : ℕ) → free f ≡ true → word_fits out p f x y ≡ true
unfolding fits leads
free-fits out Free p x y h = refl
free-fits out (UpTo most) p x y h = absurd (false≢true h)
free-fits out (Mark most value) p x y h = absurd (false≢true h)
free-fits out (Tag t) p x y h = absurd (false≢true h)
free-fits out (Index t) p x y h = absurd (false≢true h)
free-fits out (Span t) p x y h = absurd (false≢true h)
free-fits out Nested p x y h = absurd (false≢true h)

-- it stands in the row as it is
first-written : (deeper : Reader) (fs : List Field) (w : ℕ → ℕ) (c : Counts) → first_simple fs ≡ true → (0 < length fs) × (get_or (row_of c (cells_of deeper fs w)) 0 0 ≡ w 0)
unfolding cells_of row_of
first-written deeper [] w c h = absurd (false≢true h)
first-written deeper (Free ∷ fs) w c h = (omega arith, refl)
first-written deeper (UpTo most ∷ fs) w c h = (omega arith, refl)
first-written deeper (Mark most value ∷ fs) w c h = absurd (false≢true h)
first-written deeper (Tag t ∷ fs) w c h = absurd (false≢true h)
first-written deeper (Index t ∷ fs) w c h = absurd (false≢true h)
first-written deeper (Span t ∷ fs) w c h = absurd (false≢true h)
first-written deeper (Nested ∷ fs) w c h = absurd (false≢true h)

-- the image that is written, and its tables
module _ (img out : List ℕ) (tables : ℕ → List (List ℕ))
    (agrees : (t i j : ℕ) → t < 8 → i < length (tables t) → j < width_of t → word_at out t i j ≡ get_or (get_or (tables t) i []) j 0)
    (sizes : (t : ℕ) → t < 8 → size_of out t ≡ length (tables t)) where
  abbrev at : ℕ → ℕ → ℕ → ℕ
  at = word_at img

  abbrev from : ℕ → ℕ → ℕ → ℕ
  from = word_at out

  abbrev Standing : Counts → (ℕ → List (List ℕ)) → Type 0
  Standing = Stands tables from agrees

  abbrev after : Counts → ℕ → Records → Counts
  after c t rs = (appended c t rs) ⊕ below rs

  -- WHERE A LIST IS WRITTEN ---------------------------------------------------------------------------------------------------------------
  -- n records that stand there end within their table
  place-fits : (c : Counts) (u n : ℕ) (rs : Records) → record_count rs ≡ n → Standing c (rows_of_list c u rs) → place_of (c u) rs + n ≤ length (tables u)
  place-fits c u n none e s = omega (arith, e)
  place-fits c u n (record-of cs rs) e s =
      let own : cond (eqb u u) (suc (record_count rs)) 0 ≡ suc (record_count rs) = ap (λ b. cond b (suc (record_count rs)) 0) (eq-eqb u u refl) in
      let l : record_count rs < length (rows_of_list c u (record-of cs rs) u) = omega (arith, list-count (record-of cs rs) c u u, own) in
      omega (arith, (s u (record_count rs) l).0, e)

  -- a list of actions stands behind what was written before
  place-behind : (p c n : ℕ) (rs : Records) → record_count rs ≡ n → p < c → eqb n 0 || ltb p (place_of c rs) ≡ true
  place-behind p c n none e h = ap (λ b. b || ltb p 0) (eq-eqb n 0 (sym e))
  place-behind p c n (record-of cs rs) e h = ap (λ b. eqb n 0 || b) (lt-ltb p c h) ∙ or-true (eqb n 0)

  module _ (depth : ℕ) where
    abbrev deeper : Reader
    deeper = records_of at depth

    counted : (u i n : ℕ) → Within img depth u i n → record_count (deeper u i n) ≡ n
    unfolding records_of
    counted u i n h = go depth n h.deep
      where
        go : (d m : ℕ) → (0 < m → need (size_of img actions) u i ≤ d) → record_count (records_of at d u i m) ≡ m
        go zero zero k = refl
        go zero (suc m) k = absurd (omega (arith, k (omega arith)))
        go (suc d) m k = list-size tables from agrees (records_of at d) (records_of from d) (lists-read tables from agrees at d) at u h.table m i

    -- a mention, where the row goes on with `cs`
    module _ (c : Counts) (u i n : ℕ) (cs : Cells) (s : Standing c (rows_below_cells c (mention u (deeper u i n) cs))) where
      list-stands : Standing c (rows_of_list c u (deeper u i n))
      unfolding rows_below
      list-stands = left-part tables from agrees c (rows_of_list c u (deeper u i n)) (rows_below_cells (after c u (deeper u i n)) cs) s

      rest-stands : Standing (after c u (deeper u i n)) (rows_below_cells (after c u (deeper u i n)) cs)
      unfolding rows_below
      rest-stands =
          right-part tables from agrees c (after c u (deeper u i n)) (rows_of_list c u (deeper u i n)) (rows_below_cells (after c u (deeper u i n)) cs)
          (λ x. omega (arith, list-count (deeper u i n) c u x)) s

      -- where its list ends
      list-ends : Within img depth u i n → place_of (c u) (deeper u i n) + n ≤ size_of out u
      list-ends h = rw (sizes u h.table) (place-fits c u n (deeper u i n) (counted u i n h) list-stands)

    -- A ROW -------------------------------------------------------------------------------------------------------------------------------
    -- of record k of the image, written as record p
    module _ (t k p : ℕ) where
      -- the first n words of the row of `cs`
      abbrev IsRow : ℕ → Counts → (ℕ → ℕ) → Cells → Type 0
      IsRow n c v cs = (j : ℕ) → j < n → v j ≡ get_or (row_of c cs) j 0

      -- actions are written behind record p, if that is one
      abbrev Behind : Counts → Type 0
      Behind c = eqb t actions ≡ true → p < c actions

      behind-after : (c : Counts) (u : ℕ) (rs : Records) → Behind c → Behind (after c u rs)
      behind-after c u rs h e = omega (arith, h e)

      -- the row of the words v of the fields fs, whose words in the image are w
      abbrev Written : List Field → (ℕ → ℕ) → (ℕ → ℕ) → Type 0
      Written fs w v =
          (c : Counts) → Behind c → IsRow (length fs) c v (cells_of deeper fs w) → Standing c (rows_below_cells c (cells_of deeper fs w)) → row_fits out p fs v ≡ true

      tagged-written : (b : Bool) (u : ℕ) (f : Field) (fs : List Field) (w v : ℕ → ℕ) → eqb (w 0) 0 ≡ b → free f ≡ true → row_fits img k (Tag u ∷ (f ∷ fs)) w ≡ true
          → (eqb (w 0) 0 ≡ true → Within img depth u (w 1) 1) → Written fs (λ j. w (suc (suc j))) (λ j. v (suc (suc j)))
          → (c : Counts) → Behind c → v 0 ≡ w 0
          → IsRow (suc (length fs)) c (λ j. v (suc j)) (cond b (mention u (deeper u (w 1) 1) (cells_of deeper fs (λ j. w (suc (suc j))))) (word (w 1) (cells_of deeper fs (λ j. w (suc (suc j))))))
          → Standing c (rows_below_cells c (cond b (mention u (deeper u (w 1) 1) (cells_of deeper fs (λ j. w (suc (suc j))))) (word (w 1) (cells_of deeper fs (λ j. w (suc (suc j)))))))
          → row_fits out p (Tag u ∷ (f ∷ fs)) v ≡ true
      unfolding row_of rows_below fits leads
      tagged-written true u f fs w v e g r m rest c q first row s =
          let cs = cells_of deeper fs (λ j. w (suc (suc j))) in
          let place : v 1 ≡ place_of (c u) (deeper u (w 1) 1) = row 0 (omega arith) in
          let small = (and_parts (leb (w 0) 1) (not (eqb (w 0) 0) || ltb (w 1) (size_of img u)) (first-fits img k (Tag u) (f ∷ fs) w r)).0 in
          let inside : ltb (v 1) (size_of out u) ≡ true = lt-ltb (v 1) (size_of out u) (omega (arith, place, list-ends c u (w 1) 1 cs s (m e))) in
          and_from _ _
          (and_from _ _ (ap (λ x. leb x 1) first ∙ small) (ap (λ b. not (eqb (v 0) 0) || b) inside ∙ or-true (not (eqb (v 0) 0))))
          (and_from _ _ (free-fits out f p (v 1) (v 2) g)
          (rest (after c u (deeper u (w 1) 1)) (behind-after c u (deeper u (w 1) 1) q) (λ j l. row (suc j) (omega arith)) (rest-stands c u (w 1) 1 cs s)))
      tagged-written false u f fs w v e g r m rest c q first row s =
          let small = (and_parts (leb (w 0) 1) (not (eqb (w 0) 0) || ltb (w 1) (size_of img u)) (first-fits img k (Tag u) (f ∷ fs) w r)).0 in
          let text : eqb (v 0) 0 ≡ false = ap (λ x. eqb x 0) first ∙ e in
          and_from _ _
          (and_from _ _ (ap (λ x. leb x 1) first ∙ small) (ap (λ b. not b || ltb (v 1) (size_of out u)) text))
          (and_from _ _ (free-fits out f p (v 1) (v 2) g) (rest c q (λ j l. row (suc j) (omega arith)) s))

      -- a list of n records, and the word behind it
      list-written : (u : ℕ) (f : Field) (fs : List Field) (w v : ℕ → ℕ) → simple f ≡ true → row_fits img k (f ∷ fs) (λ j. w (suc j)) ≡ true
          → Written fs (λ j. w (suc (suc j))) (λ j. v (suc (suc j)))
          → (c : Counts) → Behind c → IsRow (suc (suc (length fs))) c v (mention u (deeper u (w 0) (w 1)) (word (w 1) (cells_of deeper fs (λ j. w (suc (suc j))))))
          → Standing c (rows_below_cells c (mention u (deeper u (w 0) (w 1)) (word (w 1) (cells_of deeper fs (λ j. w (suc (suc j)))))))
          → row_fits out p (f ∷ fs) (λ j. v (suc j)) ≡ true
      unfolding row_of rows_below
      list-written u f fs w v g r rest c q row s =
          let cs = word (w 1) (cells_of deeper fs (λ j. w (suc (suc j)))) in
          and_from _ _
          (simple-fits img out f k p (w 1) (v 1) (w 2) (v 2) g (row 1 (omega arith)) (first-fits img k f fs (λ j. w (suc j)) r))
          (rest (after c u (deeper u (w 0) (w 1))) (behind-after c u (deeper u (w 0) (w 1)) q) (λ j l. row (suc (suc j)) (omega arith)) (rest-stands c u (w 0) (w 1) cs s))

      row-written : (fs : List Field) (w v : ℕ → ℕ) → well t fs ≡ true → row_fits img k fs w ≡ true → Mentions (Within img depth) fs w → Written fs w v
      unfolding cells_of row_of rows_below fits leads
      row-written [] w v h r m c q row s = refl
      row-written (Free ∷ fs) w v h r m c q row s = row-written fs (λ j. w (suc j)) (λ j. v (suc j)) h r m c q (λ j l. row (suc j) (omega arith)) s
      row-written (UpTo most ∷ fs) w v h r m c q row s =
          and_from _ _ (ap (λ y. leb y most && true) (row 0 (omega arith)) ∙ first-fits img k (UpTo most) fs w r)
          (row-written fs (λ j. w (suc j)) (λ j. v (suc j)) h (rest-fits img k (UpTo most) fs w r) m c q (λ j l. row (suc j) (omega arith)) s)
      row-written (Mark most value ∷ fs) w v h r m c q row s =
          let a = and_parts (first_simple fs) (well t fs) h in
          let next = first-written deeper fs (λ j. w (suc j)) c a.0 in
          and_from _ _ (ap₂ (λ y z. (leb y most && (eqb y value || eqb z 0)) && true) (row 0 (omega arith)) (row 1 (omega (arith, next.0)) ∙ next.1) ∙ first-fits img k (Mark most value) fs w r)
          (row-written fs (λ j. w (suc j)) (λ j. v (suc j)) a.1 (rest-fits img k (Mark most value) fs w r) m c q (λ j l. row (suc j) (omega arith)) s)
      row-written (Tag u ∷ []) w v h r m c q row s = absurd (false≢true h)
      row-written (Tag u ∷ (f ∷ fs)) w v h r m c q row s =
          let a = and_parts (down t u && free f) (well t fs) h in
          let x = rest-fits img k f fs (λ j. w (suc j)) (rest-fits img k (Tag u) (f ∷ fs) w r) in
          tagged-written (eqb (w 0) 0) u f fs w v refl (and_parts (down t u) (free f) a.0).1 r m.0
          (row-written fs (λ j. w (suc (suc j))) (λ j. v (suc (suc j))) a.1 x m.1) c q (row 0 (omega arith)) (λ j l. row (suc j) (omega arith)) s
      row-written (Index u ∷ fs) w v h r m c q row s =
          let a = and_parts (down t u) (well t fs) h in
          let cs = cells_of deeper fs (λ j. w (suc j)) in
          and_from _ _ (lt-ltb (v 0) (size_of out u) (omega (arith, row 0 (omega arith), list-ends c u (w 0) 1 cs s m.0)))
          (row-written fs (λ j. w (suc j)) (λ j. v (suc j)) a.1 (rest-fits img k (Index u) fs w r) m.1 (after c u (deeper u (w 0) 1)) (behind-after c u (deeper u (w 0) 1) q)
          (λ j l. row (suc j) (omega arith)) (rest-stands c u (w 0) 1 cs s))
      row-written (Span u ∷ []) w v h r m c q row s = absurd (false≢true h)
      row-written (Span u ∷ (f ∷ fs)) w v h r m c q row s =
          let a = and_parts (down t u && simple f) (well t fs) h in
          let x = rest-fits img k (Span u) (f ∷ fs) w r in
          let y = rest-fits img k f fs (λ j. w (suc j)) x in
          let cs = word (w 1) (cells_of deeper fs (λ j. w (suc (suc j)))) in
          and_from _ _ (le-leb (v 0 + v 1) (size_of out u) (omega (arith, row 0 (omega arith), row 1 (omega arith), list-ends c u (w 0) (w 1) cs s m.0)))
          (list-written u f fs w v (and_parts (down t u) (simple f) a.0).1 x (row-written fs (λ j. w (suc (suc j))) (λ j. v (suc (suc j))) a.1 y m.1) c q row s)
      row-written (Nested ∷ []) w v h r m c q row s = absurd (false≢true h)
      row-written (Nested ∷ (f ∷ fs)) w v h r m c q row s =
          let a = and_parts (eqb t actions && simple f) (well t fs) h in
          let b = and_parts (eqb t actions) (simple f) a.0 in
          let x = rest-fits img k Nested (f ∷ fs) w r in
          let y = rest-fits img k f fs (λ j. w (suc j)) x in
          let cs = word (w 1) (cells_of deeper fs (λ j. w (suc (suc j)))) in
          let place : v 0 ≡ place_of (c actions) (deeper actions (w 0) (w 1)) = row 0 (omega arith) in
          let count : v 1 ≡ w 1 = row 1 (omega arith) in
          and_from _ _
          (and_from _ _ (le-leb (v 0 + v 1) (size_of out actions) (omega (arith, place, count, list-ends c actions (w 0) (w 1) cs s m.0)))
          (ap₂ (λ n i. eqb n 0 || ltb p i) count place
          ∙ place-behind p (c actions) (w 1) (deeper actions (w 0) (w 1)) (counted actions (w 0) (w 1) m.0) (q b.0)))
          (list-written actions f fs w v b.1 x (row-written fs (λ j. w (suc (suc j))) (λ j. v (suc (suc j))) a.1 y m.1) c q row s)

  -- EVERY ROW -----------------------------------------------------------------------------------------------------------------------------
  -- of each table the rows from c on pass
  abbrev Covers : Counts → (ℕ → List (List ℕ)) → Type 0
  Covers c rows = (u k : ℕ) → u < 8 → k < length (rows u) → Fits out u (c u + k)

  both-cover : (c d : Counts) (xs ys : ℕ → List (List ℕ)) → ((u : ℕ) → d u ≡ c u + length (xs u)) → Covers c xs → Covers d ys → Covers c (λ u. xs u ++ ys u)
  both-cover c d xs ys same a b u k h l =
      elim (dec_le (suc k) (length (xs u))) [
        | yes g ↦ a u k h g
        | no g ↦
            let e : d u + (k - length (xs u)) ≡ c u + k = omega (arith, same u) in
            subst (λ p. Fits out u p) e (b u (k - length (xs u)) h (omega (arith, length-append (xs u) (ys u))))
      ]

  no-rows : (b : Bool) (c : Counts) (x : ℕ) → length (cond b (rows_of c none) [] ++ rows_below c none x) ≡ 0
  unfolding rows_of rows_below
  no-rows true c x = refl
  no-rows false c x = refl

  module _ (good : (t i : ℕ) → t < 8 → i < size_of img t → Fits img t i) where
    module _ (depth : ℕ)
        (lists : (u i n : ℕ) (c : Counts) → Within img depth u i n → Standing c (rows_of_list c u (deeper depth u i n)) → Covers c (rows_of_list c u (deeper depth u i n))) where
      -- WHAT A RECORD MENTIONS ------------------------------------------------------------------------------------------------------------
      abbrev CellsCover : Cells → Type 0
      CellsCover cs = (c : Counts) → Standing c (rows_below_cells c cs) → Covers c (rows_below_cells c cs)

      end-covers : CellsCover end
      unfolding rows_below
      end-covers c s u k h l = absurd (omega arith)

      mention-covers : (u i n : ℕ) (cs : Cells) → Within img depth u i n → CellsCover cs → CellsCover (mention u (deeper depth u i n) cs)
      unfolding rows_below
      mention-covers u i n cs h rest c s =
          let rs = deeper depth u i n in
          both-cover c (after c u rs) (rows_of_list c u rs) (rows_below_cells (after c u rs) cs) (λ x. omega (arith, list-count rs c u x))
          (lists u i n c h (list-stands depth c u i n cs s)) (rest (after c u rs) (rest-stands depth c u i n cs s))

      tagged-covers : (b : Bool) (u i : ℕ) (cs : Cells) → (b ≡ true → Within img depth u i 1) → CellsCover cs → CellsCover (cond b (mention u (deeper depth u i 1) cs) (word i cs))
      unfolding rows_below
      tagged-covers true u i cs h rest = mention-covers u i 1 cs (h refl) rest
      tagged-covers false u i cs h rest = rest

      cells-cover : (fs : List Field) (w : ℕ → ℕ) → Mentions (Within img depth) fs w → CellsCover (cells_of (deeper depth) fs w)
      unfolding cells_of rows_below
      cells-cover [] w m = end-covers
      cells-cover (Free ∷ fs) w m = cells-cover fs (λ j. w (suc j)) m
      cells-cover (UpTo most ∷ fs) w m = cells-cover fs (λ j. w (suc j)) m
      cells-cover (Mark most value ∷ fs) w m = cells-cover fs (λ j. w (suc j)) m
      cells-cover (Tag u ∷ []) w m = end-covers
      cells-cover (Tag u ∷ (f ∷ fs)) w m = tagged-covers (eqb (w 0) 0) u (w 1) (cells_of (deeper depth) fs (λ j. w (suc (suc j)))) m.0 (cells-cover fs (λ j. w (suc (suc j))) m.1)
      cells-cover (Index u ∷ fs) w m = mention-covers u (w 0) 1 (cells_of (deeper depth) fs (λ j. w (suc j))) m.0 (cells-cover fs (λ j. w (suc j)) m.1)
      cells-cover (Span u ∷ []) w m = end-covers
      cells-cover (Span u ∷ (f ∷ fs)) w m =
          mention-covers u (w 0) (w 1) (word (w 1) (cells_of (deeper depth) fs (λ j. w (suc (suc j))))) m.0 (cells-cover fs (λ j. w (suc (suc j))) m.1)
      cells-cover (Nested ∷ []) w m = end-covers
      cells-cover (Nested ∷ (f ∷ fs)) w m =
          mention-covers actions (w 0) (w 1) (word (w 1) (cells_of (deeper depth) fs (λ j. w (suc (suc j))))) m.0 (cells-cover fs (λ j. w (suc (suc j))) m.1)

      -- A LIST ----------------------------------------------------------------------------------------------------------------------------
      module _ (t : ℕ) (inside : t < 8) where
        abbrev fields_at : ℕ → List Field
        fields_at i = fields_of t (at t i 0) (at t i 1)

        module _ (i : ℕ) (here : i < size_of img t) (deep : need (size_of img actions) t i ≤ suc depth) where
          record-within : Mentions (Within img depth) (fields_at i) (at t i)
          record-within = all-within img depth t i here deep (fields_at i) (at t i) (fields-well t (at t i 0) (at t i 1) inside) (good t i inside here)

          record-covers : CellsCover (record_at at (deeper depth) t i)
          unfolding record_at
          record-covers = cells-cover (fields_at i) (at t i) record-within

          -- written as record p
          record-written : (p : ℕ) (c : Counts) → (eqb t actions ≡ true → p < c actions)
              → (p < length (tables t)) × (get_or (tables t) p [] ≡ row_of c (record_at at (deeper depth) t i))
              → Standing c (rows_below_cells c (record_at at (deeper depth) t i)) → Fits out t p
          unfolding record_at
          record-written p c q e s =
              let row = row_of c (cells_of (deeper depth) (fields_at i) (at t i)) in
              let reads-word : (j : ℕ) → j < width_of t → from t p j ≡ get_or row j 0 = λ j h. agrees t p j inside e.0 h ∙ ap (λ (x : List ℕ). get_or x j 0) e.1 in
              let same : fields_of t (from t p 0) (from t p 1) ≡ fields_at i =
              fields-kept (deeper depth) c t (at t i) (from t p 0) (from t p 1) (reads-word 0 (some-word t)) (λ v. reads-word 1 (value-words t v)) in
              ap (λ (x : List Field). row_fits out p x (from t p)) same
              ∙ row-written depth t i p (fields_at i) (at t i) (from t p) (fields-well t (at t i 0) (at t i 1) inside) (good t i inside here) record-within c q
              (λ j h. reads-word j (rw (fields-width t (at t i 0) (at t i 1)) at h)) s

        below-covers : (n i : ℕ) (c : Counts) → Within img (suc depth) t i n → Standing c (rows_below c (list_of at (deeper depth) t i n)) → Covers c (rows_below c (list_of at (deeper depth) t i n))
        unfolding list_of rows_below
        below-covers zero i c h s = λ u k l g. absurd (omega arith)
        below-covers (suc n) i c h s =
            let cs = record_at at (deeper depth) t i in
            let rest = list_of at (deeper depth) t (suc i) n in
            both-cover c (c ⊕ below_cells cs) (rows_below_cells c cs) (rows_below (c ⊕ below_cells cs) rest) (λ u. omega (arith, cells-count cs c u))
            (record-covers i (omega (arith, h.inside)) (h.deep (omega arith)) c (left-part tables from agrees c (rows_below_cells c cs) (rows_below (c ⊕ below_cells cs) rest) s))
            (below-covers n (suc i) (c ⊕ below_cells cs) (within-next img (suc depth) t i n h)
            (right-part tables from agrees c (c ⊕ below_cells cs) (rows_below_cells c cs) (rows_below (c ⊕ below_cells cs) rest) (λ u. omega (arith, cells-count cs c u)) s))

        -- n records, written from record p on
        records-written : (n i p : ℕ) (c : Counts) → Within img (suc depth) t i n → (eqb t actions ≡ true → p + n ≤ c actions)
            → ((k : ℕ) → k < n → (p + k < length (tables t)) × (get_or (tables t) (p + k) [] ≡ get_or (rows_of c (list_of at (deeper depth) t i n)) k []))
            → Standing c (rows_below c (list_of at (deeper depth) t i n)) → (k : ℕ) → k < n → Fits out t (p + k)
        unfolding list_of rows_of rows_below
        records-written zero i p c h q rows s k l = absurd (omega arith)
        records-written (suc n) i p c h q rows s zero l =
            let cs = record_at at (deeper depth) t i in
            let rest = list_of at (deeper depth) t (suc i) n in
            let first = rows 0 (omega arith) in
            subst (λ x. Fits out t x) (sym (add-zero p))
            (record-written i (omega (arith, h.inside)) (h.deep (omega arith)) p c (λ e. omega (arith, q e))
            (omega (arith, first.0), ap (λ x. get_or (tables t) x []) (sym (add-zero p)) ∙ first.1)
            (left-part tables from agrees c (rows_below_cells c cs) (rows_below (c ⊕ below_cells cs) rest) s))
        records-written (suc n) i p c h q rows s (suc k) l =
            let cs = record_at at (deeper depth) t i in
            let rest = list_of at (deeper depth) t (suc i) n in
            let e : suc p + k ≡ p + suc k = omega arith in
            subst (λ x. Fits out t x) e
            (records-written n (suc i) (suc p) (c ⊕ below_cells cs) (within-next img (suc depth) t i n h) (λ b. omega (arith, q b))
            (λ j g. let f : suc p + j ≡ p + suc j = omega arith in rw f (rows (suc j) (omega arith)))
            (right-part tables from agrees c (c ⊕ below_cells cs) (rows_below_cells c cs) (rows_below (c ⊕ below_cells cs) rest) (λ u. omega (arith, cells-count cs c u)) s)
            k (omega arith))

        module _ (i n : ℕ) (h : Within img (suc depth) t i n) (c : Counts) where
          abbrev rs : Records
          rs = list_of at (deeper depth) t i n

          abbrev behind : Counts
          behind = appended c t rs

          abbrev own : ℕ → List (List ℕ)
          own u = cond (eqb t u) (rows_of behind rs) []

          size : record_count rs ≡ n
          size = list-size tables from agrees (records_of at depth) (records_of from depth) (lists-read tables from agrees at depth) at t inside n i

          own-here : own t ≡ rows_of behind rs
          own-here = ap (λ b. cond b (rows_of behind rs) []) (eq-eqb t t refl)

          own-length : length (own t) ≡ n
          own-length = ap length own-here ∙ rows-count behind rs ∙ size

          actions-behind : eqb t actions ≡ true → c t + n ≤ behind actions
          actions-behind e =
              let x : c t ≡ c actions = ap c (eqb-true t actions e) in
              let y : cond (eqb t actions) (record_count rs) 0 ≡ n = ap (λ b. cond b (record_count rs) 0) e ∙ size in
              omega (arith, x, y)

          module _ (s : Standing c (rows_of_list c t rs)) where
            below-stands : Standing behind (rows_below behind rs)
            below-stands = right-part tables from agrees c behind own (rows_below behind rs) (λ u. ap (λ x. c u + x) (sym (own-count (eqb t u) behind rs))) s

            rows-stand : (k : ℕ) → k < n → (c t + k < length (tables t)) × (get_or (tables t) (c t + k) [] ≡ get_or (rows_of behind rs) k [])
            rows-stand k l =
                let x = left-part tables from agrees c own (rows_below behind rs) s t k (rw own-length l) in
                (x.0, x.1 ∙ ap (λ (y : List (List ℕ)). get_or y k []) own-here)

            own-covers : (b : Bool) (u k : ℕ) → eqb t u ≡ b → k < length (cond b (rows_of behind rs) []) → Fits out u (c u + k)
            own-covers true u k e l =
                subst (λ x. Fits out x (c x + k)) (eqb-true t u e)
                (records-written n i (c t) behind h actions-behind rows-stand below-stands k (omega (arith, rows-count behind rs, size)))
            own-covers false u k e l = absurd (omega arith)

            list-covers : Covers c (rows_of_list c t rs)
            list-covers =
                both-cover c behind own (rows_below behind rs) (λ u. ap (λ x. c u + x) (sym (own-count (eqb t u) behind rs)))
                (λ u k g l. own-covers (eqb t u) u k refl l) (below-covers n i behind h below-stands)

    -- lists that nest so deep
    pub lists-cover : (depth u i n : ℕ) (c : Counts) → Within img depth u i n → Standing c (rows_of_list c u (records_of at depth u i n)) → Covers c (rows_of_list c u (records_of at depth u i n))
    unfolding records_of
    lists-cover zero u i n c h s = λ x k g l. absurd (omega (arith, no-rows (eqb u x) (appended c u none) x))
    lists-cover (suc depth) u i n c h s = list-covers depth (lists-cover depth) u h.table i n h c s

-- WHAT IS WRITTEN -------------------------------------------------------------------------------------------------------------------------
module _ (img : List ℕ) (few : size_of img actions ≤ 512) (good : (t i : ℕ) → t < 8 → i < size_of img t → Fits img t i) where
  abbrev out : List ℕ
  out = theorems.out img

  abbrev tables : ℕ → List (List ℕ)
  tables = theorems.rows img

  agrees : (t i j : ℕ) → t < 8 → i < length (tables t) → j < width_of t → word_at out t i j ≡ get_or (get_or (tables t) i []) j 0
  agrees = written.word-at tables (theorems.limits img) refl (theorems.tables-wide (word_at img) (size_of img rules) (size_of img blocks))

  abbrev nothing : Counts
  nothing u = 0

  top-within : (t : ℕ) → t < 2 → Within img 600 t 0 (size_of img t)
  top-within zero h = record { table = omega arith; inside = omega arith; deep = λ l. omega arith }
  top-within (suc zero) h = record { table = omega arith; inside = omega arith; deep = λ l. omega arith }
  top-within (suc (suc t)) h = absurd (omega arith)

  pub rows-fit : (u p : ℕ) → u < 8 → p < length (tables u) → Fits out u p
  unfolding tables_of lists_of
  rows-fit u p h l =
      let lists = lists-cover img out tables agrees (theorems.size-kept img) good 600 in
      let covers = mention-covers img out tables agrees (theorems.size-kept img) good 600 lists in
      subst (λ x. Fits out u x) (zero-add p)
      (covers rules 0 (size_of img rules) (mention blocks (records_of (word_at img) 600 blocks 0 (size_of img blocks)) end) (top-within rules (omega arith))
      (covers blocks 0 (size_of img blocks) end (top-within blocks (omega arith)) (end-covers img out tables agrees (theorems.size-kept img) good 600 lists))
      nothing (λ v k g. (omega (arith, g), ap (λ n. get_or (tables v) n []) (zero-add k))) u p h l)

  -- 13 and 14
  pub out-passes : (links : Bool) → tables_pass out links ≡ true
  out-passes links = tables-pass out (λ t i a b. rows-fit t i a (rw (theorems.size-kept img t a) at b)) links
