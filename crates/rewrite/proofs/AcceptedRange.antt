-- (a), fourth part: what 13 and 14 say of a record, word by word along its fields; what it mentions lies in its table, and the depth in which a
-- tree is read suffices for it.
use mathlib.Core.Path.{◌≡◌, refl, sym, subst}
use mathlib.Core.Bool.{Bool, true, false, not, ◌&&◌, ◌||◌, false≢true}
use mathlib.Core.List.{List, [], ◌∷◌, map}
use Prim.Native.Nat.{ℕ, zero, suc, ◌+◌, ◌-◌, ◌<◌, ◌≤◌}
use native.Mathlib.Nat.{add-zero, zero-add}
use native.Mathlib.Numerals.{add-one}
use native.Mathlib.Omega.{arith}
use lib.Dec.{eqb, leb, ltb}
use lib.ListN.{get_or}
use borrow.Author.Tests.{ltb-true, leb-true, eqb-true, ne_eqb}
use Rattle.model.specs.declared.Field.{Field}
use Rattle.model.specs.declared.Field.TheVariants.{Free, UpTo, Mark, Tag, Index, Span, Nested}
use Rattle.model.specs.Lists.{up_from}
use Rattle.model.specs.Field.{fits}
use Rattle.model.specs.Rows.{actions, field_of}
use Rattle.model.specs.Image.{width_of, size_of, word_at, leads, passes, word_passes, record_passes, table_passes, tables_pass}
use Rattle.model.proofs.Bools.{every-at}
use Rattle.std.proofs.lemmas.Bool.{and_parts, and_from}
use Rattle.fields.proofs.Every.{every_holds}
use Rattle.model.specs.Tree.{fields_of}
use Rattle.rewrite.proofs.Fields.{inner}
use Rattle.rewrite.proofs.AcceptedFields.{simple, free, first_simple, level, down, well}

-- A RECORD ALONG ITS FIELDS ---------------------------------------------------------------------------------------------------------------
module _ (img : List ℕ) where
  -- 13 and 14 of the word w of record `holder`, with the word `next` behind it
  abbrev pub word_fits : ℕ → Field → ℕ → ℕ → Bool
  word_fits holder f w next = fits f w next && leads img holder f w next

  -- of the words of a row of fields
  abbrev pub row_fits : ℕ → List Field → (ℕ → ℕ) → Bool
  row_fits holder [] w = true
  row_fits holder (f ∷ fs) w = word_fits holder f (w 0) (w 1) && row_fits holder fs (λ j. w (suc j))

  module _ (holder : ℕ) (f : Field) (fs : List Field) (w : ℕ → ℕ) (r : row_fits holder (f ∷ fs) w ≡ true) where
    pub first-fits : word_fits holder f (w 0) (w 1) ≡ true
    first-fits = (and_parts (word_fits holder f (w 0) (w 1)) (row_fits holder fs (λ j. w (suc j))) r).0

    pub rest-fits : row_fits holder fs (λ j. w (suc j)) ≡ true
    rest-fits = (and_parts (word_fits holder f (w 0) (w 1)) (row_fits holder fs (λ j. w (suc j))) r).1

  module _ (holder : ℕ) (g : ℕ → Field) where
    abbrev At : ℕ → ℕ → ℕ → Type 0
    At k x y = word_fits holder (g k) x y ≡ true

    next-number : (k j : ℕ) → k + suc j ≡ suc k + j
    next-number k j = omega arith

    row-from : (n k : ℕ) (w : ℕ → ℕ) → ((j : ℕ) → j < n → At (k + j) (w j) (w (suc j))) → row_fits holder (map g (up_from k n)) w ≡ true
    row-from zero k w h = refl
    row-from (suc n) k w h =
        and_from _ _ (subst (λ x. At x (w 0) (w 1)) (add-zero k) (h 0 (omega arith)))
        (row-from n (suc k) (λ j. w (suc j)) (λ j l. subst (λ x. At x (w (suc j)) (w (suc (suc j)))) (next-number k j) (h (suc j) (omega arith))))

    word-in : (n k : ℕ) (w : ℕ → ℕ) → row_fits holder (map g (up_from k n)) w ≡ true → (j : ℕ) → j < n → At (k + j) (w j) (w (suc j))
    word-in zero k w a j l = absurd (omega arith)
    word-in (suc n) k w a zero l =
        subst (λ x. At x (w 0) (w 1)) (sym (add-zero k)) (first-fits holder (g k) (map g (up_from (suc k) n)) w a)
    word-in (suc n) k w a (suc j) l =
        subst (λ x. At x (w (suc j)) (w (suc (suc j)))) (sym (next-number k j))
        (word-in n (suc k) (λ i. w (suc i)) (rest-fits holder (g k) (map g (up_from (suc k) n)) w a) j (omega arith))

  -- record i of table t
  abbrev pub Fits : ℕ → ℕ → Type 0
  Fits t i = row_fits i (fields_of t (word_at img t i 0) (word_at img t i 1)) (word_at img t i) ≡ true

  -- 13 and 14 as load asks them
  module _ (ranged : tables_pass img false ≡ true) (linked : tables_pass img true ≡ true) (t i : ℕ) (a : t < 8) (b : i < size_of img t) where
    passed : (links : Bool) → tables_pass img links ≡ true → (j : ℕ) → j < width_of t → word_passes img links t i j ≡ true
    unfolding tables_pass
    passed links h j l =
        every-at (word_passes img links t i) (width_of t) j (every-at (record_passes img links t) (size_of img t) i (every-at (table_passes img links) 8 t h a) b) l

    word-fits : (j : ℕ) → j < width_of t → At i (field_of t (word_at img t i 0) (word_at img t i 1)) (0 + j) (word_at img t i j) (word_at img t i (suc j))
    word-fits j l =
        let g = field_of t (word_at img t i 0) (word_at img t i 1) in
        subst (λ x. At i g x (word_at img t i j) (word_at img t i (suc j))) (sym (zero-add j))
        (subst (λ x. At i g j (word_at img t i j) (word_at img t i x)) (add-one j) (and_from _ _ (passed false ranged j l) (passed true linked j l)))

    pub record-fits : Fits t i
    unfolding fields_of
    record-fits = row-from i (field_of t (word_at img t i 0) (word_at img t i 1)) (width_of t) 0 (word_at img t i) word-fits

  passes-either : (links : Bool) (holder : ℕ) (f : Field) (w next : ℕ) → word_fits holder f w next ≡ true → passes img links holder f w next ≡ true
  passes-either true holder f w next e = (and_parts (fits f w next) (leads img holder f w next) e).1
  passes-either false holder f w next e = (and_parts (fits f w next) (leads img holder f w next) e).0

  module _ (h : (t i : ℕ) → t < 8 → i < size_of img t → Fits t i) (links : Bool) where
    word-passes : (t i j : ℕ) → t < 8 → i < size_of img t → j < width_of t → word_passes img links t i j ≡ true
    unfolding fields_of
    word-passes t i j a b l =
        let g = field_of t (word_at img t i 0) (word_at img t i 1) in
        let e = word-in i g (width_of t) 0 (word_at img t i) (h t i a b) j l in
        passes-either links i (g j) (word_at img t i j) (word_at img t i (j + 1))
        (subst (λ x. At i g j (word_at img t i j) (word_at img t i x)) (sym (add-one j))
        (subst (λ x. At i g x (word_at img t i j) (word_at img t i (suc j))) (zero-add j) e))

    pub tables-pass : tables_pass img links ≡ true
    unfolding tables_pass
    tables-pass =
        every_holds (table_passes img links) 8
        (λ t a. every_holds (record_passes img links t) (size_of img t) (λ i b. every_holds (word_passes img links t i) (width_of t) (λ j l. word-passes t i j a b l)))

-- WHAT A RECORD MENTIONS ------------------------------------------------------------------------------------------------------------------
-- `Q t i n` holds of each mention of n records of table t from record i on
abbrev pub Mentions : (ℕ → ℕ → ℕ → Type 0) → List Field → (ℕ → ℕ) → Type 0
Mentions Q [] w = Unit {0}
Mentions Q (Free ∷ fs) w = Mentions Q fs (λ j. w (suc j))
Mentions Q (UpTo most ∷ fs) w = Mentions Q fs (λ j. w (suc j))
Mentions Q (Mark most value ∷ fs) w = Mentions Q fs (λ j. w (suc j))
Mentions Q (Tag t ∷ []) w = Unit {0}
Mentions Q (Tag t ∷ (f ∷ fs)) w = (eqb (w 0) 0 ≡ true → Q t (w 1) 1) × Mentions Q fs (λ j. w (suc (suc j)))
Mentions Q (Index t ∷ fs) w = Q t (w 0) 1 × Mentions Q fs (λ j. w (suc j))
Mentions Q (Span t ∷ []) w = Unit {0}
Mentions Q (Span t ∷ (f ∷ fs)) w = Q t (w 0) (w 1) × Mentions Q fs (λ j. w (suc (suc j)))
Mentions Q (Nested ∷ []) w = Unit {0}
Mentions Q (Nested ∷ (f ∷ fs)) w = Q actions (w 0) (w 1) × Mentions Q fs (λ j. w (suc (suc j)))

-- THE DEPTH -------------------------------------------------------------------------------------------------------------------------------
-- with so many actions: how many lists of actions nest below record i of a table of level l
abbrev nesting : ℕ → ℕ → ℕ → ℕ
nesting size l i = get_or (0 ∷ 0 ∷ (size - i) ∷ []) l size

-- the lists of table t from record i on nest at most so deep
abbrev pub need : ℕ → ℕ → ℕ → ℕ
need size t i = suc (level t) + nesting size (level t) i

nesting-falls : (size l m i j : ℕ) → l < m → nesting size l j ≤ nesting size m i
nesting-falls size zero m i j h = omega arith
nesting-falls size (suc zero) m i j h = omega arith
nesting-falls size (suc (suc zero)) zero i j h = absurd (omega arith)
nesting-falls size (suc (suc zero)) (suc zero) i j h = absurd (omega arith)
nesting-falls size (suc (suc zero)) (suc (suc zero)) i j h = absurd (omega arith)
nesting-falls size (suc (suc zero)) (suc (suc (suc m))) i j h = omega arith
nesting-falls size (suc (suc (suc l))) zero i j h = absurd (omega arith)
nesting-falls size (suc (suc (suc l))) (suc zero) i j h = absurd (omega arith)
nesting-falls size (suc (suc (suc l))) (suc (suc zero)) i j h = absurd (omega arith)
nesting-falls size (suc (suc (suc l))) (suc (suc (suc m))) i j h = omega arith

nesting-next : (size l i : ℕ) → nesting size l (suc i) ≤ nesting size l i
nesting-next size zero i = omega arith
nesting-next size (suc zero) i = omega arith
nesting-next size (suc (suc zero)) i = omega arith
nesting-next size (suc (suc (suc l))) i = omega arith

module _ (img : List ℕ) where
  -- n records of table t from record i on are there, and depth suffices for them
  pub record Within (depth t i n : ℕ) : Type 0 where
    pub table : t < 8
    pub inside : i + n ≤ size_of img t
    pub deep : 0 < n → need (size_of img actions) t i ≤ depth

  pub within-next : (depth t i n : ℕ) → Within depth t i (suc n) → Within depth t (suc i) n
  within-next depth t i n h =
      record {
        table = h.table;
        inside = omega (arith, h.inside);
        deep = λ l. omega (arith, h.deep (omega arith), nesting-next (size_of img actions) (level t) i);
      }

  -- from record i of table t
  module _ (depth t i : ℕ) (here : i < size_of img t) (deep : need (size_of img actions) t i ≤ suc depth) where
    within-down : (u j n : ℕ) → down t u ≡ true → j + n ≤ size_of img u → Within depth u j n
    within-down u j n e l =
        let d = and_parts (inner u) (ltb (level u) (level t)) e in
        let lt = ltb-true (level u) (level t) d.1 in
        record {
          table = ltb-true u 8 (and_parts (leb 2 u) (ltb u 8) d.0).1;
          inside = l;
          deep = λ z. omega (arith, nesting-falls (size_of img actions) (level u) (level t) i j lt);
        }

    within-nested : (j n : ℕ) → eqb t actions ≡ true → leads img i Nested j n ≡ true → Within depth actions j n
    unfolding leads
    within-nested j n e l =
        let b = and_parts (leb (j + n) (size_of img actions)) (eqb n 0 || ltb i j) l in
        let q : need (size_of img actions) actions i ≤ suc depth = subst (λ x. need (size_of img actions) x i ≤ suc depth) (eqb-true t actions e) deep in
        let k : i < size_of img actions = subst (λ x. i < size_of img x) (eqb-true t actions e) here in
        let behind : 0 < n → i < j = λ z. ltb-true i j (rw (ne_eqb n 0 (λ s. omega (arith, s))) at b.1) in
        record { table = omega arith; inside = leb-true (j + n) (size_of img actions) b.0; deep = λ z. omega (arith, behind z, q, k) }

    one-inside : (j n : ℕ) → ltb j n ≡ true → j + 1 ≤ n
    one-inside j n e = omega (arith, ltb-true j n e)

    tag-leads : (b c : Bool) → not b || c ≡ true → b ≡ true → c ≡ true
    tag-leads true c e h = e
    tag-leads false c e h = absurd (false≢true h)

    -- what a record that passes mentions is within
    pub all-within : (fs : List Field) (w : ℕ → ℕ) → well t fs ≡ true → row_fits img i fs w ≡ true → Mentions (Within depth) fs w
    unfolding fits leads
    all-within [] w h r = tt
    all-within (Free ∷ fs) w h r = all-within fs (λ j. w (suc j)) h r
    all-within (UpTo most ∷ fs) w h r = all-within fs (λ j. w (suc j)) h (rest-fits img i (UpTo most) fs w r)
    all-within (Mark most value ∷ fs) w h r = all-within fs (λ j. w (suc j)) (and_parts (first_simple fs) (well t fs) h).1 (rest-fits img i (Mark most value) fs w r)
    all-within (Tag u ∷ []) w h r = absurd (false≢true h)
    all-within (Tag u ∷ (f ∷ fs)) w h r =
        let a = and_parts (down t u && free f) (well t fs) h in
        let l = (and_parts (leb (w 0) 1) (not (eqb (w 0) 0) || ltb (w 1) (size_of img u)) (first-fits img i (Tag u) (f ∷ fs) w r)).1 in (
          λ z. within-down u (w 1) 1 (and_parts (down t u) (free f) a.0).0 (one-inside (w 1) (size_of img u) (tag-leads (eqb (w 0) 0) (ltb (w 1) (size_of img u)) l z)),
          all-within fs (λ j. w (suc (suc j))) a.1 (rest-fits img i f fs (λ j. w (suc j)) (rest-fits img i (Tag u) (f ∷ fs) w r)),
        )
    all-within (Index u ∷ fs) w h r =
        let a = and_parts (down t u) (well t fs) h in (
          within-down u (w 0) 1 a.0 (one-inside (w 0) (size_of img u) (first-fits img i (Index u) fs w r)),
          all-within fs (λ j. w (suc j)) a.1 (rest-fits img i (Index u) fs w r),
        )
    all-within (Span u ∷ []) w h r = absurd (false≢true h)
    all-within (Span u ∷ (f ∷ fs)) w h r =
        let a = and_parts (down t u && simple f) (well t fs) h in (
          within-down u (w 0) (w 1) (and_parts (down t u) (simple f) a.0).0 (leb-true (w 0 + w 1) (size_of img u) (first-fits img i (Span u) (f ∷ fs) w r)),
          all-within fs (λ j. w (suc (suc j))) a.1 (rest-fits img i f fs (λ j. w (suc j)) (rest-fits img i (Span u) (f ∷ fs) w r)),
        )
    all-within (Nested ∷ []) w h r = absurd (false≢true h)
    all-within (Nested ∷ (f ∷ fs)) w h r =
        let a = and_parts (eqb t actions && simple f) (well t fs) h in (
          within-nested (w 0) (w 1) (and_parts (eqb t actions) (simple f) a.0).0 (first-fits img i Nested (f ∷ fs) w r),
          all-within fs (λ j. w (suc (suc j))) a.1 (rest-fits img i f fs (λ j. w (suc j)) (rest-fits img i Nested (f ∷ fs) w r)),
        )
