-- Tables whose rows are those of a codec. Assumes nothing.
use mathlib.Core.Path.{◌≡◌, refl, sym, ap, subst, ◌∙◌}
use mathlib.Core.Bool.{Bool, true, false, cond, not}
use mathlib.Core.List.{List, [], ◌∷◌, ◌++◌, map, append_assoc, append-nil}
use Prim.Native.Nat.{ℕ, zero, suc, ◌+◌, ◌-◌, ◌*◌, ◌≤◌, ◌<◌}
use native.Mathlib.Nat.{add-zero, suc-mul}
use native.Mathlib.Numerals.{add-one}
use native.Mathlib.Omega.{arith}
use lib.Dec.{leb, ltb}
use lib.ListN.{length, get_or, take, drop, set, replicate, length-append, length-set, length-map, length-replicate, replicate-append-replicate, drop_of_length-le}
use lib.Seq.{take_at, drop_at, set_split, split_at, length-take-le}
use borrow.Author.Tests.{leb-true, ltb-true, ltb-false, le-leb, lt-leb}
use Rattle.std.proofs.lemmas.Bool.{and_from, and_parts}
use Rattle.model.specs.Layout.{counted, sizes, part_fits, parts_fit}
use Rattle.model.specs.Codec.{Row, most, words_of, all_good}
use Rattle.model.specs.Lists.{flatten, keep}
use Rattle.model.proofs.RowLaws.{RowLaws}
use Rattle.model.proofs.RowLaws as row_laws
use Rattle.model.proofs.CodecLaws.{most-laws, rest_of}
use Rattle.rows.specs.Places.{laid}
use Rattle.rows.proofs.Writing.{words_append, laid-long}
use Rattle.state.specs.Cuts.{cut, rows_in, table_of, with_row, HasRoom, Fits, Table}
use Rattle.state.specs.Meaning.{Holds, Counted, joined}
use Rattle.state.proofs.Cutting.{laid-drop, laid-mid, row-end}
use Rattle.state.proofs.Tables.{to-come}

module _ {A : Type 0} (r : Row A) (laws : RowLaws r) where
  abbrev f : ℕ
  f = length r.cells

  words_long : (l : List A) → length (words_of r l) ≡ length l * f
  words_long = row_laws.words_long r laws.long

  flat_rows : (l : List A) → flatten (map r.put l) ≡ words_of r l
  unfolding words_of
  flat_rows [] = refl
  flat_rows (x ∷ l) = ap (λ (w : List ℕ). r.put x ++ w) (flat_rows l)

  cut-rows : (l : List A) (rest : List ℕ) → cut (replicate (length l) f) (words_of r l ++ rest) ≡ map r.put l
  unfolding cut words_of
  cut-rows [] rest = refl
  cut-rows (x ∷ l) rest =
      let e : (r.put x ++ words_of r l) ++ rest ≡ r.put x ++ (words_of r l ++ rest) = append_assoc (r.put x) (words_of r l) rest in
      rw (e, take_at (r.put x) (words_of r l ++ rest) f (laws.long x), drop_at (r.put x) (words_of r l ++ rest) f (laws.long x), cut-rows l rest)

  -- one row of many is read, and is written anew
  words-split : (l : List A) (i : ℕ) (d : A) → i < length l → words_of r l ≡ words_of r (take i l) ++ (r.put (get_or l i d) ++ words_of r (drop (suc i) l))
  unfolding words_of
  words-split l i d h = ap (words_of r) (split_at l i d h) ∙ words_append r (record { long = laws.long }) (take i l) (get_or l i d ∷ drop (suc i) l)

  first-long : (l : List A) (i : ℕ) → i ≤ length l → length (words_of r (take i l)) ≡ i * f
  first-long l i h = words_long (take i l) ∙ ap (λ (m : ℕ). m * f) (length-take-le i l h)

  pub good-at : (l : List A) (i : ℕ) (d : A) → all_good r l ≡ true → i < length l → r.good (get_or l i d) ≡ true
  unfolding all_good
  good-at [] i d g h = absurd (omega arith)
  good-at (x ∷ l) zero d g h = (and_parts (r.good x) (all_good r l) g).0
  good-at (x ∷ l) (suc i) d g h = good-at l i d (and_parts (r.good x) (all_good r l) g).1 (omega arith)

  pub good-set : (l : List A) (i : ℕ) (x : A) → all_good r l ≡ true → r.good x ≡ true → all_good r (set l i x) ≡ true
  unfolding all_good
  good-set [] i x a b = a
  good-set (y ∷ l) zero x a b = and_from _ _ b (and_parts (r.good y) (all_good r l) a).1
  good-set (y ∷ l) (suc i) x a b = let h = and_parts (r.good y) (all_good r l) a in and_from _ _ h.0 (good-set l i x h.1 b)

  pub good-append : (l k : List A) → all_good r l ≡ true → all_good r k ≡ true → all_good r (l ++ k) ≡ true
  unfolding all_good
  good-append [] k a b = b
  good-append (x ∷ l) k a b = let h = and_parts (r.good x) (all_good r l) a in and_from _ _ h.0 (good-append l k h.1 b)

  pub row_read : (l : List A) (rest : List ℕ) (i : ℕ) (d : A) → all_good r l ≡ true → i < length l → r.get (drop (i * f) (words_of r l ++ rest)) ≡ get_or l i d
  row_read l rest i d g h =
      let mid : List ℕ = r.put (get_or l i d) in
      let back : List ℕ = words_of r (drop (suc i) l) in
      let whole : words_of r l ++ rest ≡ words_of r (take i l) ++ (mid ++ (back ++ rest)) = ap (λ (w : List ℕ). w ++ rest) (words-split l i d h) ∙ simp append_assoc in
      ap r.get (ap (drop (i * f)) whole ∙ drop_at (words_of r (take i l)) (mid ++ (back ++ rest)) (i * f) (first-long l i (omega arith)))
      ∙ (laws.reads (get_or l i d) (back ++ rest) (good-at l i d g h)).0

  pub row_laid : (xs : List ℕ) (l : List A) (zs : List ℕ) (i k : ℕ) (x : A) → k ≡ length xs + i * f → i < length l → laid (xs ++ (words_of r l ++ zs)) k (r.put x) ≡ xs ++ (words_of r (set l i x) ++ zs)
  unfolding words_of
  row_laid xs l zs i k x e h =
      let front : List ℕ = words_of r (take i l) in
      let back : List ℕ = words_of r (drop (suc i) l) in
      let long : length (xs ++ front) ≡ k = length-append xs front ∙ rw (first-long l i (omega arith)) (sym e) in
      let after : words_of r (set l i x) ≡ front ++ (r.put x ++ back) = ap (words_of r) (set_split l i x h) ∙ words_append r (record { long = laws.long }) (take i l) (x ∷ drop (suc i) l) in
      ap (λ (w : List ℕ). laid w k (r.put x)) (ap (λ (w : List ℕ). xs ++ (w ++ zs)) (words-split l i x h) ∙ sym (regroup xs front (r.put (get_or l i x)) back zs))
      ∙ laid-mid (xs ++ front) (r.put (get_or l i x)) (back ++ zs) (r.put x) k long (laws.long x ∙ sym (laws.long (get_or l i x)))
      ∙ regroup xs front (r.put x) back zs
      ∙ ap (λ (w : List ℕ). xs ++ (w ++ zs)) (sym after)
    where
      regroup : (a b c d e : List ℕ) → (a ++ b) ++ (c ++ (d ++ e)) ≡ a ++ ((b ++ (c ++ d)) ++ e)
      regroup a b c d e = simp append_assoc

  module _ (n : ℕ) where
    pub rows_in_lem : (l : List A) → rows_in f ((most n r).put l) ≡ map r.put l
    unfolding rows_in
    rows_in_lem l = cut-rows l (replicate ((n - length l) * f) 0)

    table-of : (l : List A) → length l ≤ n → table_of (n * f) (map r.put l) ≡ (most n r).put l
    unfolding table_of
    table-of l h =
        let e : n * f - length (words_of r l) ≡ (n - length l) * f = rw (words_long l) (omega (arith, rest_of (length l) n f h)) in
        rw (length-map, flat_rows l, e)

    -- reading and writing
    pub good-few : (l : List A) → (most n r).good l ≡ true → length l ≤ n
    good-few l g = leb-true (length l) n (and_parts _ _ g).0

    pub put-long : (l : List A) → (most n r).good l ≡ true → length ((most n r).put l) ≡ 1 + n * f
    unfolding sizes
    put-long l g = (most-laws n laws).long l g ∙ add-zero (1 + n * f)

    module _ (p : List ℕ) (l : List A) (h : Holds n r p l) where
      pub holds-get : (most n r).get p ≡ l
      holds-get = rw h.words (rw append-nil at ((most-laws n laws).reads l [] h.good).0)

      pub holds-fit : part_fits (counted n r.cells) p ≡ true
      unfolding parts_fit
      holds-fit =
          let e = subst (λ (w : List ℕ). parts_fit (most n r).parts w ≡ true) (append-nil ((most n r).put l)) ((most-laws n laws).reads l [] h.good).1 in
          rw h.words (and_parts (part_fits (counted n r.cells) ((most n r).put l)) true e).0

      pub holds-long : length p ≡ 1 + n * f
      holds-long = ap length h.words ∙ put-long l h.good

      pub holds-few : length l ≤ n
      holds-few = good-few l h.good

      pub holds-count : get_or p 0 0 ≡ length l
      holds-count = ap (λ (w : List ℕ). get_or w 0 0) h.words

      pub holds_rows : rows_in f p ≡ map r.put l
      holds_rows = rw h.words (rows_in_lem l)

      pub holds_fits : n ≤ 64 → f ≤ 16 → 1 + n * f ≤ 16384 → Fits f p
      holds_fits a b c =
          let e = holds-long in
          let k = holds-count in
          let m = holds-few in
          record { counted = omega arith; short = omega arith; thin = b; few = omega arith; within = rw (k, e) (omega (arith, rest_of (length l) n f m)) }

      pub holds-table : n ≤ 64 → f ≤ 16 → 1 + n * f ≤ 16384 → Table f p
      holds-table a b c =
          let e : length p - 1 ≡ n * f = omega (arith, holds-long) in
          record { fits = holds_fits a b c; whole = h.words ∙ sym (rw (e, holds_rows) (table-of l holds-few)) }

    pub fit-holds : (p : List ℕ) → part_fits (counted n r.cells) p ≡ true → length p ≡ 1 + n * f → Counted n r p
    unfolding parts_fit sizes
    fit-holds p e l =
        let w = (most-laws n laws).writes p (and_from _ _ e refl) in
        let z : drop (1 + n * f + 0) p ≡ [] = drop_of_length-le p {i = 1 + n * f + 0} (omega arith) in
        record { words = sym w.0 ∙ ap (λ (x : List ℕ). (most n r).put ((most n r).get p) ++ x) z ∙ append-nil ((most n r).put ((most n r).get p)); good = w.1 }

    -- THE ROWS THAT PASS
    module _ (q : List ℕ → Bool) (test : A → Bool) (same : (a : A) → q (r.put a) ≡ test a) where
      keep-cond : (b : Bool) (x : A) (l : List A) → cond b (r.put x ∷ map r.put l) (map r.put l) ≡ map r.put (cond b (x ∷ l) l)
      keep-cond true x l = refl
      keep-cond false x l = refl

      pub keep-rows : (l : List A) → keep q (map r.put l) ≡ map r.put (keep test l)
      keep-rows [] = refl
      keep-rows (x ∷ l) = rw (same x, keep-rows l) (keep-cond (test x) x (keep test l))

      good-cond : (b : Bool) (x : A) (l : List A) → r.good x ≡ true → all_good r l ≡ true → all_good r (cond b (x ∷ l) l) ≡ true
      unfolding all_good
      good-cond true x l a b = and_from _ _ a b
      good-cond false x l a b = b

      good-keep : (l : List A) → all_good r l ≡ true → all_good r (keep test l) ≡ true
      unfolding all_good
      good-keep [] g = refl
      good-keep (x ∷ l) g = let h = and_parts (r.good x) (all_good r l) g in good-cond (test x) x (keep test l) h.0 (good-keep l h.1)

      few-cond : (b : Bool) (x : A) (l : List A) (m : ℕ) → length l ≤ m → length (cond b (x ∷ l) l) ≤ suc m
      few-cond true x l m h = omega arith
      few-cond false x l m h = omega arith

      pub few-keep : (l : List A) → length (keep test l) ≤ length l
      few-keep [] = omega arith
      few-keep (x ∷ l) = few-cond (test x) x (keep test l) (length l) (few-keep l)

      -- a table that was closed up
      pub holds-keep : (p p' : List ℕ) (l : List A) → Holds n r p l → p' ≡ table_of (length p - 1) (keep q (rows_in f p)) → Holds n r p' (keep test l)
      holds-keep p p' l h e =
          let k = few-keep l in
          let m = holds-few p l h in
          let z : length p - 1 ≡ n * f = omega (arith, holds-long p l h) in
          record {
            words = e ∙ rw (z, holds_rows p l h, keep-rows l) (table-of (keep test l) (omega arith));
            good = and_from _ _ (le-leb (length (keep test l)) n (omega arith)) (good-keep l (and_parts (leb (length l) n) (all_good r l) h.good).1);
          }

    -- A ROW MORE
    join-words : (p p₁ : List ℕ) (l : List A) (x : A) (m : ℕ) → Holds n r p l → m ≡ length l → m < n → p₁ ≡ laid p (1 + m * f) (r.put x) → set p₁ 0 (m + 1) ≡ (most n r).put (l ++ (x ∷ []))
    unfolding words_of
    join-words p p₁ l x m h e k b =
        let d : length (l ++ (x ∷ [])) ≡ m + 1 = length-append l (x ∷ []) ∙ ap (λ (i : ℕ). i + 1) (sym e) in
        let zs : List ℕ = replicate ((n - length (l ++ (x ∷ []))) * f) 0 in
        let big = holds-long p l h in
        let here = words_long l in
        let mf : length (words_of r l) ≡ m * f = rw e here in
        let s = suc-mul (n - (m + 1)) f in
        let room : 1 + m * f ≤ length p = omega (arith, rest_of m n f (omega arith)) in
        let fill : replicate {A = ℕ} ((n - length l) * f) 0 ≡ replicate f 0 ++ zs =
        let q : (n - length l) * f ≡ f + (n - length (l ++ (x ∷ []))) * f = (let u : n - length l ≡ suc (n - (m + 1)) = omega arith in rw (u, d) (omega (arith, s))) in
        ap (λ (i : ℕ). replicate {A = ℕ} i 0) q ∙ sym (replicate-append-replicate f ((n - length (l ++ (x ∷ []))) * f) 0) in
        let body : drop 1 p ≡ words_of r l ++ (replicate f 0 ++ zs) = ap (drop 1) h.words ∙ ap (λ (z : List ℕ). words_of r l ++ z) fill in
        let long : length p₁ ≡ length p = ap length b ∙ laid-long p (1 + m * f) (r.put x) (rw (laws.long x) (omega (arith, rest_of (m + 1) n f (omega arith), suc-mul m f, add-one m))) in
        set_split p₁ 0 (m + 1) (omega arith)
        ∙ ap (λ (z : List ℕ). (m + 1) ∷ drop 1 z) b
        ∙ ap (λ (z : List ℕ). (m + 1) ∷ z) (laid-drop 1 (m * f) p (r.put x) room ∙ ap (λ (z : List ℕ). laid z (m * f) (r.put x)) body ∙ laid-mid (words_of r l) (replicate f 0) zs (r.put x) (m * f) mf (laws.long x ∙ sym (length-replicate {A = ℕ} f 0)))
        ∙ ap (λ (z : List ℕ). (m + 1) ∷ z) (sym (append_assoc (words_of r l) (r.put x) zs))
        ∙ ap (λ (z : List ℕ). (m + 1) ∷ (z ++ zs)) (sym (words_append r (record { long = laws.long }) l (x ∷ []) ∙ ap (λ (z : List ℕ). words_of r l ++ z) (append-nil (r.put x))))
        ∙ ap (λ (i : ℕ). i ∷ (words_of r (l ++ (x ∷ [])) ++ zs)) (sym d)

    pub holds-join : (p p₁ : List ℕ) (l : List A) (x : A) (m : ℕ) → Holds n r p l → m ≡ length l → m < n → r.good x ≡ true
        → p₁ ≡ laid p (1 + m * f) (r.put x) → Holds n r (set p₁ 0 (m + 1)) (l ++ (x ∷ []))
    unfolding all_good
    holds-join p p₁ l x m h e k g b =
        let d : length (l ++ (x ∷ [])) ≡ length l + 1 = length-append l (x ∷ []) in
        record {
          words = join-words p p₁ l x m h e k b;
          good = and_from _ _ (le-leb (length (l ++ (x ∷ []))) n (omega arith)) (good-append l (x ∷ []) (and_parts (leb (length l) n) (all_good r l) h.good).1 (and_from _ _ g refl));
        }

    pub has-room : (p : List ℕ) (l : List A) → Holds n r p l → n ≤ 64 → 1 + n * f ≤ 16384 → length l < n → HasRoom f p
    has-room p l h a b k =
        let c = holds-count p l h in
        let e = holds-long p l h in
        record { short = omega arith; few = omega arith; room = rw (c, e) (omega (arith, row-end (length l) n f k)) }

    pub holds-push : (p p₁ : List ℕ) (l : List A) (x : A) → Holds n r p l → length l < n → r.good x ≡ true → p₁ ≡ with_row f (r.put x) p → Holds n r p₁ (l ++ (x ∷ []))
    holds-push p p₁ l x h k g e =
        let c = holds-count p l h in
        subst (λ (q : List ℕ). Holds n r q (l ++ (x ∷ []))) (sym e) (holds-join p (laid p (1 + get_or p 0 0 * f) (r.put x)) l x (get_or p 0 0) h c (omega arith) g refl)

    -- A ROW ANEW
    pub holds-set : (p p₁ : List ℕ) (l : List A) (x : A) (i : ℕ) → Holds n r p l → i < length l → r.good x ≡ true → p₁ ≡ laid p (1 + i * f) (r.put x) → Holds n r p₁ (set l i x)
    holds-set p p₁ l x i h k g b =
        let m = length-set l i x in
        record {
          words =
              b ∙ ap (λ (z : List ℕ). laid z (1 + i * f) (r.put x)) h.words
              ∙ row_laid (length l ∷ []) l (replicate ((n - length l) * f) 0) i (1 + i * f) x refl k
              ∙ ap (λ (j : ℕ). j ∷ (words_of r (set l i x) ++ replicate ((n - j) * f) 0)) (sym m);
          good = and_from _ _ (le-leb (length (set l i x)) n (omega (arith, m, holds-few p l h))) (good-set l i x (and_parts (leb (length l) n) (all_good r l) h.good).1 g);
        }

    -- behind the others, where there is room: b says whether there is
    module _ (p : List ℕ) (l : List A) (b : Bool) (h : Holds n r p l) (e : b ≡ ltb (get_or p 0 0) n) where
      pub joined-less : b ≡ not (leb n (length l))
      joined-less = e ∙ ap (λ (k : ℕ). ltb k n) (holds-count p l h) ∙ to-come (length l) n

      pub joined-room : (p₁ : List ℕ) (x : A) → (b ≡ true → r.good x ≡ true) → p₁ ≡ cond b (with_row f (r.put x) p) p → Holds n r p₁ (joined n x l)
      joined-room p₁ x good w = by b refl
        where
          by : (c : Bool) → b ≡ c → Holds n r p₁ (joined n x l)
          by true t =
              let k : length l < n = omega (arith, holds-count p l h, ltb-true (get_or p 0 0) n (sym e ∙ t)) in
              rw (lt-leb n (length l) k) (holds-push p p₁ l x h k (good t) (rw t at w))
          by false t =
              let k : n ≤ length l = omega (arith, holds-count p l h, ltb-false (get_or p 0 0) n (sym e ∙ t)) in
              rw (le-leb n (length l) k, rw t at w) h
