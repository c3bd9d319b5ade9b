-- The two laws of a row, for each way to make one.
use mathlib.Core.Path.{◌≡◌, refl, sym, ap, ◌∙◌}
use mathlib.Core.Bool.{Bool, true, false, ◌&&◌, ◌||◌, not, or-true, and_assoc, false≢true}
use mathlib.Core.List.{List, [], ◌∷◌, ◌++◌, append_assoc}
use Rattle.std.specs.Prelude.{Option, None, Some}
use Prim.Native.Nat.{ℕ, zero, suc, ◌+◌, ◌*◌, ◌/◌, ◌%◌, ◌≤◌, ◌<◌}
use native.Mathlib.Nat.{add_comm, zero-add, suc-add, zero-mul, suc-mul, mod-lt, mod-eq_of_lt, div-eq_of_lt-le, div-lt_iff_lt-mul, div-add-mod', add-mul-mod_self_left}
use native.Mathlib.Omega.{arith}
use lib.Dec.{leb, eqb, leb-suc-zero, eqb-suc-zero}
use lib.ListN.{length, get_or, drop, replicate, length-append, length-replicate}
use lib.Seq.{drop_at, drop-drop}
use borrow.Author.Tests.{leb-true, le-leb, ltb-true, lt-ltb, eqb-true}
use Rattle.std.proofs.lemmas.Bool.{and_from, and_parts}
use Rattle.words.specs.Pairs.{joined, low_of, high_of}
use Rattle.model.specs.Layout.{Cell, zeros, cell_fits, row_fits, rows_fit, up_to, mark}
use Rattle.model.specs.Codec.{Row, word, wide, ◌⊗◌, maybe, pad, Same, as_row, rows_at, words_of, all_good}

-- A good value that was written is read back, and its words fit. Words that fit are those that would be written for the value that they
-- say, a good one.
pub record RowLaws {A : Type 0} (r : Row A) : Type 0 where
  pub long : (a : A) → length (r.put a) ≡ length r.cells
  pub reads : (a : A) (rest : List ℕ) → r.good a ≡ true → (r.get (r.put a ++ rest) ≡ a) × (row_fits r.cells (r.put a ++ rest) ≡ true)
  pub writes : (w : List ℕ) → row_fits r.cells w ≡ true → (r.put (r.get w) ++ drop (length r.cells) w ≡ w) × (r.good (r.get w) ≡ true)

-- what stands behind a row that was written
pub behind : {A : Type 0} {r : Row A} → RowLaws r → (a : A) (rest : List ℕ) → drop (length r.cells) (r.put a ++ rest) ≡ rest
behind {r} p a rest = drop_at (r.put a) rest (length r.cells) (p.long a)

-- a word
pub word_laws : (n : ℕ) → RowLaws (word n)
unfolding row_fits zeros
word_laws n = record { long = λ a. refl; reads = λ a rest g. (refl, rw (g, or-true)); writes = writes }
  where
    writes : (w : List ℕ) → row_fits (up_to n ∷ []) w ≡ true → (get_or w 0 0 ∷ drop 1 w ≡ w) × (leb (get_or w 0 0) n ≡ true)
    writes [] f = absurd (false≢true f)
    writes (x ∷ w) f = (refl, (and_parts _ _ (and_parts _ _ f).0).0)

-- two words
module _ (lo hi : ℕ) (l : lo ≤ 4294967295) (h : hi ≤ 4294967295) where
  low-of : (lo + 4294967296 * hi) % 4294967296 ≡ lo
  low-of = add-mul-mod_self_left lo 4294967296 hi ∙ mod-eq_of_lt (omega arith)

  high-of : (lo + 4294967296 * hi) / 4294967296 ≡ hi
  high-of = div-eq_of_lt-le 4294967296 (omega arith) (omega arith)

high_fits : (a : ℕ) → a < 18446744073709551616 → a / 4294967296 ≤ 4294967295
high_fits a h = let d = (div-lt_iff_lt-mul {k = 4294967296} {x = a} {y = 4294967296} (omega arith)).1 (omega arith) in omega arith

joined_back : (a : ℕ) → a % 4294967296 + 4294967296 * (a / 4294967296) ≡ a
joined_back a = let e = div-add-mod' a 4294967296 in omega (arith, e)

pub wide_laws : RowLaws wide
unfolding row_fits zeros joined low_of high_of
wide_laws =
    record {
      long = λ a. refl;
      reads =
          λ a rest g.
          let m = mod-lt a {m = 4294967296} (omega arith) in
          let p = le-leb (a % 4294967296) 4294967295 (omega arith) in
          let q = le-leb (a / 4294967296) 4294967295 (high_fits a (ltb-true _ _ g)) in
          (joined_back a, rw (p, q, or-true, or-true));
      writes = writes;
    }
  where
    writes : (w : List ℕ) → row_fits wide.cells w ≡ true → (wide.put (wide.get w) ++ drop 2 w ≡ w) × (wide.good (wide.get w) ≡ true)
    writes [] f = absurd (false≢true f)
    writes (x ∷ []) f = absurd (false≢true (and_parts (leb x 4294967295 && (not (eqb x 0) || true)) false f).1)
    writes (x ∷ y ∷ w) f =
        let (a, b) = and_parts _ _ f in
        let l = leb-true _ _ (and_parts _ _ a).0 in
        let h = leb-true _ _ (and_parts _ _ (and_parts _ _ b).0).0 in
        (rw (low-of x y l h, high-of x y l h), lt-ltb (x + 4294967296 * y) 18446744073709551616 (omega arith))

-- a row behind a row
pub row-append : (cs ds : List Cell) (w : List ℕ) → row_fits (cs ++ ds) w ≡ row_fits cs w && row_fits ds (drop (length cs) w)
unfolding row_fits
row-append [] ds w = refl
row-append (c ∷ cs) ds [] = refl
row-append (c ∷ cs) ds (x ∷ w) = rw (row-append cs ds w) (sym (and_assoc (cell_fits c x w) (row_fits cs w) (row_fits ds (drop (length cs) w))))

pub ⊗-laws : {A B : Type 0} {r : Row A} {s : Row B} → RowLaws r → RowLaws s → RowLaws (r ⊗ s)
⊗-laws {r} {s} p q =
    record {
      long = λ a. simp (length-append, p.long, q.long);
      reads =
          λ a rest g.
          let (g₁, g₂) = and_parts _ _ g in
          let e = append_assoc (r.put a.0) (s.put a.1) rest in
          let (v₁, f₁) = p.reads a.0 (s.put a.1 ++ rest) g₁ in
          let (v₂, f₂) = q.reads a.1 rest g₂ in
          let d = behind p a.0 (s.put a.1 ++ rest) in
          (rw (e, d) (λ i. (v₁ i, v₂ i)), rw e (row-append r.cells s.cells (r.put a.0 ++ (s.put a.1 ++ rest)) ∙ and_from _ _ f₁ (ap (row_fits s.cells) d ∙ f₂)));
      writes =
          λ w f.
          let (f₁, f₂) = and_parts _ _ (sym (row-append r.cells s.cells w) ∙ f) in
          let (v₁, g₁) = p.writes w f₁ in
          let (v₂, g₂) = q.writes (drop (length r.cells) w) f₂ in
          let d : drop (length (r.cells ++ s.cells)) w ≡ drop (length s.cells) (drop (length r.cells) w) =
          ap (λ (n : ℕ). drop n w) (length-append r.cells s.cells) ∙ sym (drop-drop (length s.cells) (length r.cells) w) in
          let t = drop (length r.cells) w in
          (rw d (append_assoc (r.put (r.get w)) (s.put (s.get t)) (drop (length s.cells) t) ∙ ap (λ t. r.put (r.get w) ++ t) v₂ ∙ v₁), and_from _ _ g₁ g₂);
    }

-- other names
pub as_row_laws : {A B : Type 0} (s : Same A B) {r : Row A} → RowLaws r → RowLaws (as_row s r)
as_row_laws s {r} p =
    record {
      long = λ b. p.long (s.from b);
      reads = λ b rest g. let (v, f) = p.reads (s.from b) rest g in (ap s.to v ∙ s.there b, f);
      writes = λ w f. let (v, g) = p.writes w f in (ap (λ a. r.put a ++ drop (length r.cells) w) (s.back (r.get w)) ∙ v, ap r.good (s.back (r.get w)) ∙ g);
    }

-- ZEROS ---------------------------------------------------------------------------------------------------------------------------
pub zeros-written : (n : ℕ) (rest : List ℕ) → zeros n (replicate n 0 ++ rest) ≡ true
unfolding zeros
zeros-written zero rest = refl
zeros-written (suc n) rest = zeros-written n rest

pub zeros-back : (n : ℕ) (w : List ℕ) → zeros n w ≡ true → replicate n 0 ++ drop n w ≡ w
unfolding zeros
zeros-back zero w e = refl
zeros-back (suc n) [] e = absurd (false≢true e)
zeros-back (suc n) (x ∷ w) e =
    let (a, b) = and_parts (eqb x 0) (zeros n w) e in
    rw (eqb-true x 0 a) (ap (λ t. 0 ∷ t) (zeros-back n w b))

-- zeros in front of zeros
pub zeros-append : (m n : ℕ) (w : List ℕ) → zeros (m + n) w ≡ zeros m w && zeros n (drop m w)
unfolding zeros
zeros-append zero n w = ap (λ (k : ℕ). zeros k w) (zero-add n)
zeros-append (suc m) n [] = ap (λ (k : ℕ). zeros k []) (suc-add m n)
zeros-append (suc m) n (x ∷ w) = ap (λ (k : ℕ). zeros k (x ∷ w)) (suc-add m n) ∙ rw (zeros-append m n w) (sym (and_assoc (eqb x 0) (zeros m w) (zeros n (drop m w))))

-- a row of zeros fits: what `maybe` asks of its row
pub record Blank {A : Type 0} (r : Row A) : Type 0 where
  pub blank : (w : List ℕ) → zeros (length r.cells) w ≡ true → row_fits r.cells w ≡ true

pub word_blank : (n : ℕ) → Blank (word n)
unfolding zeros row_fits
word_blank n = record { blank = blank }
  where
    blank : (w : List ℕ) → zeros 1 w ≡ true → row_fits (up_to n ∷ []) w ≡ true
    blank [] z = absurd (false≢true z)
    blank (x ∷ w) z =
        let h = eqb-true x 0 (and_parts (eqb x 0) true z).0 in
        let l : leb 0 n ≡ true = le-leb 0 n (omega arith) in
        rw (h, l)

pub wide-blank : Blank wide
unfolding zeros row_fits
wide-blank = record { blank = blank }
  where
    blank : (w : List ℕ) → zeros 2 w ≡ true → row_fits wide.cells w ≡ true
    blank [] z = absurd (false≢true z)
    blank (x ∷ []) z = absurd (false≢true (and_parts (eqb x 0) false z).1)
    blank (x ∷ y ∷ w) z =
        let (a, b) = and_parts (eqb x 0) (eqb y 0 && true) z in
        let h = eqb-true x 0 a in
        let l = eqb-true y 0 (and_parts (eqb y 0) true b).0 in
        rw (h, l)

pub ⊗-blank : {A B : Type 0} {r : Row A} {s : Row B} → Blank r → Blank s → Blank (r ⊗ s)
⊗-blank {r} {s} p q =
    record {
      blank =
          λ w z.
          let m = length r.cells in
          let n = length s.cells in
          let e = ap (λ (k : ℕ). zeros k w) (length-append r.cells s.cells) in
          let (a, b) = and_parts (zeros m w) (zeros n (drop m w)) (sym (zeros-append m n w) ∙ sym e ∙ z) in
          row-append r.cells s.cells w ∙ and_from _ _ (p.blank w a) (q.blank (drop m w) b);
    }

pub as_row_blank : {A B : Type 0} {r : Row A} (s : Same A B) → Blank r → Blank (as_row s r)
as_row_blank s p = record { blank = p.blank }

-- A MARK AND A ROW ------------------------------------------------------------------------------------------------------------------
module _ {A : Type 0} {r : Row A} (p : RowLaws r) (b : Blank r) where
  maybe-long : (o : Option A) → length ((maybe r).put o) ≡ length (maybe r).cells
  maybe-long None = ap suc (length-replicate _ _)
  maybe-long (Some a) = ap suc (p.long a)

  maybe-reads : (o : Option A) (rest : List ℕ) → (maybe r).good o ≡ true
      → ((maybe r).get ((maybe r).put o ++ rest) ≡ o) × (row_fits (maybe r).cells ((maybe r).put o ++ rest) ≡ true)
  unfolding row_fits
  maybe-reads None rest g =
      let z = zeros-written (length r.cells) rest in
      (refl, rw (z, b.blank _ z))
  maybe-reads (Some a) rest g = let (v, f) = p.reads a rest g in (ap Some v, f)

  maybe-writes : (w : List ℕ) → row_fits (maybe r).cells w ≡ true
      → ((maybe r).put ((maybe r).get w) ++ drop (length (maybe r).cells) w ≡ w) × ((maybe r).good ((maybe r).get w) ≡ true)
  unfolding row_fits
  maybe-writes [] f = absurd (false≢true f)
  maybe-writes (zero ∷ w) f =
      let (a, _) = and_parts (zeros (length r.cells) w) (row_fits r.cells w) f in
      (ap (λ t. 0 ∷ t) (zeros-back (length r.cells) w a), refl)
  maybe-writes (suc zero ∷ w) f =
      let (v, g) = p.writes w f in
      (ap (λ t. 1 ∷ t) v, g)
  maybe-writes (suc (suc x) ∷ w) f =
      let (a, _) = and_parts (cell_fits (mark (length r.cells)) (suc (suc x)) w) (row_fits r.cells w) f in
      let l = leb-true (suc (suc x)) 1 (and_parts (leb (suc (suc x)) 1) _ a).0 in
      absurd (omega arith)

  pub maybe-laws : RowLaws (maybe r)
  maybe-laws = record { long = maybe-long; reads = maybe-reads; writes = maybe-writes }

-- WORDS THAT ARE 0 --------------------------------------------------------------------------------------------------------------------
pub only_zero : (x : ℕ) (z : Bool) → (leb x 0 && (not (eqb x 0) || true)) && z ≡ eqb x 0 && z
only_zero zero z = refl
only_zero (suc x) z = rw (leb-suc-zero, eqb-suc-zero)

pad-fits : (n : ℕ) (w : List ℕ) → row_fits (replicate n (up_to 0)) w ≡ zeros n w
unfolding row_fits zeros
pad-fits zero w = refl
pad-fits (suc n) [] = refl
pad-fits (suc n) (x ∷ w) = rw (pad-fits n w) (only_zero x (zeros n w))

pub pad-laws : (n : ℕ) → RowLaws (pad n)
pad-laws n =
    record {
      long = λ a. length-replicate n 0 ∙ sym size;
      reads = λ a rest g. (refl, pad-fits n (replicate n 0 ++ rest) ∙ zeros-written n rest);
      writes = λ w f. (rw size (zeros-back n w (sym (pad-fits n w) ∙ f)), refl);
    }
  where
    size : length (replicate n (up_to 0)) ≡ n
    size = length-replicate n (up_to 0)

-- ROWS ----------------------------------------------------------------------------------------------------------------------------
module _ {A : Type 0} (r : Row A) where
  abbrev n : ℕ
  n = length r.cells

  next : (m : ℕ) → suc m * n ≡ n + m * n
  next m = suc-mul m n ∙ add_comm (m * n) n

  pub words_long : ((a : A) → length (r.put a) ≡ n) → (l : List A) → length (words_of r l) ≡ length l * n
  unfolding words_of
  words_long p [] = sym (zero-mul n)
  words_long p (a ∷ l) = length-append (r.put a) (words_of r l) ∙ rw (p a, words_long p l, next (length l))

  pub rows-count : (m : ℕ) (w : List ℕ) → length (rows_at r m w) ≡ m
  unfolding rows_at
  rows-count zero w = refl
  rows-count (suc m) w = ap suc (rows-count m (drop n w))

  module _ (p : RowLaws r) where
    pub rows_long : (l : List A) → length (words_of r l) ≡ length l * n
    rows_long = words_long p.long

    pub rows-reads : (l : List A) (rest : List ℕ) → all_good r l ≡ true
        → (rows_at r (length l) (words_of r l ++ rest) ≡ l) × (rows_fit (length l) r.cells (words_of r l ++ rest) ≡ true)
    unfolding words_of rows_at rows_fit all_good
    rows-reads [] rest g = (refl, refl)
    rows-reads (a ∷ l) rest g =
        let (g₁, g₂) = and_parts (r.good a) (all_good r l) g in
        let e = append_assoc (r.put a) (words_of r l) rest in
        let (v₁, f₁) = p.reads a (words_of r l ++ rest) g₁ in
        let (v₂, f₂) = rows-reads l rest g₂ in
        let d = behind p a (words_of r l ++ rest) in
        (rw (e, d, v₁, v₂), rw (e, d, f₁, f₂))

    pub rows-writes : (m : ℕ) (w : List ℕ) → rows_fit m r.cells w ≡ true
        → (words_of r (rows_at r m w) ++ drop (m * n) w ≡ w) × (all_good r (rows_at r m w) ≡ true)
    unfolding words_of rows_at rows_fit all_good
    rows-writes zero w f = (ap (λ (k : ℕ). drop k w) (zero-mul n), refl)
    rows-writes (suc m) w f =
        let (f₁, f₂) = and_parts (row_fits r.cells w) (rows_fit m r.cells (drop n w)) f in
        let (v₁, g₁) = p.writes w f₁ in
        let (v₂, g₂) = rows-writes m (drop n w) f₂ in
        let d : drop (suc m * n) w ≡ drop (m * n) (drop n w) = ap (λ (k : ℕ). drop k w) (next m) ∙ sym (drop-drop (m * n) n w) in
        (rw d (append_assoc (r.put (r.get w)) (words_of r (rows_at r m (drop n w))) (drop (m * n) (drop n w)) ∙ ap (λ t. r.put (r.get w) ++ t) v₂ ∙ v₁), and_from _ _ g₁ g₂)
