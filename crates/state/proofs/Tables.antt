-- Tables of rows in words. Assumes nothing.
use mathlib.Core.Path.{◌≡◌, refl, sym, ap, subst, ◌∙◌}
use mathlib.Core.Bool.{Bool, true, false, not}
use mathlib.Core.List.{List, [], ◌∷◌, ◌++◌, append_assoc}
use Rattle.std.proofs.Math.Seq.{paste}
use Prim.Native.Nat.{ℕ, suc, ◌+◌, ◌-◌, ◌*◌, ◌≤◌, ◌<◌}
use native.Mathlib.Nat.{zero-mul, suc-mul, mul-le-mul_right}
use native.Mathlib.Omega.{arith}
use lib.Dec.{leb, ltb}
use lib.ListN.{length, get_or, take, drop, set, replicate, length-append, length-drop, length-replicate, replicate-append-replicate}
use lib.Seq.{drop_at, drop-drop, length-take-le, set_split, take_all}
use borrow.Author.Tests.{leb-true, leb-false, lt-ltb, le-ltb}
use Rattle.model.specs.Lists.{flatten, keep}
use Rattle.model.proofs.CodecLaws.{rest_of}
use Rattle.rows.specs.Places.{laid}
use Rattle.rows.proofs.Writing.{laid-long}
use Rattle.state.specs.Cuts.{cut, sum, rows_in, table_of, Fits, Table, RowSet}
use Rattle.state.proofs.Closing.{Keeps, Closing, starts, keeps, skips, done}
use Rattle.state.proofs.Cutting.{laid-drop, laid-behind, word-before, cut-long, cut_at, cut-laid, cut-first, sum_same, sum_first, size_same, row-end}

module _ (f : ℕ) (p : List ℕ) (h : Fits f p) where
  abbrev n : ℕ
  n = get_or p 0 0

  pub rows_long : length (rows_in f p) ≡ n
  unfolding rows_in
  rows_long = cut-long (replicate n f) (drop 1 p) ∙ length-replicate {A = ℕ} n f

  pub row_at : (i : ℕ) → i < n → get_or (rows_in f p) i [] ≡ take f (drop (1 + i * f) p)
  unfolding rows_in
  row_at i l =
      let m : i < length (replicate {A = ℕ} n f) = rw (length-replicate {A = ℕ} n f) l in
      cut_at (replicate n f) (drop 1 p) i m
      ∙ rw (size_same n f i l, sum_first n f i (omega arith), drop-drop (i * f) 1 p)

  pub row_within : (i : ℕ) → i < n → 1 + i * f + f ≤ length p
  row_within i l = let e = row-end i n f l in omega (arith, e, h.within)

  pub row-long : (i : ℕ) → i < n → length (get_or (rows_in f p) i []) ≡ f
  row-long i l = let e = row_within i l in rw (row_at i l) (length-take-le f (drop (1 + i * f) p) (rw (length-drop (1 + i * f) p) (omega arith)))

  -- a row is written
  put-rows : (j : ℕ) (ys : List ℕ) → j < n → length ys ≡ f → get_or (laid p (1 + j * f) ys) 0 0 ≡ n → rows_in f (laid p (1 + j * f) ys) ≡ set (rows_in f p) j ys
  unfolding rows_in
  put-rows j ys l e c =
      let w = row_within j l in
      let m : j < length (replicate {A = ℕ} n f) = rw (length-replicate {A = ℕ} n f) l in
      let s : sum (take j (replicate n f)) ≡ j * f = sum_first n f j (omega arith) in
      let t : sum (replicate n f) ≤ length (drop 1 p) = rw (sum_same n f, length-drop 1 p) (omega (arith, h.within)) in
      ap (λ (i : ℕ). cut (replicate i f) (drop 1 (laid p (1 + j * f) ys))) c
      ∙ ap (cut (replicate n f)) (laid-drop 1 (j * f) p ys (omega arith) ∙ ap (λ (i : ℕ). laid (drop 1 p) i ys) (sym s))
      ∙ cut-laid (replicate n f) (drop 1 p) ys j m (e ∙ sym (size_same n f j l)) t

  row_put : (j : ℕ) (ys : List ℕ) → j < n → length ys ≡ f → RowSet f p j ys (laid p (1 + j * f) ys)
  row_put j ys l e =
      let w = row_within j l in
      let c = word-before p (1 + j * f) ys 0 (omega arith) (omega arith) in
      let q : 1 + j * f + length ys ≤ 1 + n * f = rw e (omega (arith, row-end j n f l)) in
      record {
        rows = put-rows j ys l e c;
        long = laid-long p (1 + j * f) ys (rw e (omega arith));
        count = c;
        behind = laid-behind p (1 + j * f) ys (1 + n * f) q (omega arith);
      }

-- WHICH ROWS ARE KEPT ----------------------------------------------------------------------------------------------------------------------
pub to-come : (time due : ℕ) → ltb time due ≡ not (leb due time)
to-come time due = by (leb due time) refl
  where
    by : (late : Bool) → leb due time ≡ late → ltb time due ≡ not late
    by true e = le-ltb time due (leb-true due time e)
    by false e = lt-ltb time due (leb-false due time e)

-- A ROW MOVED -----------------------------------------------------------------------------------------------------------------------------
pub row_moved : (f : ℕ) (p : List ℕ) (from to : ℕ) → Fits f p → from < get_or p 0 0 → to ≤ from → RowSet f p to (get_or (rows_in f p) from []) (paste p (1 + to * f) (drop (1 + from * f) p) f)
unfolding laid
row_moved f p from to h l t =
    let m : length (get_or (rows_in f p) from []) ≡ f = row-long f p h from l in
    let same : paste p (1 + to * f) (drop (1 + from * f) p) f ≡ laid p (1 + to * f) (get_or (rows_in f p) from []) = (let r = row_at f p h from l in rw (m, r)) in
    rw same (row_put f p h to (get_or (rows_in f p) from []) (omega arith) m)

-- CLOSING UP ------------------------------------------------------------------------------------------------------------------------------
-- i rows of p were looked at, and t has the j of them that are kept in front
pub record Closes (f : ℕ) (test : List ℕ → Bool) (p t : List ℕ) (i j : ℕ) : Type 0 where
  pub closing : Closing test (rows_in f p) (rows_in f t) i j
  pub long : length t ≡ length p
  pub count : get_or t 0 0 ≡ get_or p 0 0
  pub behind : drop (1 + get_or p 0 0 * f) t ≡ drop (1 + get_or p 0 0 * f) p

pub closes-start : (f : ℕ) (test : List ℕ → Bool) (p : List ℕ) → Closes f test p p 0 0
closes-start f test p = record { closing = starts test (rows_in f p); long = refl; count = refl; behind = refl }

module _ (f : ℕ) (test : List ℕ → Bool) (p t : List ℕ) (i j : ℕ) (h : Fits f p) (c : Closes f test p t i j) where
  pub closes-fits : Fits f t
  closes-fits =
      let l = c.long in
      record { counted = omega (arith, h.counted); short = omega (arith, h.short); thin = h.thin; few = rw c.count h.few; within = rw c.count (omega (arith, h.within)) }

  module _ (kept : Bool) (l : i < get_or p 0 0) (e : kept ≡ test (get_or (rows_in f t) i [])) where
    looked-at : i < length (rows_in f t)
    looked-at = rw (rows_long f t closes-fits, c.count) l

    pub closes-keep : kept ≡ true → (t' : List ℕ) → RowSet f t j (get_or (rows_in f t) i []) t' → Closes f test p t' (i + 1) (j + 1)
    closes-keep d t' r =
        record {
          closing = rw r.rows (keeps test (rows_in f p) (rows_in f t) i j [] c.closing looked-at (sym e ∙ d));
          long = r.long ∙ c.long;
          count = r.count ∙ c.count;
          behind = subst (λ (m : ℕ). drop (1 + m * f) t' ≡ drop (1 + m * f) t) c.count r.behind ∙ c.behind;
        }

    pub closes-skip : kept ≡ false → Closes f test p t (i + 1) j
    closes-skip d =
        record {
          closing = skips test (rows_in f p) (rows_in f t) i j [] c.closing looked-at (sym e ∙ d);
          long = c.long;
          count = c.count;
          behind = c.behind;
        }

flatten-same : (rows : List (List ℕ)) (f : ℕ) → ((i : ℕ) → i < length rows → length (get_or rows i []) ≡ f) → length (flatten rows) ≡ length rows * f
flatten-same [] f a = sym (zero-mul f)
flatten-same (r ∷ rows) f a =
    let t = flatten-same rows f (λ i l. a (suc i) (omega arith)) in
    let s = suc-mul (length rows) f in
    length-append r (flatten rows) ∙ rw (t, a 0 (omega arith)) (omega (arith, s))

module _ (f : ℕ) (p : List ℕ) (h : Table f p) where
  rows_words : length (flatten (rows_in f p)) ≡ get_or p 0 0 * f
  rows_words =
      let l = rows_long f p h.fits in
      rw l at (flatten-same (rows_in f p) f (λ i m. row-long f p h.fits i (omega arith)))

  -- behind the rows stand zeros
  zeros-behind : drop (1 + get_or p 0 0 * f) p ≡ replicate (length p - 1 - get_or p 0 0 * f) 0
  unfolding table_of
  zeros-behind =
      let e : ◌≡◌ {A = ℕ} (1 + get_or p 0 0 * f) (suc (get_or p 0 0 * f)) = omega arith in
      ap (λ (z : List ℕ). drop (1 + get_or p 0 0 * f) z) h.whole
      ∙ rw e (drop_at (flatten (rows_in f p)) _ (get_or p 0 0 * f) rows_words)
      ∙ ap (λ (m : ℕ). replicate {A = ℕ} (length p - 1 - m) 0) rows_words

  module _ (test : List ℕ → Bool) (t : List ℕ) (i j : ℕ) (c : Closes f test p t i j) (a : i ≤ get_or p 0 0) (b : get_or p 0 0 ≤ i) where
    abbrev kept : List (List ℕ)
    kept = keep test (rows_in f p)

    all-kept : Keeps test (rows_in f p) (rows_in f t) j
    all-kept =
        let l = rows_long f p h.fits in
        let q : take (get_or p 0 0) (rows_in f p) ≡ rows_in f p = take_all (get_or p 0 0) (rows_in f p) (omega arith) in
        subst (λ (rows : List (List ℕ)). Keeps test rows (rows_in f t) j) q
        (done test (rows_in f p) (rows_in f t) i j (get_or p 0 0) c.closing a b (omega arith))

    pub closed-count : j ≡ length (keep test (rows_in f p))
    closed-count = all-kept.counted

    closed-few : j ≤ get_or p 0 0
    closed-few = omega (arith, all-kept.fewer, rows_long f p h.fits)

    -- the words of the rows that are gone
    pub gone-within : 1 + j * f + (get_or p 0 0 - j) * f ≤ length t
    gone-within = omega (arith, rest_of j (get_or p 0 0) f closed-few, h.fits.within, c.long)

    kept-words : take (j * f) (drop 1 t) ≡ flatten kept
    unfolding rows_in
    kept-words =
        let m : j ≤ get_or t 0 0 = rw c.count closed-few in
        ap (λ (k : ℕ). take k (drop 1 t)) (sym (sum_first (get_or t 0 0) f j m)) ∙ sym (cut-first (replicate (get_or t 0 0) f) (drop 1 t) j) ∙ ap flatten all-kept.holds

    rest-words : drop (j * f + (get_or p 0 0 - j) * f) (drop 1 t) ≡ replicate (length p - 1 - get_or p 0 0 * f) 0
    rest-words =
        rw (rest_of j (get_or p 0 0) f closed-few) (drop-drop (get_or p 0 0 * f) 1 t ∙ c.behind ∙ zeros-behind)

    kept-long : length (flatten kept) ≡ j * f
    kept-long =
        let m = mul-le-mul_right f closed-few in
        let w = h.fits.within in
        let l = c.long in
        sym (ap length kept-words) ∙ length-take-le (j * f) (drop 1 t) (rw (length-drop 1 t) (omega (arith, m, w)))

    pub closed : (t₁ : List ℕ) → t₁ ≡ laid t (1 + j * f) (replicate ((get_or p 0 0 - j) * f) 0) → set t₁ 0 j ≡ table_of (length p - 1) (keep test (rows_in f p))
    unfolding table_of laid
    closed t₁ e =
        let m = mul-le-mul_right f closed-few in
        let w = h.fits.within in
        let l = c.long in
        let zs : List ℕ = replicate ((get_or p 0 0 - j) * f) 0 in
        let z : length zs ≡ (get_or p 0 0 - j) * f = length-replicate {A = ℕ} ((get_or p 0 0 - j) * f) 0 in
        let r = rest_of j (get_or p 0 0) f closed-few in
        let long : length t₁ ≡ length t = ap length e ∙ laid-long t (1 + j * f) zs (rw z (omega (arith, r, w))) in
        let first : set t₁ 0 j ≡ j ∷ drop 1 t₁ = set_split t₁ 0 j (omega (arith, h.fits.counted)) in
        let body : drop 1 t₁ ≡ take (j * f) (drop 1 t) ++ zs ++ drop (j * f + length zs) (drop 1 t) = ap (drop 1) e ∙ laid-drop 1 (j * f) t zs (omega (arith, m, w)) in
        let sum_is : (get_or p 0 0 - j) * f + (length p - 1 - get_or p 0 0 * f) ≡ length p - 1 - length (flatten kept) = rw kept-long (omega (arith, r, w)) in
        let both : zs ++ replicate (length p - 1 - get_or p 0 0 * f) 0 ≡ replicate (length p - 1 - length (flatten kept)) 0 =
        rw (← sum_is) (replicate-append-replicate ((get_or p 0 0 - j) * f) (length p - 1 - get_or p 0 0 * f) 0) in
        let rest : drop (j * f + length zs) (drop 1 t) ≡ replicate (length p - 1 - get_or p 0 0 * f) 0 = ap (λ (k : ℕ). drop (j * f + k) (drop 1 t)) z ∙ rest-words in
        let words : drop 1 t₁ ≡ flatten kept ++ replicate (length p - 1 - length (flatten kept)) 0 =
        body ∙ rw (kept-words, rest, ← both) (append_assoc (flatten kept) zs (replicate (length p - 1 - get_or p 0 0 * f) 0)) in
        first ∙ ap (λ (l : List ℕ). j ∷ l) words ∙ ap (λ (k : ℕ). k ∷ (flatten kept ++ replicate (length p - 1 - length (flatten kept)) 0)) closed-count
