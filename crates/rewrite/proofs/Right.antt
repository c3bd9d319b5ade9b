-- The words that a walk writes are those of the written image, and it writes all of them. Assumes nothing.
use mathlib.Core.Path.{◌≡◌, refl, sym, ap, ap₂, ◌∙◌}
use mathlib.Core.Logic.{◌⊎◌, inl, inr}
use mathlib.Core.Bool.{Bool, true, false, cond, ◌&&◌}
use mathlib.Core.List.{List, [], ◌∷◌}
use Prim.Native.Nat.{ℕ, zero, suc, ◌+◌, ◌-◌, ◌<◌, ◌≤◌}
use native.Mathlib.Nat.{add-zero, zero-add}
use native.Mathlib.Omega.{arith}
use lib.Dec.{eqb, ltb}
use lib.ListN.{length, get_or, set, length-set}
use lib.Seq.{get_or-set_same, get_or-set_other}
use borrow.Author.Tests.{eqb-true, eqb-false, ltb-true, ltb-false, eq-eqb}
use Rattle.model.specs.Image.{width_of}
use Rattle.std.proofs.lemmas.Bool.{and_parts}
use Rattle.model.specs.Tree.{Records, none, record-of, Cells, end, word, mention, record_count, only, below, below_cells, Counts, ◌⊕◌, place_of, appended, rows_of, row_of, rows_below, rows_below_cells}
use Rattle.rewrite.specs.Walk.{Store, count_of, append, word_place, put, walk_records, walk_cells, walk_list}
use Rattle.rewrite.proofs.Counts.{rows-count, rows_of_list, own-count, cells-count, list-count}
use Rattle.rewrite.proofs.ReadBack.{Stands, left-part, right-part}
use Rattle.rewrite.proofs.Counting.{records-in, cells-in, At, put-at, append-at, records-at, cells-at}

-- LENGTHS -----------------------------------------------------------------------------------------------------------------------------------
module _ (firsts : List ℕ) where
  put-length : (t p j w : ℕ) (s : Store) → length (put firsts t p j w s).words ≡ length s.words
  unfolding put
  put-length t p j w s = length-set s.words (word_place firsts t p j) w

  append-length : (t n : ℕ) (s : Store) → length (append t n s).words ≡ length s.words
  unfolding append
  append-length t n s = refl

  mutual
    unfolding walk_records

    pub records-length : (rs : Records) (t p : ℕ) (s : Store) → length (walk_records firsts rs t p s).words ≡ length s.words
    records-length none t p s = refl
    records-length (record-of cs rs) t p s = records-length rs t (suc p) (walk_cells firsts cs t p 0 s) ∙ cells-length cs t p 0 s

    pub cells-length : (cs : Cells) (t p j : ℕ) (s : Store) → length (walk_cells firsts cs t p j s).words ≡ length s.words
    cells-length end t p j s = refl
    cells-length (word w cs) t p j s = cells-length cs t p (suc j) (put firsts t p j w s) ∙ put-length t p j w s
    cells-length (mention u rs cs) t p j s =
        let s1 : Store = put firsts t p j (place_of (count_of s u) rs) s in
        let s2 : Store = append u (record_count rs) s1 in
        cells-length cs t p (suc j) (walk_records firsts rs u (count_of s u) s2)
        ∙ records-length rs u (count_of s u) s2 ∙ append-length u (record_count rs) s1 ∙ put-length t p j (place_of (count_of s u) rs) s

  pub list-length : (rs : Records) (t : ℕ) (s : Store) → length (walk_list firsts t rs s).words ≡ length s.words
  unfolding walk_list
  list-length rs t s = records-length rs t (count_of s t) (append t (record_count rs) s) ∙ append-length t (record_count rs) s

-- RIGHT WORDS -------------------------------------------------------------------------------------------------------------------------------
module _ (firsts final : List ℕ) (tables : ℕ → List (List ℕ)) where
  -- word i of row q of table u, as the written image has it
  abbrev pub from : ℕ → ℕ → ℕ → ℕ
  from u q i = get_or final (word_place firsts u q i) 0

  abbrev pub Right : ℕ → Store → Type 0
  Right k s = get_or s.words k 0 ≡ get_or final k 0

  abbrev pub Kept : Store → Store → Type 0
  Kept s r = (k : ℕ) → Right k s → Right k r

  -- from row `c` to row `d` of each table
  abbrev pub Covers : Counts → Counts → Store → Type 0
  Covers c d s = (u q i : ℕ) → u < 8 → c u ≤ q → q < d u → i < width_of u → Right (word_place firsts u q i) s

  set-case : (l : List ℕ) (at w k : ℕ) (b : Bool) → eqb k at ≡ b → at < length l → w ≡ get_or final at 0 → get_or l k 0 ≡ get_or final k 0 → get_or (set l at w) k 0 ≡ get_or final k 0
  set-case l at w k true e h v r = rw (eqb-true k at e) (get_or-set_same l at w 0 h ∙ v)
  set-case l at w k false e h v r = get_or-set_other l at k w 0 (eqb-false k at e) ∙ r

  pub set-right : (l : List ℕ) (at w k : ℕ) → at < length l → w ≡ get_or final at 0 → get_or l k 0 ≡ get_or final k 0 → get_or (set l at w) k 0 ≡ get_or final k 0
  set-right l at w k h v r = set-case l at w k (eqb k at) refl h v r

  module _ (agrees : (u q i : ℕ) → u < 8 → q < length (tables u) → i < width_of u → from u q i ≡ get_or (get_or (tables u) q []) i 0)
      (inside : (u q i : ℕ) → u < 8 → q < length (tables u) → i < width_of u → word_place firsts u q i < length final)
      (widths : (u q : ℕ) → q < length (tables u) → length (get_or (tables u) q []) ≡ width_of u) where
    abbrev pub There : Counts → (ℕ → List (List ℕ)) → Type 0
    There = Stands tables from agrees

    put-right : (t p j w : ℕ) (s : Store) → t < 8 → p < length (tables t) → j < width_of t → length s.words ≡ length final → get_or (get_or (tables t) p []) j 0 ≡ w
        → Kept s (put firsts t p j w s) × Right (word_place firsts t p j) (put firsts t p j w s)
    unfolding put
    put-right t p j w s h l g e v =
        let at : ℕ = word_place firsts t p j in
        let i : at < length s.words = rw e (inside t p j h l g) in
        let x : w ≡ get_or final at 0 = sym (agrees t p j h l g ∙ v) in
        (λ k r. set-right s.words at w k i x r, get_or-set_same s.words at w 0 i ∙ x)

    append-kept : (t n : ℕ) (s : Store) → Kept s (append t n s)
    unfolding append
    append-kept t n s k r = r

    covers-case : (c d e : Counts) (s : Store) (u q i : ℕ) → (q < d u) ⊎ (d u ≤ q) → Covers c d s → Covers d e s → u < 8 → c u ≤ q → q < e u → i < width_of u → Right (word_place firsts u q i) s
    covers-case c d e s u q i (inl l) x y h a b g = x u q i h a l g
    covers-case c d e s u q i (inr l) x y h a b g = y u q i h l b g

    below-or-not : (q n : ℕ) (b : Bool) → ltb q n ≡ b → (q < n) ⊎ (n ≤ q)
    below-or-not q n true e = inl (ltb-true q n e)
    below-or-not q n false e = inr (ltb-false q n e)

    pub join-covers : (c d e : Counts) (s : Store) → Covers c d s → Covers d e s → Covers c e s
    join-covers c d e s x y u q i h a b g = covers-case c d e s u q i (below-or-not q (d u) (ltb q (d u)) refl) x y h a b g

    pub keep-covers : (c d : Counts) (s r : Store) → Kept s r → Covers c d s → Covers c d r
    keep-covers c d s r k x u q i h a b g = k (word_place firsts u q i) (x u q i h a b g)

    -- what a walk has done: no right word is spoilt, and these rows are right
    pub record Done (c d : Counts) (s r : Store) : Type 0 where
      pub kept : Kept s r
      pub covers : Covers c d r

    -- A LIST ------------------------------------------------------------------------------------------------------------------------------------
    abbrev OwnRows : ℕ → ℕ → ℕ → Store → Type 0
    OwnRows t p n s = (k i : ℕ) → k < n → i < width_of t → Right (word_place firsts t (p + k) i) s

    own-case : (c : Counts) (t n : ℕ) (s : Store) → OwnRows t (c t) n s → (u q i : ℕ) (b : Bool) → eqb t u ≡ b → c u ≤ q → q < c u + cond b n 0 → i < width_of u → Right (word_place firsts u q i) s
    own-case c t n s own u q i true e a b g =
        let v = eqb-true t u e in
        let f : c t + (q - c t) ≡ q = omega (arith, ap c v) in
        let x : Right (word_place firsts t (c t + (q - c t)) i) s = own (q - c t) i (omega (arith, ap c v)) (rw v g) in
        rw (← v) (rw f at x)
    own-case c t n s own u q i false e a b g = absurd (omega arith)

    own-covers : (c : Counts) (t n : ℕ) (s : Store) → OwnRows t (c t) n s → Covers c (c ⊕ only t n) s
    own-covers c t n s own u q i h a b g = own-case c t n s own u q i (eqb t u) refl a b g

    -- the rows of a list stand where they are appended
    own-stand : (c : Counts) (t : ℕ) (rs : Records) → There c (rows_of_list c t rs)
        → (k : ℕ) → k < record_count rs → (c t + k < length (tables t)) × (get_or (tables t) (c t + k) [] ≡ get_or (rows_of (appended c t rs) rs) k [])
    own-stand c t rs s k l =
        let d : Counts = appended c t rs in
        let own : ℕ → List (List ℕ) = λ u. cond (eqb t u) (rows_of d rs) [] in
        let here : own t ≡ rows_of d rs = ap (λ b. cond b (rows_of d rs) []) (eq-eqb t t refl) in
        let size : length (own t) ≡ record_count rs = ap length here ∙ rows-count d rs in
        let x = left-part tables from agrees c own (rows_below d rs) s t k (rw size l) in
        (x.0, x.1 ∙ ap (λ (y : List (List ℕ)). get_or y k []) here)

    below-stand : (c : Counts) (t : ℕ) (rs : Records) → There c (rows_of_list c t rs) → There (appended c t rs) (rows_below (appended c t rs) rs)
    below-stand c t rs s =
        let d : Counts = appended c t rs in
        let own : ℕ → List (List ℕ) = λ u. cond (eqb t u) (rows_of d rs) [] in
        right-part tables from agrees c d own (rows_below d rs) (λ u. ap (λ x. c u + x) (sym (own-count (eqb t u) d rs))) s

    -- the list that a mention leads to
    list-done : (c : Counts) (t : ℕ) (rs : Records) (s r : Store) → Kept (append t (record_count rs) s) r → OwnRows t (c t) (record_count rs) r
        → Covers (appended c t rs) (appended c t rs ⊕ below rs) r → Done c (appended c t rs ⊕ below rs) s r
    list-done c t rs s r k own b =
        record {
          kept = λ i x. k i (append-kept t (record_count rs) s i x);
          covers = join-covers c (appended c t rs) (appended c t rs ⊕ below rs) r (own-covers c t (record_count rs) r own) b;
        }

    -- A ROW, A LIST OF ROWS ---------------------------------------------------------------------------------------------------------------------
    -- the cells from word j on of row p stand there
    abbrev RowThere : ℕ → ℕ → ℕ → List ℕ → Type 0
    RowThere t p j row = (k : ℕ) → k < length row → (j + k < width_of t) × (get_or (get_or (tables t) p []) (j + k) 0 ≡ get_or row k 0)

    abbrev OwnWords : ℕ → ℕ → ℕ → ℕ → Store → Type 0
    OwnWords t p j n s = (k : ℕ) → k < n → Right (word_place firsts t p (j + k)) s

    abbrev RowsThere : ℕ → ℕ → ℕ → List (List ℕ) → Type 0
    RowsThere t p n rows = (k : ℕ) → k < n → (p + k < length (tables t)) × (get_or (tables t) (p + k) [] ≡ get_or rows k [])

    next-row : (t p j w : ℕ) (row : List ℕ) → RowThere t p j (w ∷ row) → RowThere t p (suc j) row
    next-row t p j w row h k l = let e : suc j + k ≡ j + suc k = omega arith in rw e (h (suc k) (omega arith))

    word-first : (t p j w : ℕ) (row : List ℕ) → RowThere t p j (w ∷ row) → (j < width_of t) × (get_or (get_or (tables t) p []) j 0 ≡ w)
    word-first t p j w row h = rw add-zero at (h 0 (omega arith))

    more-words : (t p j n : ℕ) (s : Store) → Right (word_place firsts t p j) s → OwnWords t p (suc j) n s → OwnWords t p j (suc n) s
    more-words t p j n s a b zero l = let e : j + 0 ≡ j = add-zero j in rw e a
    more-words t p j n s a b (suc k) l = let e : j + suc k ≡ suc j + k = omega arith in rw e (b k (omega arith))

    more-rows : (t p n : ℕ) (s : Store) → ((i : ℕ) → i < width_of t → Right (word_place firsts t p i) s) → OwnRows t (suc p) n s → OwnRows t p (suc n) s
    more-rows t p n s a b zero i l g = let e : p + 0 ≡ p = add-zero p in rw e (a i g)
    more-rows t p n s a b (suc k) i l g = let e : p + suc k ≡ suc p + k = omega arith in rw e (b k i (omega arith) g)

    no-cover : (c : Counts) (s : Store) → Covers c (λ u. c u + 0) s
    no-cover c s u q i h a b g = absurd (omega arith)

    cover-same : (c d e : Counts) (s : Store) → ((u : ℕ) → d u ≡ e u) → Covers c d s → Covers c e s
    cover-same c d e s f x u q i h a b g = x u q i h a (omega (arith, f u)) g

    -- the same place
    own-from : (t p q n : ℕ) (s : Store) → p ≡ q → OwnRows t p n s → OwnRows t q n s
    own-from t p q n s e own k i l g = rw (← e) (own k i l g)

    rows-from : (t p q n : ℕ) (rows : List (List ℕ)) → p ≡ q → RowsThere t q n rows → RowsThere t p n rows
    rows-from t p q n rows e there k l = rw e (there k l)

    mutual
      unfolding records-in walk_records below rows_of rows_below

      pub records-right : (rs : Records) (t p : ℕ) (s : Store) (c : Counts) → records-in rs ≡ true → t < 8 → At s c → length s.words ≡ length final
          → RowsThere t p (record_count rs) (rows_of c rs) → There c (rows_below c rs)
          → Done c (c ⊕ below rs) s (walk_records firsts rs t p s) × OwnRows t p (record_count rs) (walk_records firsts rs t p s)
      records-right none t p s c e h a len rows st = (record { kept = λ k r. r; covers = no-cover c s }, λ k i l g. absurd (omega arith))
      records-right (record-of cs rs) t p s c e h a len rows st =
          let i = and_parts (cells-in cs) (records-in rs) e in
          let first = rows 0 (omega arith) in
          let place : p < length (tables t) = omega (arith, first.0) in
          let row : get_or (tables t) p [] ≡ row_of c cs = ap (λ x. get_or (tables t) x []) (sym (add-zero p)) ∙ first.1 in
          let wide : length (row_of c cs) ≡ width_of t = sym (ap length row) ∙ widths t p place in
          let there : RowThere t p 0 (row_of c cs) = λ k l. (omega (arith, wide), ap₂ (λ (x : List ℕ) (y : ℕ). get_or x y 0) row (zero-add k)) in
          let s1 : Store = walk_cells firsts cs t p 0 s in
          let d : Counts = c ⊕ below_cells cs in
          let x = cells-right cs t p 0 s c i.0 h place a len there (left-part tables from agrees c (rows_below_cells c cs) (rows_below d rs) st) in
          let y = records-right rs t (suc p) s1 d i.1 h (cells-at firsts cs t p 0 s c i.0 a) (cells-length firsts cs t p 0 s ∙ len)
          (λ k l. let f : suc p + k ≡ p + suc k = omega arith in rw f (rows (suc k) (omega arith)))
          (right-part tables from agrees c d (rows_below_cells c cs) (rows_below d rs) (λ u. ap (λ n. c u + n) (sym (cells-count cs c u))) st) in
          let r : Store = walk_records firsts rs t (suc p) s1 in (
            record {
              kept = λ k g. y.0.kept k (x.0.kept k g);
              covers = cover-same c (d ⊕ below rs) (λ u. c u + (below_cells cs u + below rs u)) r (λ u. omega arith) (join-covers c d (d ⊕ below rs) r (keep-covers c d s1 r y.0.kept x.0.covers) y.0.covers);
            },
            more-rows t p (record_count rs) r (λ k g. y.0.kept (word_place firsts t p k) (let f : 0 + k ≡ k = zero-add k in rw f at (x.1 k (rw wide g)))) y.1,
          )

      pub cells-right : (cs : Cells) (t p j : ℕ) (s : Store) (c : Counts) → cells-in cs ≡ true → t < 8 → p < length (tables t) → At s c → length s.words ≡ length final
          → RowThere t p j (row_of c cs) → There c (rows_below_cells c cs)
          → Done c (c ⊕ below_cells cs) s (walk_cells firsts cs t p j s) × OwnWords t p j (length (row_of c cs)) (walk_cells firsts cs t p j s)
      cells-right end t p j s c e h l a len row st = (record { kept = λ k r. r; covers = no-cover c s }, λ k g. absurd (omega arith))
      cells-right (word w cs) t p j s c e h l a len row st =
          let f = word-first t p j w (row_of c cs) row in
          let s1 : Store = put firsts t p j w s in
          let x = put-right t p j w s h l f.0 len f.1 in
          let y = cells-right cs t p (suc j) s1 c e h l (put-at firsts t p j w s c a) (put-length firsts t p j w s ∙ len) (next-row t p j w (row_of c cs) row) st in (
            record { kept = λ k r. y.0.kept k (x.0 k r); covers = y.0.covers },
            more-words t p j (length (row_of c cs)) (walk_cells firsts cs t p (suc j) s1) (y.0.kept (word_place firsts t p j) x.1) y.1,
          )
      cells-right (mention u rs cs) t p j s c e h l a len row st =
          let i = and_parts (ltb u 8) (records-in rs && cells-in cs) e in
          let in8 : u < 8 = ltb-true u 8 i.0 in
          let k = and_parts (records-in rs) (cells-in cs) i.1 in
          let d : Counts = appended c u rs in
          let after : Counts = d ⊕ below rs in
          let rest : List ℕ = row_of after cs in
          let spot : ℕ = place_of (count_of s u) rs in
          let same : place_of (c u) rs ≡ spot = ap (λ x. place_of x rs) (sym (a.same u)) in
          let f = word-first t p j (place_of (c u) rs) rest row in
          let s1 : Store = put firsts t p j spot s in
          let s2 : Store = append u (record_count rs) s1 in
          let s3 : Store = walk_records firsts rs u (count_of s u) s2 in
          let r : Store = walk_cells firsts cs t p (suc j) s3 in
          let a1 : At s1 c = put-at firsts t p j spot s c a in
          let a2 : At s2 d = append-at u (record_count rs) s1 c in8 a1 in
          let len2 : length s2.words ≡ length final = append-length firsts u (record_count rs) s1 ∙ put-length firsts t p j spot s ∙ len in
          let list : There c (rows_of_list c u rs) = left-part tables from agrees c (rows_of_list c u rs) (rows_below_cells after cs) st in
          let x = put-right t p j spot s h l f.0 len (f.1 ∙ same) in
          let y = records-right rs u (count_of s u) s2 d k.0 in8 a2 len2 (rows-from u (count_of s u) (c u) (record_count rs) (rows_of d rs) (a.same u) (own-stand c u rs list)) (below-stand c u rs list) in
          let z : Done c after s1 s3 = list-done c u rs s1 s3 y.0.kept (own-from u (count_of s u) (c u) (record_count rs) s3 (a.same u) y.1) y.0.covers in
          let v = cells-right cs t p (suc j) s3 after k.1 h l (records-at firsts rs u (count_of s u) s2 d k.0 a2) (records-length firsts rs u (count_of s u) s2 ∙ len2)
          (next-row t p j (place_of (c u) rs) rest row)
          (right-part tables from agrees c after (rows_of_list c u rs) (rows_below_cells after cs) (λ w. omega (arith, list-count rs c u w)) st) in (
            record {
              kept = λ n g. v.0.kept n (z.kept n (x.0 n g));
              covers = cover-same c (after ⊕ below_cells cs) (λ w. c w + ((only u (record_count rs) w + below rs w) + below_cells cs w)) r (λ w. omega arith)
                  (join-covers c after (after ⊕ below_cells cs) r (keep-covers c after s3 r v.0.kept z.covers) v.0.covers);
            },
            more-words t p j (length rest) r (v.0.kept (word_place firsts t p j) (z.kept (word_place firsts t p j) x.1)) v.1,
          )

    -- all records of a table
    pub list-right : (rs : Records) (t : ℕ) (s : Store) (c : Counts) → records-in rs ≡ true → t < 8 → At s c → length s.words ≡ length final → There c (rows_of_list c t rs)
        → Done c (appended c t rs ⊕ below rs) s (walk_list firsts t rs s)
    unfolding walk_list
    list-right rs t s c e h a len st =
        let s2 : Store = append t (record_count rs) s in
        let d : Counts = appended c t rs in
        let y = records-right rs t (count_of s t) s2 d e h (append-at t (record_count rs) s c h a) (append-length firsts t (record_count rs) s ∙ len)
        (rows-from t (count_of s t) (c t) (record_count rs) (rows_of d rs) (a.same t) (own-stand c t rs st)) (below-stand c t rs st) in
        list-done c t rs s (walk_records firsts rs t (count_of s t) s2) y.0.kept (own-from t (count_of s t) (c t) (record_count rs) (walk_records firsts rs t (count_of s t) s2) (a.same t) y.1) y.0.covers
