-- How many records of each table a walk appends. Assumes nothing.
use mathlib.Core.Path.{◌≡◌, refl, sym, ap, ◌∙◌}
use mathlib.Core.Bool.{Bool, true, false, cond, ◌&&◌}
use mathlib.Core.List.{List, [], ◌∷◌}
use Prim.Native.Nat.{ℕ, zero, suc, ◌+◌, ◌<◌}
use native.Mathlib.Nat.{add-zero}
use native.Mathlib.Omega.{arith}
use lib.Dec.{eqb, leb, ltb}
use lib.ListN.{length, length-set}
use borrow.Author.Tests.{ltb-true}
use Rattle.model.specs.declared.Field.{Field}
use Rattle.model.specs.declared.Field.TheVariants.{Free, UpTo, Mark, Tag, Index, Span, Nested}
use Rattle.model.specs.Lists.{all}
use Rattle.model.specs.Rows.{actions}
use Rattle.std.proofs.lemmas.Bool.{and_parts, and_from}
use Rattle.model.specs.Tree.{Records, none, record-of, Cells, end, word, mention, Reader, cells_of, fields_of, record_at, list_of, records_of, record_count, only, below, below_cells, Counts, ◌⊕◌, place_of, appended}
use Rattle.rewrite.specs.Walk.{Store, count_of, append, put, walk_records, walk_cells, walk_list}
use Rattle.rewrite.proofs.Fields.{leads_inside, inner, fields-inside}
use Rattle.rewrite.proofs.Grown.{set-only}

-- A TREE OF EIGHT TABLES --------------------------------------------------------------------------------------------------------------------
unfoldable mutual
  pub records-in : Records → Bool
  records-in none = true
  records-in (record-of cs rs) = cells-in cs && records-in rs

  pub cells-in : Cells → Bool
  cells-in end = true
  cells-in (word w cs) = cells-in cs
  cells-in (mention t rs cs) = ltb t 8 && (records-in rs && cells-in cs)

module _ (deeper : Reader) (h : (t i n : ℕ) → records-in (deeper t i n) ≡ true) where
  mention-in : (t i n : ℕ) (cs : Cells) → inner t ≡ true → cells-in cs ≡ true → cells-in (mention t (deeper t i n) cs) ≡ true
  unfolding records-in
  mention-in t i n cs e s = and_from _ _ (and_parts (leb 2 t) (ltb t 8) e).1 (and_from _ _ (h t i n) s)

  tagged-in : (b : Bool) (t x : ℕ) (cs : Cells) → inner t ≡ true → cells-in cs ≡ true → cells-in (cond b (mention t (deeper t x 1) cs) (word x cs)) ≡ true
  unfolding records-in
  tagged-in true t x cs e s = mention-in t x 1 cs e s
  tagged-in false t x cs e s = s

  row-in : (fs : List Field) (v : ℕ → ℕ) → all leads_inside fs ≡ true → cells-in (cells_of deeper fs v) ≡ true
  unfolding cells_of records-in
  row-in [] v a = refl
  row-in (Free ∷ fs) v a = row-in fs (λ j. v (suc j)) a
  row-in (UpTo most ∷ fs) v a = row-in fs (λ j. v (suc j)) a
  row-in (Mark most value ∷ fs) v a = row-in fs (λ j. v (suc j)) a
  row-in (Tag t ∷ []) v a = refl
  row-in (Tag t ∷ (f ∷ fs)) v a =
      let i = and_parts (inner t) (all leads_inside (f ∷ fs)) a in
      tagged-in (eqb (v 0) 0) t (v 1) (cells_of deeper fs (λ j. v (suc (suc j)))) i.0 (row-in fs (λ j. v (suc (suc j))) (and_parts (leads_inside f) (all leads_inside fs) i.1).1)
  row-in (Index t ∷ fs) v a =
      let i = and_parts (inner t) (all leads_inside fs) a in mention-in t (v 0) 1 (cells_of deeper fs (λ j. v (suc j))) i.0 (row-in fs (λ j. v (suc j)) i.1)
  row-in (Span t ∷ []) v a = refl
  row-in (Span t ∷ (f ∷ fs)) v a =
      let i = and_parts (inner t) (all leads_inside (f ∷ fs)) a in
      mention-in t (v 0) (v 1) (word (v 1) (cells_of deeper fs (λ j. v (suc (suc j))))) i.0 (row-in fs (λ j. v (suc (suc j))) (and_parts (leads_inside f) (all leads_inside fs) i.1).1)
  row-in (Nested ∷ []) v a = refl
  row-in (Nested ∷ (f ∷ fs)) v a =
      mention-in actions (v 0) (v 1) (word (v 1) (cells_of deeper fs (λ j. v (suc (suc j))))) refl (row-in fs (λ j. v (suc (suc j))) (and_parts (leads_inside f) (all leads_inside fs) a).1)

  list-in : (at : ℕ → ℕ → ℕ → ℕ) (t n i : ℕ) → records-in (list_of at deeper t i n) ≡ true
  unfolding list_of record_at records-in
  list-in at t zero i = refl
  list-in at t (suc n) i = and_from _ _ (row-in (fields_of t (at t i 0) (at t i 1)) (at t i) (fields-inside t (at t i 0) (at t i 1))) (list-in at t n (suc i))

pub tree-in : (at : ℕ → ℕ → ℕ → ℕ) (depth t i n : ℕ) → records-in (records_of at depth t i n) ≡ true
unfolding records_of records-in
tree-in at zero t i n = refl
tree-in at (suc depth) t i n = list-in (records_of at depth) (tree-in at depth) at t n i

-- COUNTS ------------------------------------------------------------------------------------------------------------------------------------
-- the eight counts of a store are those of `c`
pub record At (s : Store) (c : Counts) : Type 0 where
  pub eight : length s.counts ≡ 8
  pub same : (u : ℕ) → count_of s u ≡ c u

pub put-at : (firsts : List ℕ) (t p j w : ℕ) (s : Store) (c : Counts) → At s c → At (put firsts t p j w s) c
unfolding put
put-at firsts t p j w s c a = record { eight = a.eight; same = a.same }

pub append-at : (t n : ℕ) (s : Store) (c : Counts) → t < 8 → At s c → At (append t n s) (c ⊕ only t n)
unfolding append
append-at t n s c h a =
    let l : t < length s.counts = omega (arith, a.eight) in
    record { eight = length-set s.counts t _ ∙ a.eight; same = λ u. set-only s.counts t n l u ∙ ap (λ x. x + only t n u) (a.same u) }

other-counts : (s : Store) (c d : Counts) → ((u : ℕ) → c u ≡ d u) → At s c → At s d
other-counts s c d e a = record { eight = a.eight; same = λ u. a.same u ∙ e u }

module _ (firsts : List ℕ) where
  mutual
    unfolding records-in walk_records below

    pub records-at : (rs : Records) (t p : ℕ) (s : Store) (c : Counts) → records-in rs ≡ true → At s c → At (walk_records firsts rs t p s) (c ⊕ below rs)
    records-at none t p s c e a = other-counts s c (λ u. c u + 0) (λ u. sym (add-zero (c u))) a
    records-at (record-of cs rs) t p s c e a =
        let i = and_parts (cells-in cs) (records-in rs) e in
        let r : Store = walk_cells firsts cs t p 0 s in
        other-counts (walk_records firsts rs t (suc p) r) ((c ⊕ below_cells cs) ⊕ below rs) (λ u. c u + (below_cells cs u + below rs u)) (λ u. omega arith)
        (records-at rs t (suc p) r (c ⊕ below_cells cs) i.1 (cells-at cs t p 0 s c i.0 a))

    pub cells-at : (cs : Cells) (t p j : ℕ) (s : Store) (c : Counts) → cells-in cs ≡ true → At s c → At (walk_cells firsts cs t p j s) (c ⊕ below_cells cs)
    cells-at end t p j s c e a = other-counts s c (λ u. c u + 0) (λ u. sym (add-zero (c u))) a
    cells-at (word w cs) t p j s c e a = cells-at cs t p (suc j) (put firsts t p j w s) c e (put-at firsts t p j w s c a)
    cells-at (mention v rs cs) t p j s c e a =
        let i = and_parts (ltb v 8) (records-in rs && cells-in cs) e in
        let k = and_parts (records-in rs) (cells-in cs) i.1 in
        let s1 : Store = put firsts t p j (place_of (count_of s v) rs) s in
        let s2 : Store = append v (record_count rs) s1 in
        let s3 : Store = walk_records firsts rs v (count_of s v) s2 in
        let d : Counts = appended c v rs in
        let a2 : At s2 d = append-at v (record_count rs) s1 c (ltb-true v 8 i.0) (put-at firsts t p j (place_of (count_of s v) rs) s c a) in
        other-counts (walk_cells firsts cs t p (suc j) s3) ((d ⊕ below rs) ⊕ below_cells cs) (λ u. c u + ((only v (record_count rs) u + below rs u) + below_cells cs u)) (λ u. omega arith)
        (cells-at cs t p (suc j) s3 (d ⊕ below rs) k.1 (records-at rs v (count_of s v) s2 d k.0 a2))

  -- a list that is appended and walked
  pub list-at : (rs : Records) (t : ℕ) (s : Store) (c : Counts) → records-in rs ≡ true → t < 8 → At s c → At (walk_list firsts t rs s) (appended c t rs ⊕ below rs)
  unfolding walk_list
  list-at rs t s c e h a = records-at rs t (count_of s t) (append t (record_count rs) s) (appended c t rs) e (append-at t (record_count rs) s c h a)
