-- The size of a tree is the number of its written words. Assumes nothing.
use mathlib.Core.Path.{◌≡◌, refl, sym, ap, ◌∙◌}
use mathlib.Core.Logic.{◌⊎◌, inl, inr}
use mathlib.Core.Bool.{Bool, true, false, cond}
use mathlib.Core.List.{List, [], ◌∷◌}
use Prim.Native.Nat.{ℕ, zero, suc, ◌+◌, ◌*◌, ◌<◌, ◌≤◌}
use native.Mathlib.Nat.{zero-add, mul-zero, mul-add, eq-or-lt_of_le}
use native.Mathlib.Omega.{arith}
use lib.Dec.{eqb, leb, ltb}
use borrow.Author.Tests.{eq-eqb, ne_eqb, ltb-true}
use Rattle.model.specs.declared.Field.{Field}
use Rattle.model.specs.declared.Field.TheVariants.{Free, UpTo, Mark, Tag, Index, Span, Nested}
use Rattle.model.specs.Lists.{all, total}
use Rattle.model.specs.Rows.{actions, rules, blocks}
use Rattle.model.specs.Image.{width_of}
use Rattle.std.proofs.lemmas.Bool.{and_parts}
use Rattle.model.specs.Tree.{Records, Cells, end, word, mention, Reader, cells_of, fields_of, record_at, list_of, records_of, lists_of, record_count, only, below, below_cells, weight, weight_cells}
use Rattle.rewrite.proofs.Fields.{leads_inside, inner, fields-inside}
use Rattle.rewrite.specs.Walk.{table_total}

-- the words of records
abbrev pub words_for : ℕ → ℕ → ℕ
words_for t n = width_of t * n

-- TOTALS --------------------------------------------------------------------------------------------------------------------------------
pub total-sum : (f g h : ℕ → ℕ) (n : ℕ) → ((u : ℕ) → h u ≡ f u + g u) → total n h ≡ total n f + total n g
unfolding total
total-sum f g h zero e = refl
total-sum f g h (suc n) e = omega (arith, total-sum f g h n e, e n)

total-zero : (f : ℕ → ℕ) (n : ℕ) → ((u : ℕ) → u < n → f u ≡ 0) → total n f ≡ 0
unfolding total
total-zero f zero e = refl
total-zero f (suc n) e = omega (arith, total-zero f n (λ u h. e u (omega arith)), e n (omega arith))

total-case : (f : ℕ → ℕ) (n t : ℕ) → (t ≡ n) ⊎ (t < n) → ((u : ℕ) → (t ≡ u → ⊥) → f u ≡ 0) → (t < n → total n f ≡ f t) → total n f + f n ≡ f t
total-case f n t (inl e) z h = rw e (ap (λ x. x + f n) (total-zero f n (λ u l. z u (λ s. omega (arith, s)))) ∙ zero-add (f n))
total-case f n t (inr l) z h = omega (arith, h l, z n (λ s. omega (arith, s)))

-- a total of one summand
total-one : (f : ℕ → ℕ) (n t : ℕ) → t < n → ((u : ℕ) → (t ≡ u → ⊥) → f u ≡ 0) → total n f ≡ f t
unfolding total
total-one f zero t l z = absurd (omega arith)
total-one f (suc n) t l z = let m : t ≤ n = omega arith in total-case f n t (eq-or-lt_of_le m) z (λ h. total-one f n t h z)

-- the words of n records of table t, table by table
pub one-table : (t n : ℕ) → t < 8 → total 8 (λ u. width_of u * only t n u) ≡ words_for t n
one-table t n h =
    total-one (λ u. width_of u * only t n u) 8 t h
    (λ u ne. ap (λ b. width_of u * cond b n 0) (ne_eqb t u ne) ∙ mul-zero (width_of u))
    ∙ ap (λ b. width_of t * cond b n 0) (eq-eqb t t refl)

-- A TREE THAT WAS READ --------------------------------------------------------------------------------------------------------------------
pub totals-add : (f g h : ℕ → ℕ) → ((u : ℕ) → h u ≡ f u + g u) → table_total h ≡ table_total f + table_total g
totals-add f g h e = total-sum (λ u. width_of u * f u) (λ u. width_of u * g u) (λ u. width_of u * h u) 8 (λ u. ap (λ x. width_of u * x) (e u) ∙ mul-add (width_of u) (f u) (g u))

no-total : table_total (λ u. 0) ≡ 0
no-total = total-zero (λ u. width_of u * 0) 8 (λ u l. mul-zero (width_of u))

abbrev Sums : Cells → Type 0
Sums cs = weight_cells 0 0 words_for cs ≡ table_total (below_cells cs)

end-sums : Sums end
unfolding weight below
end-sums = sym no-total

word-sums : (x : ℕ) (cs : Cells) → Sums cs → Sums (word x cs)
unfolding weight below
word-sums x cs e = zero-add _ ∙ e

list-sums : (t : ℕ) (rs : Records) (cs : Cells) → t < 8 → weight 0 0 words_for rs ≡ table_total (below rs) → Sums cs → Sums (mention t rs cs)
unfolding weight below
list-sums t rs cs h e f =
    let own : ℕ → ℕ = only t (record_count rs) in
    let a = totals-add own (below rs) (λ u. own u + below rs u) (λ u. refl) in
    let b = totals-add (λ u. own u + below rs u) (below_cells cs) (λ u. (own u + below rs u) + below_cells cs u) (λ u. refl) in
    omega (arith, a, b, one-table t (record_count rs) h, e, f)

module _ (deeper : Reader) (h : (t i n : ℕ) → weight 0 0 words_for (deeper t i n) ≡ table_total (below (deeper t i n))) where
  mention-sums : (t i n : ℕ) (cs : Cells) → inner t ≡ true → Sums cs → Sums (mention t (deeper t i n) cs)
  mention-sums t i n cs e s = list-sums t (deeper t i n) cs (ltb-true t 8 (and_parts (leb 2 t) (ltb t 8) e).1) (h t i n) s

  tagged-sums : (b : Bool) (t x : ℕ) (cs : Cells) → inner t ≡ true → Sums cs → Sums (cond b (mention t (deeper t x 1) cs) (word x cs))
  tagged-sums true t x cs e s = mention-sums t x 1 cs e s
  tagged-sums false t x cs e s = word-sums x cs s

  cells-sums : (fs : List Field) (v : ℕ → ℕ) → all leads_inside fs ≡ true → Sums (cells_of deeper fs v)
  unfolding cells_of
  cells-sums [] v a = end-sums
  cells-sums (Free ∷ fs) v a = word-sums (v 0) _ (cells-sums fs (λ j. v (suc j)) a)
  cells-sums (UpTo most ∷ fs) v a = word-sums (v 0) _ (cells-sums fs (λ j. v (suc j)) a)
  cells-sums (Mark most value ∷ fs) v a = word-sums (v 0) _ (cells-sums fs (λ j. v (suc j)) a)
  cells-sums (Tag t ∷ []) v a = word-sums (v 0) end end-sums
  cells-sums (Tag t ∷ (f ∷ fs)) v a =
      let i = and_parts (inner t) (all leads_inside (f ∷ fs)) a in
      word-sums (v 0) _ (tagged-sums (eqb (v 0) 0) t (v 1) _ i.0 (cells-sums fs (λ j. v (suc (suc j))) (and_parts (leads_inside f) (all leads_inside fs) i.1).1))
  cells-sums (Index t ∷ fs) v a =
      let i = and_parts (inner t) (all leads_inside fs) a in mention-sums t (v 0) 1 _ i.0 (cells-sums fs (λ j. v (suc j)) i.1)
  cells-sums (Span t ∷ []) v a = word-sums (v 0) end end-sums
  cells-sums (Span t ∷ (f ∷ fs)) v a =
      let i = and_parts (inner t) (all leads_inside (f ∷ fs)) a in
      mention-sums t (v 0) (v 1) _ i.0 (word-sums (v 1) _ (cells-sums fs (λ j. v (suc (suc j))) (and_parts (leads_inside f) (all leads_inside fs) i.1).1))
  cells-sums (Nested ∷ []) v a = word-sums (v 0) end end-sums
  cells-sums (Nested ∷ (f ∷ fs)) v a =
      mention-sums actions (v 0) (v 1) _ refl (word-sums (v 1) _ (cells-sums fs (λ j. v (suc (suc j))) (and_parts (leads_inside f) (all leads_inside fs) a).1))

  read-sums : (at : ℕ → ℕ → ℕ → ℕ) (t n i : ℕ) → weight 0 0 words_for (list_of at deeper t i n) ≡ table_total (below (list_of at deeper t i n))
  unfolding list_of weight below record_at
  read-sums at t zero i = sym no-total
  read-sums at t (suc n) i =
      let fs = fields_of t (at t i 0) (at t i 1) in
      let cs = cells_of deeper fs (at t i) in
      let rs = list_of at deeper t (suc i) n in
      let a = totals-add (below_cells cs) (below rs) (λ u. below_cells cs u + below rs u) (λ u. refl) in
      omega (arith, a, cells-sums fs (at t i) (fields-inside t (at t i 0) (at t i 1)), read-sums at t n (suc i))

pub records-sums : (at : ℕ → ℕ → ℕ → ℕ) (depth t i n : ℕ) → weight 0 0 words_for (records_of at depth t i n) ≡ table_total (below (records_of at depth t i n))
unfolding records_of weight below
records-sums at zero t i n = sym no-total
records-sums at (suc depth) t i n = read-sums (records_of at depth) (records-sums at depth) at t n i

-- the rules and the blocks
pub lists-sums : (at : ℕ → ℕ → ℕ → ℕ) (n k : ℕ) → Sums (lists_of at n k)
unfolding lists_of
lists-sums at n k =
    list-sums rules (records_of at 600 rules 0 n) _ (omega arith) (records-sums at 600 rules 0 n)
    (list-sums blocks (records_of at 600 blocks 0 k) end (omega arith) (records-sums at 600 blocks 0 k) end-sums)
