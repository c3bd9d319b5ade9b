-- How many rows a tree writes. Assumes nothing.
use mathlib.Core.Path.{◌≡◌, refl, ap, ◌∙◌}
use mathlib.Core.Bool.{Bool, true, false, cond}
use mathlib.Core.List.{List, [], ◌++◌}
use Prim.Native.Nat.{ℕ, suc, ◌+◌}
use lib.Dec.{eqb}
use lib.ListN.{length, length-append}
use Rattle.model.specs.Tree.{Records, none, record-of, Cells, end, word, mention, record_count, only, below, below_cells, Counts, ◌⊕◌, appended, rows_of, rows_below, rows_below_cells}

pub rows-count : (c : Counts) (rs : Records) → length (rows_of c rs) ≡ record_count rs
unfolding rows_of
rows-count c none = refl
rows-count c (record-of cs rs) = ap suc (rows-count (c ⊕ below_cells cs) rs)

-- the rows of table u that a list of table t adds
abbrev pub rows_of_list : Counts → ℕ → Records → ℕ → List (List ℕ)
rows_of_list c t rs u = cond (eqb t u) (rows_of (appended c t rs) rs) [] ++ rows_below (appended c t rs) rs u

pub own-count : (b : Bool) (c : Counts) (rs : Records) → length (cond b (rows_of c rs) []) ≡ cond b (record_count rs) 0
own-count true c rs = rows-count c rs
own-count false c rs = refl

mutual
  unfolding rows_below below

  pub below-count : (rs : Records) (c : Counts) (u : ℕ) → length (rows_below c rs u) ≡ below rs u
  below-count none c u = refl
  below-count (record-of cs rs) c u =
      length-append (rows_below_cells c cs u) (rows_below (c ⊕ below_cells cs) rs u)
      ∙ (rw (cells-count cs c u, below-count rs (c ⊕ below_cells cs) u) refl)

  pub cells-count : (cs : Cells) (c : Counts) (u : ℕ) → length (rows_below_cells c cs u) ≡ below_cells cs u
  cells-count end c u = refl
  cells-count (word w cs) c u = cells-count cs c u
  cells-count (mention t rs cs) c u =
      length-append (rows_of_list c t rs u) (rows_below_cells ((appended c t rs) ⊕ below rs) cs u)
      ∙ (rw (
        length-append (cond (eqb t u) (rows_of (appended c t rs) rs) []) (rows_below (appended c t rs) rs u),
        own-count (eqb t u) (appended c t rs) rs,
        below-count rs (appended c t rs) u,
        cells-count cs ((appended c t rs) ⊕ below rs) u,
      ) refl)

pub list-count : (rs : Records) (c : Counts) (t u : ℕ) → length (rows_of_list c t rs u) ≡ only t (record_count rs) u + below rs u
list-count rs c t u =
    length-append (cond (eqb t u) (rows_of (appended c t rs) rs) []) (rows_below (appended c t rs) rs u)
    ∙ (rw (own-count (eqb t u) (appended c t rs) rs, below-count rs (appended c t rs) u) refl)
