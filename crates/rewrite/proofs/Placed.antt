-- (a), first part: the written words pass 10, 11 and 12, and there are as many as the tree's size says.
use mathlib.Core.Path.{◌≡◌, refl, sym, ap, ap₂, ◌∙◌}
use mathlib.Core.Bool.{Bool, true, ◌&&◌}
use mathlib.Core.List.{List}
use Prim.Native.Nat.{ℕ, zero, suc, ◌+◌, ◌*◌, ◌%◌, ◌<◌, ◌≤◌}
use native.Mathlib.Nat.{zero-add, mul-mod_right}
use native.Mathlib.Omega.{arith}
use lib.Dec.{leb}
use lib.ListN.{length, get_or}
use borrow.Author.Tests.{le-leb, eq-eqb}
use Rattle.model.specs.Lists.{all, total, every}
use Rattle.model.specs.Rows.{rules, blocks}
use Rattle.model.specs.Image.{width_of, trailer, first_of, size_of, word_at, image_sized, limit_fits, limits_fit, place_fits, places_fit, least_limits, most_limits}
use Rattle.std.proofs.lemmas.Bool.{and_from}
use Rattle.model.specs.Tree.{Cells, below_cells, lists_of, tree_of, tree_size, table_words, words_of}
use Rattle.rewrite.proofs.Inside.{wide}
use Rattle.rewrite.specs.Walk.{table_total}
use Rattle.rewrite.proofs.Sizes.{lists-sums}
use Rattle.rewrite.proofs.Written as written
use Rattle.rewrite.proofs.Theorems as theorems

pub begins : (rows : ℕ → List (List ℕ)) → ((t : ℕ) → all (wide t) (rows t) ≡ true) → (n : ℕ) → length (table_words rows n) ≡ total n (λ u. width_of u * length (rows u))
unfolding table_words total
begins rows w zero = refl
begins rows w (suc n) = written.next-beginning rows n ∙ ap₂ (λ a b. a + b) (begins rows w n) (written.flat-length n (rows n) (w n))

pub total-same : (f g : ℕ → ℕ) (n : ℕ) → ((u : ℕ) → f u ≡ g u) → total n f ≡ total n g
unfolding total
total-same f g zero e = refl
total-same f g (suc n) e = ap₂ (λ a b. a + b) (total-same f g n e) (e n)

every-true : (f : ℕ → Bool) (n : ℕ) → ((u : ℕ) → u < n → f u ≡ true) → every n f ≡ true
unfolding every
every-true f zero h = refl
every-true f (suc n) h = and_from _ _ (every-true f n (λ u l. h u (omega arith))) (h n (omega arith))

pub every-same : (f g : ℕ → Bool) (n : ℕ) → ((u : ℕ) → u < n → f u ≡ g u) → every n f ≡ every n g
unfolding every
every-same f g zero h = refl
every-same f g (suc n) h = ap₂ ◌&&◌ (every-same f g n (λ u l. h u (omega arith))) (h n (omega arith))

module _ (img : List ℕ) where
  abbrev cells : Cells
  cells = lists_of (word_at img) (size_of img rules) (size_of img blocks)

  abbrev rows : ℕ → List (List ℕ)
  rows = theorems.rows img

  abbrev widths : (t : ℕ) → all (wide t) (rows t) ≡ true
  widths = theorems.tables-wide (word_at img) (size_of img rules) (size_of img blocks)

  tables-size : length (table_words rows 8) ≡ table_total (below_cells cells)
  tables-size =
      begins rows widths 8
      ∙ total-same (λ u. width_of u * length (rows u)) (λ u. width_of u * below_cells cells u) 8
      (λ u. ap (λ x. width_of u * x) (theorems.table-count (word_at img) (size_of img rules) (size_of img blocks) u))

  -- as many words as the size says
  pub out-length : length (theorems.out img) ≡ tree_size (tree_of img)
  unfolding tree_size tree_of
  out-length =
      written.image-length rows (theorems.limits img) refl widths
      ∙ ap (λ x. x + 13) (tables-size ∙ sym (lists-sums (word_at img) (size_of img rules) (size_of img blocks)))

  pub words-counted : length (words_of (tree_of img)) ≡ tree_size (tree_of img)
  words-counted = ap length (theorems.words-are img) ∙ out-length

  -- 10
  pub out-sized : tree_size (tree_of img) ≤ 4096 → image_sized (theorems.out img) ≡ true
  unfolding image_sized
  out-sized h =
      and_from _ _ (le-leb 13 (length (theorems.out img)) (omega (arith, written.image-length rows (theorems.limits img) refl widths)))
      (le-leb (length (theorems.out img)) 4096 (rw out-length h))

  -- 11
  limit-same : (j : ℕ) → j < 5 → trailer (theorems.out img) j ≡ trailer img j
  limit-same j h =
      written.limit-at rows (theorems.limits img) refl widths j h ∙ written.mapped-at (trailer img) 5 0 j h ∙ ap (trailer img) (zero-add j)

  pub out-limits : limits_fit (theorems.out img) ≡ limits_fit img
  unfolding limits_fit
  out-limits =
      every-same (limit_fits (theorems.out img)) (limit_fits img) 5
      (λ j h. ap (λ x. leb (get_or least_limits j 0) x && leb x (get_or most_limits j 0)) (limit-same j h))

  -- 12
  pub out-places : places_fit (theorems.out img) ≡ true
  unfolding places_fit
  out-places =
      and_from _ _ (eq-eqb (first_of (theorems.out img) 0) 0 (written.first-at rows (theorems.limits img) refl widths 0 (omega arith) ∙ unfold table_words in refl))
      (every-true (place_fits (theorems.out img)) 8
      (λ t h. and_from _ _ (le-leb _ _ (written.table-follows rows (theorems.limits img) refl widths t h))
      (eq-eqb _ 0 (ap (λ x. x % width_of t) (written.table-length rows (theorems.limits img) refl widths t h) ∙ mul-mod_right (width_of t) (length (rows t))))))
