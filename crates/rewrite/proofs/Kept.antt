-- (a), second part: what follows from the tree is kept. The names of the rules, and the Every slots: 15 and 17.
use mathlib.Core.Path.{◌≡◌, refl, sym, ap, ap₂, ◌∙◌}
use mathlib.Core.Bool.{cond, not, ◌&&◌}
use mathlib.Core.List.{List, [], ◌∷◌, map}
use Prim.Native.Nat.{ℕ, zero, suc, ◌+◌, ◌<◌}
use native.Mathlib.Nat.{zero-add, add-zero}
use native.Mathlib.Omega.{arith}
use lib.Dec.{eqb, leb}
use lib.ListN.{get_or}
use Rattle.model.specs.Lists.{up_from, every, total}
use Rattle.model.specs.Field.{cell_of, agree, fresh_key}
use Rattle.model.specs.Rows.{rules, blocks, triggers, field_of}
use Rattle.model.specs.Image.{width_of, first_of, size_of, word_at, names_differ, slots_of, few_enough}
use Rattle.model.specs.Tree.{Records, none, record-of, Cells, end, word, mention, Reader, cells_of, fields_of, record_at, list_of, records_of, lists_of}
use Rattle.rewrite.proofs.Fields.{first-cell}
use Rattle.rewrite.proofs.Written.{mapped-at}
use Rattle.rewrite.proofs.Placed.{every-same, total-same}
use Rattle.rewrite.proofs.Theorems as theorems

abbrev first_word : Cells → ℕ
first_word end = 0
first_word (word x cs) = x
first_word (mention t rs cs) = 0

abbrev first_words : Records → List ℕ
first_words none = []
first_words (record-of cs rs) = first_word cs ∷ first_words rs

abbrev first_list : Cells → Records
first_list end = none
first_list (word x cs) = none
first_list (mention t rs cs) = rs

-- the kinds, or the names, of a list
names-read : (at : ℕ → ℕ → ℕ → ℕ) (deeper : Reader) (t n i : ℕ) → first_words (list_of at deeper t i n) ≡ map (λ k. at t k 0) (up_from i n)
unfolding list_of record_at
names-read at deeper t zero i = refl
names-read at deeper t (suc n) i =
    ap₂ (λ x (xs : List ℕ). x ∷ xs) (ap first_word (first-cell deeper t (at t i))) (names-read at deeper t n (suc i))

rules-read : (at : ℕ → ℕ → ℕ → ℕ) (n k : ℕ) → first_words (first_list (lists_of at n k)) ≡ map (λ i. at rules i 0) (up_from 0 n)
unfolding lists_of records_of
rules-read at n k = names-read at (records_of at 599) rules n 0

module _ (img : List ℕ) where
  abbrev out : List ℕ
  out = theorems.out img

  abbrev n : ℕ
  n = size_of img rules

  pub rule-count : size_of out rules ≡ n
  rule-count = theorems.size-kept img rules (omega arith) ∙ theorems.rules-counted (word_at img) n (size_of img blocks)

  pub block-count : size_of out blocks ≡ size_of img blocks
  block-count = theorems.size-kept img blocks (omega arith) ∙ theorems.blocks-counted (word_at img) n (size_of img blocks)

  all-names : map (λ i. word_at out rules i 0) (up_from 0 n) ≡ map (λ i. word_at img rules i 0) (up_from 0 n)
  all-names =
      ap (λ k. map (λ i. word_at out rules i 0) (up_from 0 k)) (sym rule-count)
      ∙ sym (rules-read (word_at out) (size_of out rules) (size_of out blocks))
      ∙ ap (λ cs. first_words (first_list cs)) (theorems.lists-kept img) ∙ rules-read (word_at img) n (size_of img blocks)

  pub name-kept : (i : ℕ) → i < n → word_at out rules i 0 ≡ word_at img rules i 0
  name-kept i h =
      ap (λ x. word_at out rules x 0) (sym (zero-add i)) ∙ sym (mapped-at (λ x. word_at out rules x 0) n 0 i h)
      ∙ ap (λ (xs : List ℕ). get_or xs i 0) all-names ∙ mapped-at (λ x. word_at img rules x 0) n 0 i h ∙ ap (λ x. word_at img rules x 0) (zero-add i)

  -- 15
  agrees-same : (i b : ℕ) → i < n → b < n → agree out (first_of out rules) 16 i b 0 ≡ agree img (first_of img rules) 16 i b 0
  agrees-same i b h k = ap₂ eqb (cell-same i h) (cell-same b k)
    where
      cell-same : (x : ℕ) → x < n → cell_of out (first_of out rules) 16 x 0 ≡ cell_of img (first_of img rules) 16 x 0
      cell-same x l = theorems.as-cell out x ∙ name-kept x l ∙ sym (theorems.as-cell img x)

  pub out-names : names_differ out ≡ names_differ img
  unfolding names_differ every
  out-names =
      ap (λ k. every k (fresh_key out (first_of out rules) 16 1)) rule-count
      ∙ every-same (fresh_key out (first_of out rules) 16 1) (fresh_key img (first_of img rules) 16 1) n
      (λ i h. every-same _ _ i (λ b l. ap not (agrees-same i b h (omega arith))))

-- THE EVERY SLOTS -------------------------------------------------------------------------------------------------------------------------
total-front : (f : ℕ → ℕ) (n : ℕ) → total (suc n) f ≡ f 0 + total n (λ j. f (suc j))
unfolding total
total-front f zero = zero-add (f 0) ∙ sym (add-zero (f 0))
total-front f (suc n) = omega (arith, total-front f n)

abbrev first_mention : Cells → Records
first_mention end = none
first_mention (word x cs) = first_mention cs
first_mention (mention t rs cs) = rs

abbrev is_one : ℕ → ℕ
is_one x = cond (eqb x 1) 1 0

abbrev every_in : Records → ℕ
every_in none = 0
every_in (record-of cs rs) = is_one (first_word cs) + every_in rs

-- the triggers are what a rule mentions first
abbrev slots_in : Records → ℕ
slots_in none = 0
slots_in (record-of cs rs) = every_in (first_mention cs) + slots_in rs

-- a total from number i on
total-next : (f : ℕ → ℕ) (n i : ℕ) → total (suc n) (λ j. f (i + j)) ≡ f i + total n (λ j. f (suc i + j))
total-next f n i =
    let e : (j : ℕ) → i + suc j ≡ suc i + j = λ j. omega arith in
    total-front (λ j. f (i + j)) n ∙ ap₂ (λ a b. a + b) (ap f (add-zero i)) (total-same (λ j. f (i + suc j)) (λ j. f (suc i + j)) n (λ j. ap f (e j)))

module _ (at : ℕ → ℕ → ℕ → ℕ) where
  every-read : (deeper : Reader) (n i : ℕ) → every_in (list_of at deeper triggers i n) ≡ total n (λ j. is_one (at triggers (i + j) 0))
  unfolding list_of record_at total
  every-read deeper zero i = refl
  every-read deeper (suc n) i =
      ap₂ (λ a b. a + b) (ap (λ cs. is_one (first_word cs)) (first-cell deeper triggers (at triggers i))) (every-read deeper n (suc i))
      ∙ sym (total-next (λ j. is_one (at triggers j 0)) n i)

  slots-of : ℕ → ℕ
  slots-of i = total (at rules i 5) (λ j. is_one (at triggers (at rules i 4 + j) 0))

  rule-triggers : (deeper : Reader) (i : ℕ) → first_mention (record_at at deeper rules i) ≡ deeper triggers (at rules i 4) (at rules i 5)
  unfolding record_at fields_of field_of width_of cells_of
  rule-triggers deeper i = refl

  rule-slots : (i : ℕ) → every_in (first_mention (record_at at (records_of at 599) rules i)) ≡ slots-of i
  unfolding records_of slots-of
  rule-slots i = ap every_in (rule-triggers (records_of at 599) i) ∙ every-read (records_of at 598) (at rules i 5) (at rules i 4)

  slots-read : (n i : ℕ) → slots_in (list_of at (records_of at 599) rules i n) ≡ total n (λ k. slots-of (i + k))
  unfolding list_of total
  slots-read zero i = refl
  slots-read (suc n) i = ap₂ (λ a b. a + b) (rule-slots i) (slots-read n (suc i)) ∙ sym (total-next slots-of n i)

  all-slots : (n k : ℕ) → slots_in (first_list (lists_of at n k)) ≡ total n slots-of
  unfolding lists_of records_of
  all-slots n k = slots-read n 0 ∙ total-same (λ j. slots-of (0 + j)) slots-of n (λ j. ap slots-of (zero-add j))

module _ (img : List ℕ) where
  slots-total : total (size_of img rules) (slots_of img) ≡ slots_in (first_list (lists_of (word_at img) (size_of img rules) (size_of img blocks)))
  unfolding slots-of
  slots-total = sym (all-slots (word_at img) (size_of img rules) (size_of img blocks))

-- 17
pub out-few : (img : List ℕ) → few_enough (theorems.out img) ≡ few_enough img
unfolding few_enough
out-few img =
    let same : total (size_of (theorems.out img) rules) (slots_of (theorems.out img)) ≡ total (size_of img rules) (slots_of img) =
    slots-total (theorems.out img) ∙ ap (λ cs. slots_in (first_list cs)) (theorems.lists-kept img) ∙ sym (slots-total img) in
    ap₂ (λ a b. leb a 64 && b) (rule-count img) (ap₂ (λ a b. leb a 64 && leb b 64) (block-count img) same)
