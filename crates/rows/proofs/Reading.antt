-- Rows and tables read at places of the words. A row is read as it is made: a part behind a part. Assumes nothing.
use mathlib.Core.Path.{◌≡◌, refl, sym, ap, ◌∙◌}
use mathlib.Core.Bool.{Bool, true, false, ◌||◌, not}
use mathlib.Core.List.{List, [], ◌∷◌, ◌++◌}
use Rattle.std.specs.Prelude.{None, Some, cond}
use Prim.Native.Nat.{ℕ, zero, suc, ◌+◌, ◌*◌, ◌^◌, ◌≤◌}
use native.Mathlib.Nat.{add-zero, zero-mul, suc-mul, mod-eq_of_lt}
use native.Mathlib.Omega.{arith}
use lib.Dec.{eqb, ltb}
use lib.ListN.{length, get_or, drop}
use lib.Seq.{drop-drop, get_or-drop}
use borrow.Author.Tests.{ltb-true}
use Rattle.words.specs.Pairs.{joined, low_of}
use Rattle.model.specs.Codec.{Row, word, wide, ◌⊗◌, marked, maybe, pad, rows_at}
use Rattle.model.specs.Parts.{any, bit, variable_row, timer_is, timer_row, slot_is, slot_row, jump_is, jump_row, pending_is, pending_row}
use Rattle.model.specs.World.{is_one}
use Rattle.model.specs.Store.{variable_of, text_short}
use Rattle.model.specs.declared.Jump.{Jump}
use Rattle.model.specs.Steps.{jump_at}
use Rattle.model.specs.declared.Point.{Point}
use Rattle.model.specs.declared.VarValue.{VarValue}
use Rattle.model.specs.declared.VarValue.TheVariants.{Int, Text}
use Rattle.model.proofs.RowLaws.{rows-count}
use Rattle.rows.specs.Places.{row_at, table_at}
use Rattle.rows.specs.Rows.{bool_row, short_variable_of, variable_code_row, leap_row, point_row}
use Rattle.std.specs.Prelude.{Option}

-- ROWS ------------------------------------------------------------------------------------------------------------------------------
module _ (w : List ℕ) where
  pub word-is : (k x : ℕ) → x ≡ get_or w k 0 → x ≡ row_at any w k
  unfolding row_at
  word-is k x e = e ∙ sym (get_or-drop k w 0 0 ∙ ap (λ (n : ℕ). get_or w n 0) (add-zero k))

  pub wide_is : (k a b : ℕ) (x : ℕ) → x ≡ joined a b → a ≡ row_at any w k → b ≡ row_at any w (k + 1) → x ≡ row_at wide w k
  unfolding row_at
  wide_is k a b x e p q =
      let f : get_or (drop (k + 1) w) 0 0 ≡ get_or (drop k w) 1 0 = ap (λ (l : List ℕ). get_or l 0 0) (sym (drop-drop 1 k w)) ∙ get_or-drop 1 (drop k w) 0 0 in
      e ∙ rw (p, q, f)

  -- a row behind a row
  pub pair_is : {A B : Type 0} (r : Row A) (q : Row B) (k j : ℕ) (x : A) (y : B) → j ≡ k + length r.cells → x ≡ row_at r w k → y ≡ row_at q w j → (x, y) ≡ row_at (r ⊗ q) w k
  unfolding row_at
  pair_is r q k j x y e p f =
      let g : y ≡ q.get (drop (length r.cells) (drop k w)) = f ∙ ap q.get (ap (λ (n : ℕ). drop n w) e ∙ sym (drop-drop (length r.cells) k w)) in
      λ i. (p i, g i)

  -- a mark, and a row behind it
  pub marked-is : {A : Type 0} (r : Row A) (k j m : ℕ) (x : A) → j ≡ k + 1 → m ≡ row_at any w k → x ≡ row_at r w j → marked m x ≡ row_at (maybe r) w k
  unfolding row_at
  marked-is r k j m x e p f =
      let g : x ≡ r.get (drop 1 (drop k w)) = f ∙ ap r.get (ap (λ (n : ℕ). drop n w) e ∙ sym (drop-drop 1 k w)) in
      λ i. marked (p i) (g i)

-- a mark, and what it leads to
absent : {A : Type 0} (m : ℕ) (x : A) → m ≡ 0 → None ≡ marked m x
absent m x z = rw z

given : {A : Type 0} (m : ℕ) (x : A) → (m ≡ 0 → ⊥) → Some x ≡ marked m x
given zero x z = absurd (z refl)
given (suc m) x z = refl

module _ {A : Type 0} (r : Row A) (w : List ℕ) (k m : ℕ) (p : m ≡ row_at any w k) where
  pub none-is : m ≡ 0 → None ≡ row_at (maybe r) w k
  unfolding row_at
  none-is z = absent m (r.get (drop (k + 1) w)) z ∙ marked-is w r k (k + 1) m (r.get (drop (k + 1) w)) refl p refl

  pub some-is : (x : A) → x ≡ row_at r w (k + 1) → (m ≡ 0 → ⊥) → Some x ≡ row_at (maybe r) w k
  some-is x q z = given m x z ∙ marked-is w r k (k + 1) m x refl p q

pub bool_is : (w : List ℕ) (k m : ℕ) → m ≡ row_at any w k → eqb m 1 ≡ row_at bool_row w k
unfolding row_at
bool_is w k m p = ap is_one p

-- THE ROWS OF A STORE -----------------------------------------------------------------------------------------------------------------
pub timer-is : (w : List ℕ) (k n d : ℕ) → n ≡ row_at any w k → d ≡ row_at wide w (k + 1) → record { name = n; due = d } ≡ row_at timer_row w k
unfolding row_at
timer-is w k n d p q = ap timer_is.to (pair_is w any wide k (k + 1) n d refl p q)

pub slot_is_lem : (w : List ℕ) (k a b c d : ℕ) → a ≡ row_at any w k → b ≡ row_at any w (k + 1) → c ≡ row_at any w (k + 2) → d ≡ row_at wide w (k + 3)
    → record { rule = a; place = b; period = c; due = d } ≡ row_at slot_row w k
unfolding row_at
slot_is_lem w k a b c d p q r s =
    ap slot_is.to
    (pair_is w any (any ⊗ (any ⊗ wide)) k (k + 1) a (b, (c, d)) refl p
    (pair_is w any (any ⊗ wide) (k + 1) (k + 2) b (c, d) (omega arith) q (pair_is w any wide (k + 2) (k + 3) c d (omega arith) r s)))

pub leap-is : (w : List ℕ) (k a b : ℕ) → a ≡ row_at any w k → b ≡ row_at any w (k + 1) → jump_at a b ≡ row_at leap_row w k
unfolding row_at
leap-is w k a b p q = ap jump_is.to (pair_is w any any k (k + 1) a b refl p q)

pub point-is : (w : List ℕ) (k l p : ℕ) (j : Option Jump) → l ≡ row_at any w k → p ≡ row_at any w (k + 1) → j ≡ row_at jump_row w (k + 2)
    → record { list = l; place = p; jump = j } ≡ row_at point_row w k
unfolding row_at
point-is w k l p j e f g =
    let to : ℕ × (ℕ × Option Jump) → Point = λ x. record { list = x.0; place = x.1.0; jump = x.1.1 } in
    ap to (pair_is w any (any ⊗ jump_row) k (k + 1) l (p, j) refl e (pair_is w any jump_row (k + 1) (k + 2) p j (omega arith) f g))

pub pending-is : (w : List ℕ) (k s d r : ℕ) (p : Point) (b t n : ℕ)
    → s ≡ row_at wide w k → d ≡ row_at wide w (k + 2) → r ≡ row_at any w (k + 4) → p ≡ row_at point_row w (k + 5)
    → b ≡ row_at any w (k + 10) → t ≡ row_at any w (k + 11) → n ≡ row_at wide w (k + 12)
    → record { rule = r; point = p; due = d; budget = b; trigger = t; seq = s; number = n } ≡ row_at pending_row w k
unfolding row_at
pending-is w k s d r p b t n es ed er ep eb et en =
    let el : p.list ≡ row_at any w (k + 5) = ap (λ (x : Point). x.list) ep in
    let ea : p.place ≡ row_at any w (k + 6) = ap (λ (x : Point). x.place) ep ∙ ap (λ (l : List ℕ). get_or l 0 0) (drop-drop 1 (k + 5) w ∙ at (k + 5 + 1) (k + 6) (omega arith)) in
    let ej : p.jump ≡ row_at jump_row w (k + 7) =
    ap (λ (x : Point). x.jump) ep ∙ ap jump_row.get (ap (drop 1) (drop-drop 1 (k + 5) w) ∙ drop-drop 1 (k + 5 + 1) w ∙ at (k + 5 + 1 + 1) (k + 7) (omega arith)) in
    let c₉ = pair_is w wide (pad 1) (k + 12) (k + 14) n tt (omega arith) en refl in
    let c₈ = pair_is w (word 4) (wide ⊗ pad 1) (k + 11) (k + 12) t (n, tt) (omega arith) et c₉ in
    let c₇ = pair_is w any (word 4 ⊗ (wide ⊗ pad 1)) (k + 10) (k + 11) b (t, (n, tt)) (omega arith) eb c₈ in
    let c₆ = pair_is w jump_row (any ⊗ (word 4 ⊗ (wide ⊗ pad 1))) (k + 7) (k + 10) p.jump (b, (t, (n, tt))) (omega arith) ej c₇ in
    let c₅ = pair_is w any (jump_row ⊗ (any ⊗ (word 4 ⊗ (wide ⊗ pad 1)))) (k + 6) (k + 7) p.place (p.jump, (b, (t, (n, tt)))) (omega arith) ea c₆ in
    let c₄ = pair_is w any (any ⊗ (jump_row ⊗ (any ⊗ (word 4 ⊗ (wide ⊗ pad 1))))) (k + 5) (k + 6) p.list (p.place, (p.jump, (b, (t, (n, tt))))) (omega arith) el c₅ in
    let c₃ = pair_is w any (any ⊗ (any ⊗ (jump_row ⊗ (any ⊗ (word 4 ⊗ (wide ⊗ pad 1)))))) (k + 4) (k + 5) r (p.list, (p.place, (p.jump, (b, (t, (n, tt)))))) (omega arith) er c₄ in
    let c₂ = pair_is w wide (any ⊗ (any ⊗ (any ⊗ (jump_row ⊗ (any ⊗ (word 4 ⊗ (wide ⊗ pad 1))))))) (k + 2) (k + 4) d (r, (p.list, (p.place, (p.jump, (b, (t, (n, tt))))))) (omega arith) ed c₃ in
    ap pending_is.to (pair_is w wide (wide ⊗ (any ⊗ (any ⊗ (any ⊗ (jump_row ⊗ (any ⊗ (word 4 ⊗ (wide ⊗ pad 1)))))))) k (k + 2) s (d, (r, (p.list, (p.place, (p.jump, (b, (t, (n, tt)))))))) refl es c₂)
  where
    at : (i j : ℕ) → i ≡ j → drop i w ≡ drop j w
    at i j e = ap (λ (m : ℕ). drop m w) e

-- a variable: a text is its number alone
module _ (w : List ℕ) (k n : ℕ) (t : Bool) (v : ℕ) (p : n ≡ row_at any w k) (q : t ≡ row_at bool_row w (k + 1)) (r : v ≡ row_at wide w (k + 2)) where
  row_is : (n, (row_at any w (k + 1), v)) ≡ row_at variable_row w k
  row_is = pair_is w any (bit ⊗ wide) k (k + 1) n (row_at any w (k + 1), v) refl p (pair_is w bit wide (k + 1) (k + 2) (row_at any w (k + 1)) v (omega arith) (unfold row_at in refl) r)

  pub variable-is : (x : VarValue) → x ≡ cond t (Text (low_of v)) (Int v) → record { name = n; value = x } ≡ row_at variable_code_row w k
  unfolding row_at
  variable-is x e =
      ap (λ (y : VarValue). record { name = n; value = y }) (e ∙ ap (λ (b : Bool). cond b (Text (low_of v)) (Int v)) q) ∙ ap short_variable_of row_is

-- where texts are numbers of one word, it is what the words say
pub short-is : (r : ℕ × (ℕ × ℕ)) → text_short r ≡ true → short_variable_of r ≡ variable_of r
unfolding low_of
short-is r h = ap (λ (v : VarValue). record { name = r.0; value = v }) (by (is_one r.1.0) h)
  where
    by : (b : Bool) → not b || ltb r.1.1 (2 ^ 32) ≡ true → ◌≡◌ {A = VarValue} (cond b (Text (low_of r.1.1)) (Int r.1.1)) (cond b (Text r.1.1) (Int r.1.1))
    by false e = refl
    by true e = ap Text (mod-eq_of_lt (ltb-true r.1.1 (2 ^ 32) e))

-- TABLES ------------------------------------------------------------------------------------------------------------------------------
-- a row is no longer than its table
pub one_row : (i m width : ℕ) → i ≡ suc m → width ≤ i * width
one_row i m width e = let q = suc-mul m width in rw e (omega (arith, q))

module _ {A : Type 0} (r : Row A) (w : List ℕ) where
  abbrev n : ℕ
  n = length r.cells

  pub table_none : (k : ℕ) → [] ≡ table_at r 0 w k
  unfolding table_at rows_at
  table_none k = refl

  rows_more : (i : ℕ) (v : List ℕ) → rows_at r (suc i) v ≡ rows_at r i v ++ (r.get (drop (i * n) v) ∷ [])
  unfolding rows_at
  rows_more zero v = rw zero-mul
  rows_more (suc i) v =
      let m = suc-mul i n in
      let e : n + i * n ≡ suc i * n = omega arith in
      ap (λ (l : List A). r.get v ∷ l) (rows_more i (drop n v) ∙ ap (λ (l : List ℕ). rows_at r i (drop n v) ++ (r.get l ∷ [])) (drop-drop (i * n) n v ∙ ap (λ (x : ℕ). drop x v) e))

  pub table_more : (i k : ℕ) → table_at r (suc i) w k ≡ table_at r i w k ++ (row_at r w (k + i * n) ∷ [])
  unfolding table_at row_at
  table_more i k = rows_more i (drop k w) ∙ ap (λ (l : List ℕ). rows_at r i (drop k w) ++ (r.get l ∷ [])) (drop-drop (i * n) k w)

  pub table_long : (i k : ℕ) → length (table_at r i w k) ≡ i
  unfolding table_at
  table_long i k = rows-count r i (drop k w)

  -- the first row, and those behind it
  pub table_first : (i k j m : ℕ) → i ≡ suc m → j ≡ k + n → table_at r i w k ≡ row_at r w k ∷ table_at r m w j
  unfolding table_at rows_at row_at
  table_first i k j m e f = rw (e, f) (ap (λ (v : List ℕ). r.get (drop k w) ∷ rows_at r m v) (drop-drop n k w))
