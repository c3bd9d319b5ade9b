-- The variables, as rows of name, tag and value. Assumes nothing.
use mathlib.Core.Path.{◌≡◌, refl, sym, ap, subst, ◌∙◌}
use mathlib.Core.Bool.{Bool, true, false, cond, not, ◌&&◌}
use mathlib.Core.List.{List, [], ◌∷◌, ◌++◌, map}
use Rattle.std.specs.Prelude.{Option, None, Some}
use Prim.Native.Nat.{ℕ, zero, suc, ◌+◌, ◌*◌, ◌≤◌, ◌<◌}
use native.Mathlib.Omega.{arith}
use lib.Dec.{leb}
use lib.ListN.{length, get_or, take, drop, set, length-map, drop_of_length-le}
use lib.Seq.{drop-cons, take_all, set_split}
use borrow.Author.Tests.{lt-ltb}
use borrow.Rule.Slice.PartMut.{put_mid}
use mir.Val.{Val}
use denote.Laws.{Is}
use denote.Enum.Declared.{row}
use Rattle.std.proofs.lemmas.Bool.{and_from, and_parts}
use Rattle.model.specs.Codec.{most, rows_at}
use Rattle.model.specs.Parts.{variable_row}
use Rattle.model.specs.Lists.{present, find, all}
use Rattle.model.specs.State as model
use Rattle.model.specs.State.{with_rest, with_vars, var_named, value_in, put_var}
use Rattle.model.specs.Store.{variable_of, variable_row_of, text_short}
use Rattle.model.specs.declared.Variable.{Variable}
use Rattle.model.specs.declared.VarValue.{VarValue}
use Rattle.model.specs.declared.VarValue.TheVariants.{Int, Text}
use Rattle.model.proofs.PartsLaws.{variable-laws}
use Rattle.model.specs.contracts.VarValue.{the_type}
use Rattle.rows.specs.Places.{laid, table_at}
use Rattle.rows.specs.Rows.{variable_code_row, short_variable_of}
use Rattle.rows.proofs.Reading.{short-is}
use Rattle.state.specs.Meaning.{Holds, Counted, Sound, MeansSoundly, meaning, base, joined, variables_part, place_of, words_in, part}
use Rattle.state.specs.Named.{variable_has_name, lacks_room, no_row, assigned, has_name, put_row, assign_row}
use Rattle.state.specs.Tables.{First, Finds}
use Rattle.state.proofs.Found.{found, not_found, passed_over}
use Rattle.state.proofs.Typed.{holds-get, holds-set}
use Rattle.state.proofs.Held.{table-read}
use Rattle.state.proofs.Frame.{part-is, table-lent, table-back, variables-changed}

abbrev R : Type 0
R = ℕ × (ℕ × ℕ)

-- ROWS ASSIGNED -------------------------------------------------------------------------------------------------------------------------------
module _ (name : ℕ) (x : R) where
  put-past : (i : ℕ) (l : List R) → find (has_name name) (take i l) ≡ None → put_row name x l ≡ take i l ++ put_row name x (drop i l)
  put-past zero l e = refl
  put-past (suc i) [] e = refl
  put-past (suc i) (y ∷ l) e =
      passed_over (has_name name y) y (find (has_name name) (take i l)) (x ∷ l) (y ∷ put_row name x l) (y ∷ (take i l ++ put_row name x (drop i l))) e
      (λ f. ap (λ (r : List R). y ∷ r) (put-past i l f))

  module _ (l : List R) (i : ℕ) (first : First (has_name name) l i) where
    again : i < length l → assign_row name x l ≡ set l i x
    unfolding assign_row
    again h =
        rw (found (has_name name) l i first x h)
        (put-past i l first.before ∙ rw (drop-cons l i x h, first.passes x h, set_split l i x h) refl)

    anew : length l ≤ i → assign_row name x l ≡ joined 16 x l
    unfolding assign_row
    anew h =
        let end : drop i l ≡ [] = drop_of_length-le l {i = i} h in
        rw (not_found (has_name name) l i first h) (ap (cond (leb 16 (length l)) l) (put-past i l first.before ∙ rw (take_all i l h, end) refl))

    -- whether there is a row of the name, or room for one
    pub row-there : i < length l → true ≡ not (no_row name l)
    row-there h = rw (found (has_name name) l i first x h) refl

    pub row-none : (b : Bool) → length l ≤ i → b ≡ not (leb 16 (length l)) → b ≡ not (no_row name l)
    row-none b h e = rw (not_found (has_name name) l i first h) e

  module _ (p : List ℕ) (l : List R) (h : Holds 16 variable_row p l) where
    pub assigned-again : (i : ℕ) → Finds (has_name name) l (Some i) → variable_row.good x ≡ true → (p₁ : List ℕ) → p₁ ≡ laid p (1 + i * 4) (variable_row.put x) → Holds 16 variable_row p₁ (assign_row name x l)
    assigned-again i found good p₁ b =
        rw (again l i found.0 found.1) (holds-set variable_row variable-laws 16 p p₁ l x i h found.1 good b)

    pub assigned-new : Finds (has_name name) l None → (p₁ : List ℕ) → Holds 16 variable_row p₁ (joined 16 x l) → Holds 16 variable_row p₁ (assign_row name x l)
    assigned-new none p₁ k = rw (anew l _ none (omega arith)) k

  -- texts stay numbers of one word
  short-cond : (b : Bool) (y : R) (l m : List R) → text_short x ≡ true → text_short y ≡ true → all text_short l ≡ true → all text_short m ≡ true → all text_short (cond b (x ∷ l) (y ∷ m)) ≡ true
  short-cond true y l m p q h k = and_from _ _ p h
  short-cond false y l m p q h k = and_from _ _ q k

  short-put : (l : List R) → text_short x ≡ true → all text_short l ≡ true → all text_short (put_row name x l) ≡ true
  short-put [] p h = and_from _ _ p refl
  short-put (y ∷ l) p h =
      let q = and_parts (text_short y) (all text_short l) h in
      short-cond (has_name name y) y l (put_row name x l) p q.0 q.1 (short-put l p q.1)

  either : (b : Bool) (l m : List R) → all text_short l ≡ true → all text_short m ≡ true → all text_short (cond b l m) ≡ true
  either true l m h k = h
  either false l m h k = k

  short-assign : (l : List R) → text_short x ≡ true → all text_short l ≡ true → all text_short (assign_row name x l) ≡ true
  unfolding assign_row
  short-assign l p h = either (not (present (find (has_name name) l)) && leb 16 (length l)) l (put_row name x l) h (short-put l p h)

-- WHAT THE ROWS SAY ---------------------------------------------------------------------------------------------------------------------------
-- the number of a text is a word
pub text-fits : (name : ℕ) (value : VarValue) {vs : List Val} → Is (row the_type) value vs → text_short (variable_row_of (record { name = name; value = value })) ≡ true
text-fits name (Int n) g = refl
text-fits name (Text t) g = lt-ltb t 4294967296 g.1.1.1.1.0.1

row_back : (name : ℕ) (value : VarValue) → variable_of (variable_row_of (record { name = name; value = value })) ≡ record { name = name; value = value }
row_back name (Int n) = refl
row_back name (Text n) = refl

-- rows of variables, by the type that the code has for them
code-rows : (n : ℕ) (v : List ℕ) → rows_at variable_code_row n v ≡ map short_variable_of (rows_at variable_row n v)
unfolding rows_at
code-rows zero v = refl
code-rows (suc n) v = ap (λ (l : List Variable). short_variable_of (variable_row.get v) ∷ l) (code-rows n (drop 4 v))

short-rows : (l : List R) → all text_short l ≡ true → map short_variable_of l ≡ map variable_of l
short-rows [] h = refl
short-rows (y ∷ l) h =
    let q = and_parts (text_short y) (all text_short l) h in
    rw (short-is y q.0, short-rows l q.1)

-- the rows of a table, read behind its count
pub code-table : (p : List ℕ) (l : List R) → Holds 16 variable_row p l → table_at variable_code_row (get_or p 0 0) p 1 ≡ map short_variable_of l
unfolding table_at
code-table p l h = code-rows (get_or p 0 0) (drop 1 p) ∙ ap (map short_variable_of) (holds-get variable_row variable-laws 16 p l h)

module _ (w : List ℕ) (s : Sound w) where
  abbrev rows : List R
  rows = (most 16 variable_row).get (part variables_part w)

  pub variables-lent : Counted 16 variable_row (take (words_in variables_part) (drop (place_of variables_part) w))
  variables-lent = table-lent variable_row variable-laws variables_part 16 (omega arith) refl w s

  variables-hold : Holds 16 variable_row (take (words_in variables_part) (drop (place_of variables_part) w)) rows
  variables-hold = rw (ap (most 16 variable_row).get (sym (part-is variables_part (omega arith) w))) at variables-lent

  -- so many as the count says, read behind it
  pub variables-read : (l : List Variable) → l ≡ table_at variable_code_row (get_or w (place_of variables_part) 0) w (place_of variables_part + 1) → l ≡ (meaning w).rest.vars
  unfolding meaning table_at
  variables-read l e =
      let k = place_of variables_part in
      e ∙ code-rows (get_or w k 0) (drop (k + 1) w)
      ∙ ap (map short_variable_of) (table-read variable_row variable-laws 16 w k (words_in variables_part) rows variables-hold)
      ∙ short-rows rows s.parts.texts

value_in_lem : (o : Option Variable) → present (value_in o) ≡ present o
value_in_lem None = refl
value_in_lem (Some y) = refl

-- A VARIABLE IS SET ---------------------------------------------------------------------------------------------------------------------------
module _ (name : ℕ) (value : VarValue) where
  abbrev x : Variable
  x = record { name = name; value = value }

  found-cond : (b : Bool) (y : R) (f : Option R) (g : Option Variable) → present f ≡ present g → present (cond b (Some y) f) ≡ present (cond b (Some (variable_of y)) g)
  found-cond true y f g e = refl
  found-cond false y f g e = e

  found-same : (l : List R) → present (find (has_name name) l) ≡ present (find (variable_has_name name) (map variable_of l))
  found-same [] = refl
  found-same (y ∷ l) = found-cond (has_name name y) y _ _ (found-same l)

  -- no row of the name and no room, in the part that is lent
  pub lacks-same : (w : List ℕ) → no_row name ((most 16 variable_row).get (take (words_in variables_part) (drop (place_of variables_part) w))) ≡ lacks_room name (meaning w)
  unfolding lacks_room var_named meaning
  lacks-same w =
      let l : List R = (most 16 variable_row).get (part variables_part w) in
      let m : length (map variable_of l) ≡ length l = simp length-map in
      let same : not (present (find (has_name name) l)) && leb 16 (length l) ≡ not (present (value_in (find (variable_has_name name) (map variable_of l)))) && leb 16 (length (map variable_of l)) =
      rw (found-same l, m, value_in_lem (find (variable_has_name name) (map variable_of l))) refl in
      subst (λ (z : List ℕ). no_row name ((most 16 variable_row).get z) ≡ lacks_room name (meaning w)) (part-is variables_part (omega arith) w) same

  put-cond : (b : Bool) (y : R) (l m : List R) → map variable_of (cond b (variable_row_of x ∷ l) (y ∷ m)) ≡ cond b (x ∷ map variable_of l) (variable_of y ∷ map variable_of m)
  put-cond true y l m = ap (λ (z : Variable). z ∷ map variable_of l) (row_back name value)
  put-cond false y l m = refl

  put-says : (l : List R) → map variable_of (put_row name (variable_row_of x) l) ≡ put_var name value (map variable_of l)
  put-says [] = ap (λ (z : Variable). z ∷ []) (row_back name value)
  put-says (y ∷ l) = put-cond (has_name name y) y l (put_row name (variable_row_of x) l) ∙ ap (λ (z : List Variable). cond (has_name name y) (x ∷ map variable_of l) (variable_of y ∷ z)) (put-says l)

  assign-cond : (b : Bool) (v : model.Volatile) (l m : List R) (k : List Variable) → map variable_of l ≡ v.rest.vars → map variable_of m ≡ k
      → with_rest (with_vars (map variable_of (cond b l m)) v.rest) v ≡ cond b v (with_rest (with_vars k v.rest) v)
  assign-cond true v l m k e f = ap (λ (z : List Variable). with_rest (with_vars z v.rest) v) e
  assign-cond false v l m k e f = ap (λ (z : List Variable). with_rest (with_vars z v.rest) v) f

  pub variable-set : (w p : List ℕ) → Sound w → text_short (variable_row_of x) ≡ true
      → Holds 16 variable_row p (assign_row name (variable_row_of x) ((most 16 variable_row).get (take (words_in variables_part) (drop (place_of variables_part) w))))
      → MeansSoundly (put_mid (place_of variables_part) (words_in variables_part) w p) (base w) (assigned name value (meaning w))
  unfolding assigned lacks_room var_named assign_row meaning
  variable-set w p s short h =
      let l : List R = (most 16 variable_row).get (part variables_part w) in
      let w' : List ℕ = put_mid (place_of variables_part) (words_in variables_part) w p in
      let h' : Holds 16 variable_row p (assign_row name (variable_row_of x) l) = subst (λ (z : List ℕ). Holds 16 variable_row p (assign_row name (variable_row_of x) ((most 16 variable_row).get z))) (sym (part-is variables_part (omega arith) w)) h in
      let c = table-back variable_row variable-laws variables_part 16 (omega arith) refl w p (assign_row name (variable_row_of x) l) s h' in
      let same : not (present (find (has_name name) l)) && leb 16 (length l) ≡ not (present (value_in (find (variable_has_name name) (map variable_of l)))) && leb 16 (length (map variable_of l)) =
      (let m : length (map variable_of l) ≡ length l = simp length-map in rw (found-same l, m, value_in_lem (find (variable_has_name name) (map variable_of l))) refl) in
      let e = assign-cond (not (present (find (has_name name) l)) && leb 16 (length l)) (meaning w) l (put_row name (variable_row_of x) l) (put_var name value (map variable_of l)) refl (put-says l) in
      subst (λ (b : Bool). MeansSoundly w' (base w) (cond b (meaning w) (with_rest (with_vars (put_var name value (map variable_of l)) (meaning w).rest) (meaning w)))) same
      (subst (MeansSoundly w' (base w)) e (variables-changed w w' p s (assign_row name (variable_row_of x) l) c h' (short-assign name (variable_row_of x) l short s.parts.texts)))
