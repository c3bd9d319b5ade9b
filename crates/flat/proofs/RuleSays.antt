-- The words of a rule's part say its lists: its own list, and where an after's row says that its body stands, that body, in every copy.
use mathlib.Core.Path.{◌≡◌, refl, sym, ap, ◌∙◌}
use mathlib.Core.Bool.{cond, ◌&&◌}
use mathlib.Core.List.{List, [], ◌∷◌, ◌++◌, map, append_assoc}
use Rattle.std.specs.Prelude.{Option, None, Some}
use Prim.Native.Nat.{ℕ, zero, suc, ◌+◌, ◌*◌, ◌/◌}
use native.Mathlib.Nat.{zero-add}
use native.Mathlib.Omega.{arith}
use borrow.Author.Tests.{leb-true, leb-false, le-leb, lt-leb}
use lib.Dec.{leb, eqb}
use lib.ListN.{length, take, drop, get_or, length-append}
use Rattle.std.specs.Prelude.{slice_get}
use lib.Seq.{take-append_seam, drop_at}
use Rattle.model.specs.declared.FlattenCtx.{FlattenCtx}
use Rattle.model.specs.Steps.{FlatStep, steps_of}
use Rattle.model.specs.Codec.{rows_at}
use Rattle.model.specs.Parts.{step_row}
use Rattle.model.specs.Flat.{Row, Flattened, again, copies, flatten_after, flatten_rule, body_in, list_in, part_of}
use Rattle.model.proofs.TestLaws.{by}
use Rattle.flat.specs.Words.{layout, step_of, steps_in, body_words, Says}
use Rattle.flat.proofs.Words.{layout-length, four-more, drop-words, take_words}
use Rattle.flat.proofs.Induction.{Closed}
use Rattle.flat.proofs.EachRule.{of-rule}

-- ROWS AND STEPS ----------------------------------------------------------------------------------------------------------------------
-- the rows of the body that a row names, in a rule's part
abbrev pub row_body : List Row → Option Row → List Row
row_body part None = []
row_body part (Some r) = cond (eqb r.0 3) (take r.1.1.1 (drop r.1.1.0 part)) []

-- a row says this step
pub record RowSays (part : List Row) (r : Row) (x : FlatStep) : Type 0 where
  pub step : step_of r ≡ x.step
  pub body : map step_of (row_body part (Some r)) ≡ x.body

abbrev pub RowsSay : List Row → List Row → List FlatStep → Type 0
RowsSay part [] [] = Unit {0}
RowsSay part [] (x ∷ xs) = ⊥
RowsSay part (r ∷ rs) [] = ⊥
RowsSay part (r ∷ rs) (x ∷ xs) = RowSays part r x × RowsSay part rs xs

module _ (part : List Row) where
  pub say-steps : (rs : List Row) (xs : List FlatStep) → RowsSay part rs xs → map step_of rs ≡ steps_of xs
  say-steps [] [] h = refl
  say-steps [] (x ∷ xs) h = absurd h
  say-steps (r ∷ rs) [] h = absurd h
  say-steps (r ∷ rs) (x ∷ xs) h = rw (h.0.step, say-steps rs xs h.1)

  pub say-body : (rs : List Row) (xs : List FlatStep) (p : ℕ) → RowsSay part rs xs → map step_of (row_body part (slice_get rs p)) ≡ body_in (slice_get xs p)
  say-body [] [] p h = refl
  say-body [] (x ∷ xs) p h = absurd h
  say-body (r ∷ rs) [] p h = absurd h
  say-body (r ∷ rs) (x ∷ xs) zero h = h.0.body
  say-body (r ∷ rs) (x ∷ xs) (suc p) h = say-body rs xs p h.1

  say-append : (rs : List Row) (xs : List FlatStep) (ss : List Row) (ys : List FlatStep) → RowsSay part rs xs → RowsSay part ss ys → RowsSay part (rs ++ ss) (xs ++ ys)
  say-append [] [] ss ys h k = k
  say-append [] (x ∷ xs) ss ys h k = absurd h
  say-append (r ∷ rs) [] ss ys h k = absurd h
  say-append (r ∷ rs) (x ∷ xs) ss ys h k = (h.0, say-append rs xs ss ys h.1 k)

  say-copies : (t n : ℕ) (b : Flattened) → RowsSay part b.rows b.steps → RowsSay part (copies t b n).rows (copies t b n).steps
  say-copies zero n b h = tt
  say-copies (suc t) n b h =
      by (leb (n + length b.steps) 256)
      (λ e. rw (e, copies) (say-append b.rows b.steps _ _ h (say-copies t (n + length b.steps) (again b) h)))
      (λ e. rw (e, copies) (record { step = refl; body = refl }, tt))

-- EVERY LIST --------------------------------------------------------------------------------------------------------------------------
-- in front of the bodies that are added stand m steps of bodies
abbrev pub SaysAt : ℕ → FlattenCtx → ℕ → ℕ → Flattened → Type 0
SaysAt d c n m f = (p s : List Row) → length p ≡ m → RowsSay (p ++ (f.bodies ++ s)) f.rows f.steps

-- f and then g, whose bodies stand behind those of f
says-append : (m : ℕ) (f g : Flattened)
    → ((p s : List Row) → length p ≡ m → RowsSay (p ++ (f.bodies ++ s)) f.rows f.steps)
    → ((p s : List Row) → length p ≡ m + length f.bodies → RowsSay (p ++ (g.bodies ++ s)) g.rows g.steps)
    → (p s : List Row) → length p ≡ m → RowsSay (p ++ ((f.bodies ++ g.bodies) ++ s)) (f.rows ++ g.rows) (f.steps ++ g.steps)
says-append m f g h k p s e =
    let a : p ++ ((f.bodies ++ g.bodies) ++ s) ≡ p ++ (f.bodies ++ (g.bodies ++ s)) = ap (λ (l : List Row). p ++ l) (append_assoc f.bodies g.bodies s) in
    let b : p ++ (f.bodies ++ (g.bodies ++ s)) ≡ (p ++ f.bodies) ++ (g.bodies ++ s) = sym (append_assoc p f.bodies (g.bodies ++ s)) in
    rw a
    (say-append (p ++ (f.bodies ++ (g.bodies ++ s))) f.rows f.steps g.rows g.steps (h p (g.bodies ++ s) e)
    (rw b (k (p ++ f.bodies) s (omega (arith, length-append p f.bodies, e)))))

says-copies : (m t n : ℕ) (b : Flattened)
    → ((p s : List Row) → length p ≡ m → RowsSay (p ++ (b.bodies ++ s)) b.rows b.steps)
    → (p s : List Row) → length p ≡ m → RowsSay (p ++ ((copies t b n).bodies ++ s)) (copies t b n).rows (copies t b n).steps
says-copies m zero n b h p s e = tt
says-copies m (suc t) n b h p s e =
    by (leb (n + length b.steps) 256)
    (λ q.
    let r = copies t (again b) (n + length b.steps) in
    let a : p ++ ((b.bodies ++ r.bodies) ++ s) ≡ p ++ (b.bodies ++ (r.bodies ++ s)) = ap (λ (l : List Row). p ++ l) (append_assoc b.bodies r.bodies s) in
    let g = h p (r.bodies ++ s) e in
    rw (q, copies, a)
    (say-append (p ++ (b.bodies ++ (r.bodies ++ s))) b.rows b.steps r.rows r.steps g
    (say-copies (p ++ (b.bodies ++ (r.bodies ++ s))) t (n + length b.steps) (again b) g)))
    (λ q. rw (q, copies) (record { step = refl; body = refl }, tt))

says-after : (ms m : ℕ) (b : Flattened) → ((p s : List Row) → length p ≡ m → RowsSay (p ++ (b.bodies ++ s)) b.rows b.steps)
    → (p s : List Row) → length p ≡ m → RowsSay (p ++ (b.rows ++ s)) (flatten_after ms m b).rows (flatten_after ms m b).steps
says-after ms m b h p s e =
    let k = h p s e in
    let part = p ++ (b.bodies ++ s) in (
      record {
        step = refl;
        body = rw (drop_at p (b.rows ++ s) m e, take-append_seam b.rows s) (say-steps part b.rows b.steps k);
      },
      tt,
    )

pub says-closed : Closed SaysAt SaysAt
says-closed =
    record {
      nil = λ d c n m p s e. tt;
      full = λ d c n m p s e. (record { step = refl; body = refl }, tt);
      more = λ d c n m a b l h k. says-append m a b h k;
      plain = λ d c n m i p s e. (record { step = refl; body = refl }, tt);
      waits = λ d c n m ms p s e. (record { step = refl; body = refl }, tt);
      fails = λ d c n m p s e. (record { step = refl; body = refl }, tt);
      afters = λ d c n m ms b z h. says-after ms m b h;
      calls = λ d c n m f h. h;
      repeats = λ d c n m t b z h. says-copies m t n b h;
      branches = λ d c n m q y e z h k p s w. (record { step = refl; body = refl }, says-append m y e h k p s w);
    }

-- WORDS -------------------------------------------------------------------------------------------------------------------------------
rows-read : (rs : List Row) → rows_at step_row (length rs) (layout rs) ≡ rs
unfolding rows_at
rows-read [] = refl
rows-read (r ∷ rs) = ap (λ (l : List Row). r ∷ l) (rows-read rs)

-- the steps that the words of rows say
pub steps-in : (rs : List Row) → steps_in (layout rs) ≡ map step_of rs
unfolding steps_in
steps-in rs =
    let e : length (layout rs) / 4 ≡ length rs = omega (arith, layout-length rs) in
    rw (e, rows-read rs)

-- the words of the body that a row names, among all words
abbrev named_words : List ℕ → Option Row → List ℕ
named_words w None = []
named_words w (Some r) = cond (eqb r.0 3) (take (r.1.1.1 * 4) (drop (r.1.1.0 * 4) w)) []

one_more : (r : Row) (rs : List Row) (i : ℕ) → leb (suc (suc i) * 4) (length (layout (r ∷ rs))) ≡ leb (suc i * 4) (length (layout rs))
one_more r rs i =
    by (leb (suc i * 4) (length (layout rs)))
    (λ e. le-leb (suc (suc i) * 4) (length (layout (r ∷ rs))) (omega (arith, leb-true (suc i * 4) (length (layout rs)) e)) ∙ sym e)
    (λ e. lt-leb (suc (suc i) * 4) (length (layout (r ∷ rs))) (omega (arith, leb-false (suc i * 4) (length (layout rs)) e)) ∙ sym e)

named-at : (w : List ℕ) (rs : List Row) (i : ℕ)
    → cond (leb (suc i * 4) (length (layout rs)) && eqb (get_or (layout rs) (i * 4) 0) 3)
    (take (get_or (layout rs) (i * 4 + 3) 0 * 4) (drop (get_or (layout rs) (i * 4 + 2) 0 * 4) w))
    []
    ≡ named_words w (slice_get rs i)
named-at w [] i = rw (lt-leb (suc i * 4) 0 (omega arith))
named-at w (r ∷ rs) zero = rw (le-leb (1 * 4) (length (layout (r ∷ rs))) (omega arith))
named-at w (r ∷ rs) (suc i) =
    let e : suc i * 4 + 2 ≡ suc (suc (suc (suc (i * 4 + 2)))) = omega arith in
    let f : suc i * 4 + 3 ≡ suc (suc (suc (suc (i * 4 + 3)))) = omega arith in
    rw (one_more r rs i, e, f, four-more i) (rw (four-more i) at (named-at w rs i))

named-rows : (rs : List Row) (o : Option Row) → named_words (layout rs) o ≡ layout (row_body rs o)
named-rows rs None = refl
named-rows rs (Some r) =
    by (eqb r.0 3)
    (λ e. rw e (ap (take (r.1.1.1 * 4)) (drop-words r.1.1.0 rs) ∙ take_words r.1.1.1 (drop r.1.1.0 rs)))
    (λ e. rw e)

pub body-words : (rs : List Row) (i : ℕ) → body_words (layout rs) i ≡ layout (row_body rs (slice_get rs i))
unfolding body_words
body-words rs i = named-at (layout rs) rs i ∙ named-rows rs (slice_get rs i)

behind-front : (rs ss : List Row) (p : ℕ) → slice_get (rs ++ ss) (length rs + p) ≡ slice_get ss p
behind-front [] ss p = rw (zero-add p)
behind-front (r ∷ rs) ss p =
    let e : suc (length rs) + p ≡ suc (length rs + p) = omega arith in
    rw e (behind-front rs ss p)

-- A PART SAYS ITS LISTS ---------------------------------------------------------------------------------------------------------------
pub part_says : (bodies rows : List Row) (xs : List FlatStep) → RowsSay (bodies ++ rows) rows xs → Says (layout (bodies ++ rows)) (length bodies) xs
unfolding Says list_in
part_says bodies rows xs h zero =
    ap steps_in (drop-words (length bodies) (bodies ++ rows) ∙ ap layout (drop_at bodies rows (length bodies) refl))
    ∙ steps-in rows ∙ say-steps (bodies ++ rows) rows xs h
part_says bodies rows xs h (suc p) =
    ap steps_in (body-words (bodies ++ rows) (length bodies + p) ∙ ap (λ (o : Option Row). layout (row_body (bodies ++ rows) o)) (behind-front bodies rows p))
    ∙ steps-in (row_body (bodies ++ rows) (slice_get rows p)) ∙ say-body (bodies ++ rows) rows xs p h

pub rule-rows : (img : List ℕ) (i : ℕ) → RowsSay (part_of (flatten_rule img i)) (flatten_rule img i).rows (flatten_rule img i).steps
rule-rows img i = of-rule SaysAt SaysAt says-closed img i [] (flatten_rule img i).rows refl

-- the part of rule i says its lists
pub rule-says : (img : List ℕ) (i : ℕ) → Says (layout (part_of (flatten_rule img i))) (length (flatten_rule img i).bodies) (flatten_rule img i).steps
rule-says img i = part_says (flatten_rule img i).bodies (flatten_rule img i).rows (flatten_rule img i).steps (rule-rows img i)
