-- A rule's lists as words: the step at a place, and what flattening gives of it. Assumes nothing.
use Prim.Native.Nat.{ℕ, zero, suc, ◌+◌, ◌-◌, ◌*◌, ◌/◌, ◌≤◌, ◌<◌}
use native.Mathlib.Omega.{arith}
use native.Mathlib.Nat.{not-suc-le-zero}
use mathlib.Core.Path.{◌≡◌, refl, sym, ap, ◌∙◌}
use mathlib.Core.Bool.{Bool, true, false, cond, ◌&&◌}
use mathlib.Core.List.{List, [], ◌∷◌, map}
use Rattle.std.specs.Prelude.{Option, None, Some}
use lib.Dec.{eqb, leb}
use lib.ListN.{length, take, drop, get_or, length-take, length-drop, length-map}
use Rattle.std.specs.Prelude.{slice_get}
use Rattle.std.specs.List.{slice_range}
use Rattle.std.proofs.Common.{get_or-take}
use lib.Seq.{get_or-drop}
use borrow.Author.Tests.{leb-true}
use Rattle.std.proofs.lemmas.Bool.{and_parts}
use Rattle.model.specs.Codec.{rows_at}
use Rattle.model.specs.declared.Job.{Job}
use Rattle.model.specs.Flat.{list_in, step_at}
use Rattle.model.specs.Lists.{all}
use Rattle.model.specs.Parts.{step_row}
use Rattle.model.specs.State.{Env}
use Rattle.model.specs.Steps.{FlatStep}
use Rattle.model.specs.declared.Point.{Point}
use Rattle.model.specs.declared.Step.{Step}
use Rattle.model.proofs.RowLaws.{rows-count}
use Rattle.flat.specs.Words.{step_of, steps_in, body_words, list_words, Says}
use Rattle.flat.specs.Near.{reach, step_in, is_near, NearLists, IsNear}

-- ---- the step at a place
-- the four words of row p
abbrev row_at : List ℕ → ℕ → ℕ × (ℕ × (ℕ × ℕ))
row_at w p = (get_or w (p * 4) 0, (get_or w (p * 4 + 1) 0, (get_or w (p * 4 + 2) 0, get_or w (p * 4 + 3) 0)))

first-row : (w : List ℕ) → step_row.get w ≡ row_at w 0
first-row [] = refl
first-row (a ∷ []) = refl
first-row (a ∷ (b ∷ [])) = refl
first-row (a ∷ (b ∷ (c ∷ []))) = refl
first-row (a ∷ (b ∷ (c ∷ (d ∷ w)))) = refl

next_row : (w : List ℕ) (p : ℕ) → row_at (drop 4 w) p ≡ row_at w (suc p)
next_row w p =
    let e0 : 4 + p * 4 ≡ suc p * 4 = omega arith in
    let e1 : 4 + (p * 4 + 1) ≡ suc p * 4 + 1 = omega arith in
    let e2 : 4 + (p * 4 + 2) ≡ suc p * 4 + 2 = omega arith in
    let e3 : 4 + (p * 4 + 3) ≡ suc p * 4 + 3 = omega arith in
    rw (get_or-drop 4 w (p * 4) 0, get_or-drop 4 w (p * 4 + 1) 0, get_or-drop 4 w (p * 4 + 2) 0, get_or-drop 4 w (p * 4 + 3) 0, e1, e2, e3, e0)

row-there : (n p : ℕ) (w : List ℕ) → p < n → Some (row_at w p) ≡ slice_get (rows_at step_row n w) p
unfolding rows_at
row-there zero p w h = absurd (not-suc-le-zero h)
row-there (suc n) zero w h = ap Some (sym (first-row w))
row-there (suc n) (suc p) w h = ap Some (sym (next_row w p)) ∙ row-there n p (drop 4 w) (omega arith)

pub steps-count : (w : List ℕ) → length (steps_in w) ≡ length w / 4
unfolding steps_in
steps-count w = length-map (rows_at step_row (length w / 4) w) step_of ∙ rows-count step_row (length w / 4) w

map-there : {A B : Type 0} (f : A → B) (xs : List A) (p : ℕ) (x : A) → Some x ≡ slice_get xs p → Some (f x) ≡ slice_get (map f xs) p
map-there f [] p x e = cc
map-there f (y ∷ ys) zero x e = let q : x ≡ y = cc in ap (λ z. Some (f z)) q
map-there f (y ∷ ys) (suc p) x e = map-there f ys p x e

beyond : {A : Type 0} (xs : List A) (p : ℕ) → length xs ≤ p → None ≡ slice_get xs p
beyond [] p h = refl
beyond (x ∷ xs) zero h = absurd (not-suc-le-zero h)
beyond (x ∷ xs) (suc p) h = beyond xs p (omega arith)

module _ (w : List ℕ) (p : ℕ) where
  word : (k : ℕ) → k < 4 → get_or (slice_range w (p * 4) (p * 4 + 4)) k 0 ≡ get_or w (p * 4 + k) 0
  word k h = get_or-take (p * 4 + 4 - p * 4) (drop (p * 4) w) k 0 (omega arith) ∙ get_or-drop (p * 4) w k 0

  -- the words of a step, as the code reads them
  pub step-there :
      (r : List ℕ) (x : Step) → p * 4 + 4 ≤ length w → r ≡ slice_range w (p * 4) (p * 4 + 4) → x ≡ step_of (get_or r 0 0, (get_or r 1 0, (get_or r 2 0, get_or r 3 0)))
      → Some x ≡ slice_get (steps_in w) p
  unfolding steps_in
  step-there r x h e d =
      let z : p * 4 + 0 ≡ p * 4 = omega arith in
      let row : x ≡ step_of (row_at w p) = rw (← word 1 (omega arith), ← word 2 (omega arith), ← word 3 (omega arith)) (rw (e, word 0 (omega arith), z) at d) in
      ap Some row ∙ map-there step_of (rows_at step_row (length w / 4) w) p (row_at w p) (row-there (length w / 4) p w (omega arith))

  pub step_past : length w < p * 4 + 4 → None ≡ slice_get (steps_in w) p
  step_past h = beyond (steps_in w) p (omega (arith, steps-count w))

-- ---- what flattening gives
pub said : (w : List ℕ) (own : ℕ) (xs : List FlatStep) → Says w own xs → (n : ℕ) → steps_in (list_words w own n) ≡ list_in xs n
unfolding Says
said w own xs s n = s n

list-few : (w : List ℕ) (own n : ℕ) → length (list_words w own n) ≤ length w
unfolding body_words
list-few w own zero = omega (arith, length-drop (own * 4) w)
list-few w own (suc p) =
    let i = own + p in
    part (leb (suc i * 4) (length w) && eqb (get_or w (i * 4) 0) 3) (get_or w (i * 4 + 3) 0 * 4) (get_or w (i * 4 + 2) 0 * 4)
  where
    part : (t : Bool) (k m : ℕ) → length (cond t (take k (drop m w)) []) ≤ length w
    part true k m = omega (arith, length-take k (drop m w), length-drop m w)
    part false k m = omega arith

near-at : (xs : List Step) (p : ℕ) (x : Step) → all is_near xs ≡ true → Some x ≡ slice_get xs p → (p < length xs) × (reach x ≤ 2048)
near-at [] p x h e = absurd (differ e)
  where
    differ : Some x ≡ None → ⊥
    differ q = let z : ◌≡◌ {A = ℕ} 0 1 = cc in omega arith
near-at (y ∷ ys) zero x h e =
    let p = and_parts (is_near y) (all is_near ys) h in
    let q : x ≡ y = cc in
    (omega arith, rw q (leb-true (reach y) 2048 p.0))
near-at (y ∷ ys) (suc p) x h e =
    let q = near-at ys p x (and_parts (is_near y) (all is_near ys) h).1 e in
    (omega (arith, q.0), q.1)

-- a step that was found stands below 2,048, and leads no further
pub found-near : (part : List ℕ) (own : ℕ) (p : Point) (o : Option Step) → NearLists part own → o ≡ step_in part own p → IsNear p o
found-near part own p None f e = tt
found-near part own p (Some x) f e =
    let w = list_words part own p.list in
    let q = near-at (steps_in w) p.place x (f.near p.list) e in
    (omega (arith, q.0, list-few part own p.list, f.few, steps-count w), q.1)

-- the same of a list and a place that are the point's
pub near-there : (part : List ℕ) (own : ℕ) (p : Point) (o : Option Step) (list place : ℕ) → NearLists part own → list ≡ p.list → place ≡ p.place
    → o ≡ slice_get (steps_in (list_words part own list)) place → IsNear p o
near-there part own p o list place near l k e = found-near part own p o near (rw (l, k) at e)

-- the step of the rule
pub is-step : (part : List ℕ) (own : ℕ) (p : Point) (e : Env) (j : Job) → Says part own (get_or e.set.flat j.index []) → step_in part own p ≡ step_at e.set j.index p
unfolding step_at
is-step part own p e j s = ap (λ (xs : List Step). slice_get xs p.place) (said part own (get_or e.set.flat j.index []) s p.list)
