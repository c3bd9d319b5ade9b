-- No list that sets the same lamps in the same stretches has fewer levels than the kept list. Assumes nothing.
use mathlib.Core.Path.{◌≡◌, refl, sym, ap, ◌∙◌}
use mathlib.Core.Bool.{Bool, true, false, cond, ◌||◌, false≢true}
use mathlib.Core.List.{List, [], ◌∷◌}
use Rattle.std.specs.Prelude.{Option, None, Some}
use Prim.Native.Nat.{ℕ, zero, suc, ◌≤◌, zero-le}
use native.Mathlib.Nat.{le_refl, le_trans}
use native.Mathlib.Omega.{arith}
use borrow.Author.Tests.{eqb-true, eq-eqb}
use lib.Dec.{eqb}
use lib.ListN.{length}
use Rattle.std.proofs.lemmas.Bool.{and_parts}
use Rattle.model.specs.Lists.{present, keep}
use Rattle.model.specs.declared.Effect.{Effect}
use Rattle.model.proofs.Bools.{or-true}
use Rattle.model.proofs.TestLaws.{by}
use Rattle.model.specs.Telegrams.{is_level, cuts, sets, stretch, later, setting, last_set}
use Rattle.telegrams.specs.Recursion.{is_set, set_again, keep_last}
use Rattle.telegrams.proofs.KeptLaws.{keeps, leaves, level-not-cut, again-level}

-- WHICH LAMPS A STRETCH SETS, BY RECURSION

pub none-set : (n t : ℕ) → is_set n t [] ≡ false
unfolding is_set stretch last_set
none-set n t = refl

pub cut-first : (t : ℕ) (x : Effect) (xs : List Effect) → cuts x ≡ true → is_set zero t (x ∷ xs) ≡ false
unfolding is_set stretch last_set
cut-first t x xs e = rw e

pub cut-next : (n t : ℕ) (x : Effect) (xs : List Effect) → cuts x ≡ true → is_set (suc n) t (x ∷ xs) ≡ is_set n t xs
unfolding is_set stretch
cut-next n t x xs e = rw e

pub on-next : (n t : ℕ) (x : Effect) (xs : List Effect) → cuts x ≡ false → is_set (suc n) t (x ∷ xs) ≡ is_set (suc n) t xs
unfolding is_set stretch
on-next n t x xs e = rw e

later-some : {A : Type 0} (v : A) (o : Option A) → present (later (Some v) o) ≡ true
later-some v None = refl
later-some v (Some w) = refl

later-none : {A : Type 0} (o : Option A) → present (later None o) ≡ present o
later-none None = refl
later-none (Some w) = refl

pub on-first : (t : ℕ) (x : Effect) (xs : List Effect) → cuts x ≡ false → is_set zero t (x ∷ xs) ≡ sets t x || is_set zero t xs
unfolding is_set stretch last_set setting
on-first t x xs e =
    by (sets t x)
    (λ q. rw (e, q) (later-some (x.b, x.c) (last_set t (stretch zero xs))))
    (λ q. rw (e, q) (later-none (last_set t (stretch zero xs))))

-- LEVELS

unfoldable pub levels : List Effect → ℕ
levels l = length (keep is_level l)

pub level-more : (x : Effect) (xs : List Effect) → is_level x ≡ true → levels (x ∷ xs) ≡ suc (levels xs)
unfolding levels
level-more x xs e = rw e

pub other-same : (x : Effect) (xs : List Effect) → is_level x ≡ false → levels (x ∷ xs) ≡ levels xs
unfolding levels
other-same x xs e = rw e

more : (x : Effect) (xs ys : List Effect) → levels xs ≤ levels ys → levels (x ∷ xs) ≤ levels (x ∷ ys)
more x xs ys h =
    by (is_level x)
    (λ e. rw (level-more x xs e, level-more x ys e) (omega arith))
    (λ e. rw (other-same x xs e, other-same x ys e) h)

rest-less : (x : Effect) (xs : List Effect) → levels xs ≤ levels (x ∷ xs)
rest-less x xs = by (is_level x) (λ e. rw (level-more x xs e) (omega arith)) (λ e. rw (other-same x xs e) (le_refl _))

cut-other : (x : Effect) → cuts x ≡ true → is_level x ≡ false
cut-other x e = by (is_level x) (λ q. absurd (false≢true (sym (level-not-cut x q) ∙ e))) (λ q. q)

pub sets-level : (t : ℕ) (x : Effect) → sets t x ≡ true → is_level x ≡ true
unfolding sets
sets-level t x e = (and_parts (is_level x) (eqb x.a t) e).0

sets-target : (t : ℕ) (x : Effect) → sets t x ≡ true → x.a ≡ t
unfolding sets
sets-target t x e = eqb-true x.a t (and_parts (is_level x) (eqb x.a t) e).1

-- a level sets its own target
own : (x : Effect) → is_level x ≡ true → sets x.a x ≡ true
unfolding sets
own x e = rw (e, eq-eqb x.a x.a refl)

-- WHAT STANDS BEHIND THE FIRST CUT

after : List Effect → List Effect
after [] = []
after (y ∷ ys) = cond (cuts y) ys (after ys)

after-set : (p : List Effect) (n t : ℕ) → is_set n t (after p) ≡ is_set (suc n) t p
unfolding after
after-set [] n t = none-set n t ∙ sym (none-set (suc n) t)
after-set (y ∷ ys) n t =
    by (cuts y) (λ e. rw e (sym (cut-next n t y ys e))) (λ e. rw e (after-set ys n t ∙ sym (on-next n t y ys e)))

after-levels : (p : List Effect) → levels (after p) ≤ levels p
unfolding after
after-levels [] = le_refl _
after-levels (y ∷ ys) =
    by (cuts y)
    (λ e. rw e (rest-less y ys))
    (λ e. rw e (omega (arith, after-levels ys, rest-less y ys)))

-- THE FIRST STRETCH WITHOUT THE LEVELS OF LAMP t

without : ℕ → List Effect → List Effect
without t [] = []
without t (y ∷ ys) = cond (cuts y) (y ∷ ys) (cond (sets t y) (without t ys) (y ∷ without t ys))

without-next : (t : ℕ) (p : List Effect) (n s : ℕ) → is_set (suc n) s (without t p) ≡ is_set (suc n) s p
unfolding without
without-next t [] n s = refl
without-next t (y ∷ ys) n s =
    by (cuts y)
    (λ e. rw e)
    (λ e. by (sets t y)
    (λ q. rw (e, q) (without-next t ys n s ∙ sym (on-next n s y ys e)))
    (λ q. rw (e, q) (on-next n s y (without t ys) e ∙ without-next t ys n s ∙ sym (on-next n s y ys e))))

without-first : (t : ℕ) (p : List Effect) (s : ℕ) → (t ≡ s → ⊥) → is_set zero s (without t p) ≡ is_set zero s p
unfolding without
without-first t [] s d = refl
without-first t (y ∷ ys) s d =
    by (cuts y)
    (λ e. rw e)
    (λ e. by (sets t y)
    (λ q. let r : sets s y ≡ false = by (sets s y) (λ z. absurd (d (sym (sets-target t y q) ∙ sets-target s y z))) (λ z. z) in
    rw (e, q, on-first s y ys e, r) (without-first t ys s d))
    (λ q. rw (e, q, on-first s y (without t ys) e, on-first s y ys e) (ap (λ (b : Bool). sets s y || b) (without-first t ys s d))))

without-levels : (t : ℕ) (p : List Effect) → levels (without t p) ≤ levels p
unfolding without
without-levels t [] = le_refl _
without-levels t (y ∷ ys) =
    by (cuts y)
    (λ e. rw e (le_refl _))
    (λ e. by (sets t y)
    (λ q. rw (e, q) (omega (arith, without-levels t ys, rest-less y ys)))
    (λ q. rw (e, q) (more y (without t ys) ys (without-levels t ys))))

without_fewer : (t : ℕ) (p : List Effect) → is_set zero t p ≡ true → suc (levels (without t p)) ≤ levels p
unfolding without
without_fewer t [] h = absurd (false≢true (sym (none-set zero t) ∙ h))
without_fewer t (y ∷ ys) h =
    by (cuts y)
    (λ e. absurd (false≢true (sym (cut-first t y ys e) ∙ h)))
    (λ e. by (sets t y)
    (λ q. rw (e, q, level-more y ys (sets-level t y q)) (omega (arith, without-levels t ys)))
    (λ q. let k : is_set zero t ys ≡ true = rw q at (sym (on-first t y ys e) ∙ h) in rw (e, q) (fewer y (without t ys) ys (without_fewer t ys k))))
  where
    fewer : (x : Effect) (xs zs : List Effect) → suc (levels xs) ≤ levels zs → suc (levels (x ∷ xs)) ≤ levels (x ∷ zs)
    fewer x xs zs h =
        by (is_level x)
        (λ e. rw (level-more x xs e, level-more x zs e) (omega arith))
        (λ e. rw (other-same x xs e, other-same x zs e) h)

-- THE COUNT

-- every lamp that l sets in a stretch, p sets in that stretch
unfoldable pub SetsAll : List Effect → List Effect → Type 0
SetsAll l p = (n t : ℕ) → is_set n t l ≡ true → is_set n t p ≡ true

module _ (x : Effect) (xs p : List Effect) (h : SetsAll (x ∷ xs) p) (rest : (q : List Effect) → SetsAll xs q → levels (keep_last xs) ≤ levels q) where
  on : cuts x ≡ false → SetsAll xs p
  unfolding SetsAll
  on q zero t k = h zero t (rw (on-first t x xs q, k) (or-true (sets t x)))
  on q (suc n) t k = h (suc n) t (rw (on-next n t x xs q) k)

  cut : cuts x ≡ true → levels (x ∷ keep_last xs) ≤ levels p
  unfolding SetsAll
  cut q =
      rw (other-same x (keep_last xs) (cut-other x q))
      (le_trans (rest (after p) (λ n t k. rw (after-set p n t) (h (suc n) t (rw (cut-next n t x xs q) k)))) (after-levels p))

  remaining : is_set zero x.a xs ≡ false → cuts x ≡ false → SetsAll xs (without x.a p)
  unfolding SetsAll
  remaining e q zero t k = rw (without-first x.a p t (λ d. false≢true (sym e ∙ rw d k))) (on q zero t k)
  remaining e q (suc n) t k = rw (without-next x.a p n t) (on q (suc n) t k)

  -- the last level of its lamp in its stretch
  last : set_again x xs ≡ false → is_level x ≡ true → levels (x ∷ keep_last xs) ≤ levels p
  unfolding SetsAll set_again
  last e z =
      let q : cuts x ≡ false = level-not-cut x z in
      let here : is_set zero x.a (x ∷ xs) ≡ true = rw (on-first x.a x xs q, own x z) in
      rw (level-more x (keep_last xs) z)
      (omega (arith, rest (without x.a p) (remaining (rw z at e) q), without_fewer x.a p (h zero x.a here)))

  stays : set_again x xs ≡ false → levels (x ∷ keep_last xs) ≤ levels p
  stays e =
      by (is_level x)
      (λ z. last e z)
      (λ z. by (cuts x) (λ q. cut q) (λ q. rw (other-same x (keep_last xs) z) (rest p (on q))))

pub fewest : (l p : List Effect) → SetsAll l p → levels (keep_last l) ≤ levels p
unfolding keep_last levels
fewest [] p h = zero-le
fewest (x ∷ xs) p h =
    by (set_again x xs)
    (λ e. rw (leaves x xs e) (fewest xs p (on x xs p h (λ q g. fewest xs q g) (level-not-cut x (again-level x xs e)))))
    (λ e. rw (keeps x xs e) (stays x xs p h (λ q g. fewest xs q g) e))
