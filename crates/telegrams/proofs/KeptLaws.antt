-- The kept list by recursion on the list, and its laws: the same cuts, the same lamps, kept again it is itself. Assumes nothing.
use mathlib.Core.Path.{◌≡◌, refl, ap, ◌∙◌}
use mathlib.Core.Bool.{true, false, cond, false≢true}
use mathlib.Core.List.{List, [], ◌∷◌}
use Rattle.std.specs.Prelude.{Option, None, Some}
use Prim.Native.Nat.{ℕ, zero, suc}
use borrow.Author.Tests.{eqb-true}
use lib.Dec.{eqb}
use Rattle.std.proofs.lemmas.Bool.{and_parts}
use Rattle.model.specs.Lists.{present}
use Rattle.model.specs.declared.Effect.{Effect}
use Rattle.model.proofs.TestLaws.{by}
use Rattle.model.specs.Telegrams.{is_level, cuts, sets, cutting, stretch, later, Setting, setting, last_set}
use Rattle.telegrams.specs.Recursion.{is_set, set_again, kept_head, keep_last}

pub keeps : (x : Effect) (xs : List Effect) → set_again x xs ≡ false → keep_last (x ∷ xs) ≡ x ∷ keep_last xs
unfolding keep_last kept_head
keeps x xs e = rw e

pub leaves : (x : Effect) (xs : List Effect) → set_again x xs ≡ true → keep_last (x ∷ xs) ≡ keep_last xs
unfolding keep_last kept_head
leaves x xs e = rw e

pub level-not-cut : (x : Effect) → is_level x ≡ true → cuts x ≡ false
unfolding is_level cuts
level-not-cut x e = rw (eqb-true x.kind 12 e)

pub again-level : (x : Effect) (xs : List Effect) → set_again x xs ≡ true → is_level x ≡ true
unfolding set_again
again-level x xs e = (and_parts (is_level x) (is_set zero x.a xs) e).0

pub again-set : (x : Effect) (xs : List Effect) → set_again x xs ≡ true → is_set zero x.a xs ≡ true
unfolding set_again
again-set x xs e = (and_parts (is_level x) (is_set zero x.a xs) e).1

-- THE SAME CUTS

pub same-cuts : (l : List Effect) → cutting (keep_last l) ≡ cutting l
unfolding cutting keep_last kept_head
same-cuts [] = refl
same-cuts (x ∷ xs) =
    by (set_again x xs)
    (λ e. rw (e, level-not-cut x (again-level x xs e)) (same-cuts xs))
    (λ e. rw (e) (ap (λ (ys : List Effect). cond (cuts x) (x ∷ ys) ys) (same-cuts xs)))

-- THE SAME LAMPS

later-present : {A : Type 0} (first o : Option A) → present o ≡ true → o ≡ later first o
later-present first None e = absurd (false≢true e)
later-present first (Some v) e = refl

later-none : {A : Type 0} (o : Option A) → o ≡ later None o
later-none None = refl
later-none (Some v) = refl

-- an effect whose lamp is set again adds nothing
adds-nothing : (t : ℕ) (x : Effect) (xs : List Effect) → set_again x xs ≡ true → last_set t (stretch zero xs) ≡ later (setting t x) (last_set t (stretch zero xs))
unfolding setting is_set sets
adds-nothing t x xs e =
    by (sets t x)
    (λ q. later-present (setting t x) (last_set t (stretch zero xs)) (rw (eqb-true x.a t (and_parts (is_level x) (eqb x.a t) q).1) at (again-set x xs e)))
    (λ q. rw q (later-none (last_set t (stretch zero xs))))

pub same-lamps : (l : List Effect) (n t : ℕ) → last_set t (stretch n (keep_last l)) ≡ last_set t (stretch n l)
unfolding keep_last kept_head stretch last_set
same-lamps [] n t = refl
same-lamps (x ∷ xs) zero t =
    by (set_again x xs)
    (λ e. rw (e, level-not-cut x (again-level x xs e)) (same-lamps xs zero t ∙ adds-nothing t x xs e))
    (λ e. rw e (by (cuts x) (λ q. rw q) (λ q. rw q (ap (λ (o : Option Setting). later (setting t x) o) (same-lamps xs zero t)))))
same-lamps (x ∷ xs) (suc n) t =
    by (set_again x xs)
    (λ e. rw (e, level-not-cut x (again-level x xs e)) (same-lamps xs (suc n) t))
    (λ e. rw e (same-lamps xs (cond (cuts x) n (suc n)) t))

-- KEPT AGAIN

pub same_set : (l : List Effect) (n t : ℕ) → is_set n t (keep_last l) ≡ is_set n t l
unfolding is_set
same_set l n t = ap present (same-lamps l n t)

pub kept_again : (l : List Effect) → keep_last (keep_last l) ≡ keep_last l
unfolding set_again
kept_again [] = unfold keep_last in refl
kept_again (x ∷ xs) =
    by (set_again x xs)
    (λ e. rw (leaves x xs e) (kept_again xs))
    (λ e. rw (keeps x xs e, keeps x (keep_last xs) (rw (same_set xs zero x.a) e)) (ap (λ (ys : List Effect). x ∷ ys) (kept_again xs)))
