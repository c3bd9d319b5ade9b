-- The least of what the elements of a list give, where they give something. Assumes nothing.
use mathlib.Core.Path.{◌≡◌, refl, sym, ap, ◌∙◌}
use mathlib.Core.Logic.{⊎_elim}
use mathlib.Core.Bool.{Bool, false}
use mathlib.Core.List.{List, [], ◌∷◌}
use Rattle.std.specs.Prelude.{Option, None, Some}
use Rattle.std.specs.List.{reduce, fold, filter_map, cons_option, range_with_len}
use Rattle.std.specs.Option.{unwrap_or}
use Prim.Native.Nat.{ℕ, zero, suc, ◌+◌, ◌≤◌, ◌<◌, min}
use native.Mathlib.Omega.{arith}
use lib.ListN.{length, get_or}
use borrow.Author.Tests.{le-leb, lt-leb}
use Rattle.std.proofs.lemmas.Bool.{cases_lt}
use Rattle.model.specs.Lists.{any, up_from}
use Rattle.model.proofs.ListLaws.{length-up_from}
use Rattle.next.specs.NextStart.{first_from}
use Rattle.next.specs.Distance.{within}
use Rattle.next.proofs.First.{at_most, never, first-or}

-- OF A LIST, BY ITS FIRST AND BY THAT OF THE OTHERS -----------------------------------------------------------------------------
abbrev pub joined : {A : Type 0} → (A → A → A) → A → Option A → Option A
joined f x None = Some x
joined f x (Some y) = Some (f x y)

module _ {A : Type 0} (f : A → A → A) (assoc : (x y z : A) → f (f x y) z ≡ f x (f y z)) where
  shifted : (x y : A) (xs : List A) → fold f (f x y) xs ≡ f x (fold f y xs)
  shifted x y [] = refl
  shifted x y (z ∷ xs) = ap (λ (w : A). fold f w xs) (assoc x y z) ∙ shifted x (f y z) xs

  pub from-front : (x : A) (xs : List A) → reduce f (x ∷ xs) ≡ joined f x (reduce f xs)
  from-front x [] = refl
  from-front x (y ∷ xs) = ap Some (shifted x y xs)

-- at the places of a list
pub numbered :
    {X Y : Type 0} (g : ℕ → Option Y) (h : X → Option Y) (d : X) (i : ℕ) (xs : List X) →
    ((k j : ℕ) → j ≡ i + k → k < length xs → g j ≡ h (get_or xs k d)) → filter_map g (range_with_len i (length xs)) ≡ filter_map h xs
numbered g h d i [] e = refl
numbered g h d i (x ∷ xs) e =
    rw (e 0 i (omega arith) (omega arith)) (ap (cons_option (h x)) (numbered g h d (i + 1) xs (λ k j q l. e (suc k) j (omega arith) (omega arith))))

-- of the numbers below n
from_at : (i n k d : ℕ) → k < n → i + k ≡ get_or (up_from i n) k d
from_at i zero k d h = absurd (omega arith)
from_at i (suc n) zero d h = omega arith
from_at i (suc n) (suc k) d h = let e : i + suc k ≡ suc i + k = omega arith in e ∙ from_at (suc i) n k d (omega arith)

pub of-numbers : {Y : Type 0} (h : ℕ → Option Y) (n : ℕ) → filter_map h (range_with_len 0 n) ≡ filter_map h (up_from 0 n)
of-numbers h n =
    ap (λ (m : ℕ). filter_map h (range_with_len 0 m)) (sym (length-up_from 0 n))
    ∙ numbered h h 0 0 (up_from 0 n) (λ k j e l. ap h (let u : k < n = rw (length-up_from 0 n) at l in let q : j ≡ 0 + k = e in q ∙ from_at 0 n k 0 u))

-- OF MINUTES ------------------------------------------------------------------------------------------------------------------------
min_assoc : (x y z : ℕ) → min (min x y) z ≡ min x (min y z)
min_assoc x y z = omega arith

pub within-some : (m : ℕ) → m ≤ 10080 → within m ≡ Some m
unfolding within
within-some m h = rw (le-leb m 10080 h)

pub within-none : (m : ℕ) → 10080 < m → within m ≡ None
unfolding within
within-none m h = rw (lt-leb m 10080 h)

-- A RUNNING LEAST -------------------------------------------------------------------------------------------------------------------
or_never : (a : ℕ) → a ≤ 10081 → unwrap_or (within a) 10081 ≡ a
or_never a h =
    ⊎_elim
    (λ k. ap (λ (o : Option ℕ). unwrap_or o 10081) (within-some a (omega arith)))
    (λ k. let e : 10081 ≡ a = omega arith in ap (λ (o : Option ℕ). unwrap_or o 10081) (within-none a (omega arith)) ∙ e)
    (cases_lt a 10081)

module _ {A : Type 0} (p : A → ℕ → Bool) where
  abbrev pub sooner : ℕ → A → ℕ
  sooner b x = min b (unwrap_or (within (first_from (p x) 1 10080)) 10081)

  abbrev any_first : List A → ℕ
  any_first xs = first_from (λ k. any (λ x. p x k) xs) 1 10080

  running : (b : ℕ) (xs : List A) → b ≤ 10081 → fold sooner b xs ≡ min b (any_first xs)
  running b [] h = let e : 10081 ≡ any_first [] = never (λ k. false) 1 10080 (λ k. refl) in omega arith
  running b (x ∷ xs) h =
      let a = first_from (p x) 1 10080 in
      running (sooner b x) xs (omega arith)
      ∙ ap (λ (m : ℕ). min (min b m) (any_first xs)) (or_never a (at_most (p x) 1 10080))
      ∙ min_assoc b a (any_first xs)
      ∙ ap (min b) (first-or (p x) (λ k. any (λ y. p y k) xs) 1 10080)

  pub least-running : (xs : List A) → within (fold sooner 10081 xs) ≡ within (any_first xs)
  least-running xs =
      let h : any_first xs ≤ 10081 = at_most (λ k. any (λ x. p x k) xs) 1 10080 in
      let e : min 10081 (any_first xs) ≡ any_first xs = omega arith in
      ap within (running 10081 xs (omega arith) ∙ e)
