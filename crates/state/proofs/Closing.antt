-- A list that is closed up in place over the elements that do not pass a test: what stands after i were looked at and j kept.
-- Assumes nothing.
use Prim.Native.Nat.{ℕ, ◌+◌, ◌≤◌, ◌<◌}
use native.Mathlib.Numerals.{add-one}
use native.Mathlib.Nat.{add-zero}
use native.Mathlib.Omega.{arith}
use mathlib.Core.Bool.{Bool, true, false, cond}
use mathlib.Core.Path.{◌≡◌, refl, sym, ap, ◌∙◌}
use mathlib.Core.List.{List, [], ◌∷◌, ◌++◌, append-nil}
use lib.ListN.{length, take, drop, get_or, set, length-set}
use lib.Seq.{length-take-le, take-suc, drop-set-lt, get_or-drop}
use Rattle.std.proofs.lemmas.List.{take_more_set}
use Rattle.std.proofs.lemmas.Grind.{drop_more_same}
use Rattle.model.specs.Lists.{keep}

-- a has, below the count, the elements of l that pass
pub record Keeps {A : Type 0} (p : A → Bool) (l a : List A) (count : ℕ) : Type 0 where
  pub holds : take count a ≡ keep p l
  pub counted : count ≡ length (keep p l)
  pub fewer : count ≤ length l

pub record Closing {A : Type 0} (p : A → Bool) (a₀ a : List A) (i j : ℕ) : Type 0 where
  pub long : length a ≡ length a₀
  pub behind : j ≤ i
  pub rest : drop i a ≡ drop i a₀
  pub kept : take j a ≡ keep p (take i a₀)

module _ {A : Type 0} where
  cond-append : (b : Bool) (x : A) (xs ys : List A) → cond b (x ∷ (xs ++ ys)) (xs ++ ys) ≡ cond b (x ∷ xs) xs ++ ys
  cond-append true x xs ys = refl
  cond-append false x xs ys = refl

  pub keep_append : (p : A → Bool) (xs ys : List A) → keep p (xs ++ ys) ≡ keep p xs ++ keep p ys
  keep_append p [] ys = refl
  keep_append p (x ∷ xs) ys = rw (keep_append p xs ys) (cond-append (p x) x (keep p xs) (keep p ys))

  -- the element at i is the one that came in
  pub at_rest : (a₀ a : List A) (i : ℕ) (d : A) → drop i a ≡ drop i a₀ → get_or a i d ≡ get_or a₀ i d
  at_rest a₀ a i d e = rw add-zero at (sym (get_or-drop i a 0 d) ∙ ap (λ (l : List A). get_or l 0 d) e ∙ get_or-drop i a₀ 0 d)

  -- nothing looked at yet
  pub starts : (p : A → Bool) (a : List A) → Closing p a a 0 0
  starts p a = record { long = refl; behind = omega arith; rest = refl; kept = refl }

  -- one more is looked at
  looked : (p : A → Bool) (a : List A) (i : ℕ) (d : A) → i < length a → keep p (take (i + 1) a) ≡ keep p (take i a) ++ cond (p (get_or a i d)) (get_or a i d ∷ []) []
  looked p a i d h = rw add-one (ap (keep p) (take-suc a i d h) ∙ keep_append p (take i a) (get_or a i d ∷ []))

  module _ (p : A → Bool) (a₀ a : List A) (i j : ℕ) (d : A) (inv : Closing p a₀ a i j) (h : i < length a) where
    -- the element at i passes, and is kept
    pub keeps : p (get_or a i d) ≡ true → Closing p a₀ (set a j (get_or a i d)) (i + 1) (j + 1)
    keeps e =
        let room : j < length a = omega arith in
        let same = at_rest a₀ a i d inv.rest in
        record {
          long = length-set a j _ ∙ inv.long;
          behind = omega arith;
          rest = drop-set-lt (i + 1) a j _ (omega arith) ∙ drop_more_same a a₀ i inv.rest;
          kept = rw (take_more_set, looked p a₀ i d (omega arith), ← same, e, inv.kept) refl;
        }

    -- it does not, and goes
    pub skips : p (get_or a i d) ≡ false → Closing p a₀ a (i + 1) j
    skips e =
        let same = at_rest a₀ a i d inv.rest in
        record {
          long = inv.long;
          behind = omega arith;
          rest = drop_more_same a a₀ i inv.rest;
          kept = rw (looked p a₀ i d (omega arith), ← same, e, inv.kept) (sym (append-nil _));
        }

  -- all n were looked at
  pub done : (p : A → Bool) (a₀ a : List A) (i j n : ℕ) → Closing p a₀ a i j → i ≤ n → n ≤ i → n ≤ length a₀ → Keeps p (take n a₀) a j
  done p a₀ a i j n inv h k l =
      let all : i ≡ n = omega arith in
      let room : j ≤ length a = omega arith in
      record {
        holds = rw all at inv.kept;
        counted = sym (length-take-le j a room) ∙ rw all at (ap length inv.kept);
        fewer = simp length-take-le (omega arith);
      }
