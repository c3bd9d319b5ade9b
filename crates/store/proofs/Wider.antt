-- Rows that write the same words, of which one takes more values than the other. Assumes nothing.
use mathlib.Core.Path.{◌≡◌, refl, sym, ap, ◌∙◌}
use mathlib.Core.Bool.{true}
use mathlib.Core.List.{List, [], ◌∷◌, ◌++◌}
use Rattle.std.specs.Prelude.{Option, None, Some}
use Prim.Native.Nat.{ℕ, suc, ◌+◌, ◌-◌, ◌*◌, ◌≤◌}
use native.Mathlib.Omega.{arith}
use lib.Dec.{leb}
use lib.ListN.{length, replicate, length-append}
use borrow.Author.Tests.{leb-true, le-leb}
use Rattle.std.proofs.lemmas.Bool.{and_from, and_parts}
use Rattle.model.specs.Codec.{Row, word, ◌⊗◌, maybe, pad, Same, as_row, wide, words_of, all_good, most}
use Rattle.model.specs.Parts as parts
use Rattle.model.specs.Parts.{any, jump_row, pending_is}
use Rattle.state.specs.Meaning.{pending_row}

pub record Wider {A : Type 0} (r q : Row A) : Type 0 where
  pub long : length r.cells ≡ length q.cells
  pub put : (a : A) → r.put a ≡ q.put a
  pub good : (a : A) → r.good a ≡ true → q.good a ≡ true

same_row : {A : Type 0} {r : Row A} → Wider r r
same_row = record { long = refl; put = λ a. refl; good = λ a g. g }

pub word-wider : (m n : ℕ) → m ≤ n → Wider (word m) (word n)
word-wider m n h = record { long = refl; put = λ a. refl; good = λ a g. le-leb a n (let l = leb-true a m g in omega arith) }

behind-wider : {A B : Type 0} (r : Row A) {s q : Row B} → Wider s q → Wider (r ⊗ s) (r ⊗ q)
behind-wider r {s} {q} h =
    record {
      long = lengths r.cells s.cells q.cells h.long;
      put = λ a. ap (λ (x : List ℕ). r.put a.0 ++ x) (h.put a.1);
      good = λ a g. let (x, y) = and_parts (r.good a.0) (s.good a.1) g in and_from _ _ x (h.good a.1 y);
    }
  where
    lengths : {C : Type 0} (xs ys zs : List C) → length ys ≡ length zs → length (xs ++ ys) ≡ length (xs ++ zs)
    lengths [] ys zs e = e
    lengths (x ∷ xs) ys zs e = ap suc (lengths xs ys zs e)

first-wider : {A B : Type 0} (s : Row B) {r q : Row A} → Wider r q → Wider (r ⊗ s) (q ⊗ s)
first-wider s {r} {q} h =
    record {
      long = lengths r.cells q.cells s.cells h.long;
      put = λ a. ap (λ (x : List ℕ). x ++ s.put a.1) (h.put a.0);
      good = λ a g. let (x, y) = and_parts (r.good a.0) (s.good a.1) g in and_from _ _ (h.good a.0 x) y;
    }
  where
    lengths : {C : Type 0} (xs ys zs : List C) → length xs ≡ length ys → length (xs ++ zs) ≡ length (ys ++ zs)
    lengths xs ys zs e = length-append xs zs ∙ ap (λ (n : ℕ). n + length zs) e ∙ sym (length-append ys zs)

as-wider : {A B : Type 0} (s : Same A B) {r q : Row A} → Wider r q → Wider (as_row s r) (as_row s q)
as-wider s h = record { long = h.long; put = λ b. h.put (s.from b); good = λ b g. h.good (s.from b) g }

pub maybe-wider : {A : Type 0} {r q : Row A} → Wider r q → Wider (maybe r) (maybe q)
maybe-wider {A} {r} {q} h = record { long = ap suc h.long; put = put; good = good }
  where
    put : (o : Option A) → (maybe r).put o ≡ (maybe q).put o
    put None = ap (λ (n : ℕ). 0 ∷ replicate n 0) h.long
    put (Some a) = ap (λ (x : List ℕ). 1 ∷ x) (h.put a)

    good : (o : Option A) → (maybe r).good o ≡ true → (maybe q).good o ≡ true
    good None g = refl
    good (Some a) g = h.good a g

-- the row of a pending record, whatever the word of its trigger
pub pending-wider : Wider parts.pending_row pending_row
pending-wider =
    as-wider pending_is
    (behind-wider wide
    (behind-wider wide
    (behind-wider any
    (behind-wider any (behind-wider any (behind-wider jump_row (behind-wider any (first-wider (wide ⊗ pad 1) (word-wider 4 4294967295 (omega arith))))))))))

module _ {A : Type 0} (r q : Row A) (h : Wider r q) where
  pub words-wider : (l : List A) → words_of r l ≡ words_of q l
  unfolding words_of
  words-wider [] = refl
  words-wider (a ∷ l) = let e = words-wider l in λ i. h.put a i ++ e i

  pub good-wider : (l : List A) → all_good r l ≡ true → all_good q l ≡ true
  unfolding all_good
  good-wider [] g = refl
  good-wider (a ∷ l) g = let (x, y) = and_parts (r.good a) (all_good r l) g in and_from _ _ (h.good a x) (good-wider l y)

  pub most-wider : (n : ℕ) (l : List A) → (most n r).put l ≡ (most n q).put l
  most-wider n l = let e = words-wider l in λ i. length l ∷ (e i ++ replicate ((n - length l) * h.long i) 0)

  pub most-good : (n : ℕ) (l : List A) → (most n r).good l ≡ true → (most n q).good l ≡ true
  most-good n l g = let (x, y) = and_parts (leb (length l) n) (all_good r l) g in and_from _ _ x (good-wider l y)
