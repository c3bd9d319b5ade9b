-- The words of a rule's part of the flat steps that are the body of an after.
use mathlib.Core.Path.{◌≡◌, refl, sym, ap, ◌∙◌}
use mathlib.Core.Bool.{Bool, true, false, cond, ◌&&◌}
use mathlib.Core.List.{List, []}
use Prim.Native.Nat.{ℕ, suc, ◌+◌, ◌*◌, ◌-◌, ◌/◌, ◌≤◌, ◌<◌}
use native.Mathlib.Omega.{arith}
use native.Mathlib.Decide.{dec_le}
use borrow.Author.Tests.{le-leb, lt-leb, eq-eqb, ne_eqb}
use lib.Dec.{eqb, leb}
use lib.ListN.{length, take, drop, get_or, length-drop, drop_of_length-le}
use lib.Seq.{take_all}
use Rattle.flat.specs.Words.{body_words}

-- `at` is where step n begins: at the end, if there is none
pub record Placed (n len at : ℕ) : Type 0 where
  pub inside : at ≤ len
  pub there : n * 4 ≤ len → at ≡ n * 4
  pub past : len < n * 4 → at ≡ len

pub drop-placed : (w : List ℕ) (n at : ℕ) → Placed n (length w) at → drop at w ≡ drop (n * 4) w
drop-placed w n at p =
    elim (dec_le (n * 4) (length w)) [
      | yes h ↦ rw (p.there h)
      | no h ↦
          let e : at ≡ length w = p.past (omega arith) in
          let a : length w ≤ at = omega arith in
          let b : length w ≤ n * 4 = omega arith in
          drop_of_length-le w a ∙ sym (drop_of_length-le w b)
    ]

pub take-placed : (w : List ℕ) (n at : ℕ) → Placed n (length w) at → take at w ≡ take (n * 4) w
take-placed w n at p =
    elim (dec_le (n * 4) (length w)) [
      | yes h ↦ rw (p.there h)
      | no h ↦
          let e : at ≡ length w = p.past (omega arith) in
          take_all at w (omega arith) ∙ sym (take_all (n * 4) w (omega arith))
    ]

-- WHAT `after_body` FOUND -----------------------------------------------------------------------------------------------------------
not-both : (a b : Bool) (l : List ℕ) → b ≡ false → [] ≡ cond (a && b) l []
not-both true b l h = rw h
not-both false b l h = refl

module _ (w : List ℕ) (i : ℕ) where
  pub no_row : length w / 4 ≤ i → [] ≡ body_words w i
  unfolding body_words
  no_row h =
      let l : length w < suc i * 4 = omega arith in
      rw (lt-leb (suc i * 4) (length w) l)

  pub other_row : (get_or w (i * 4) 0 ≡ 3 → ⊥) → [] ≡ body_words w i
  unfolding body_words
  other_row h = not-both (leb (suc i * 4) (length w)) (eqb (get_or w (i * 4) 0) 3) _ (ne_eqb _ _ h)

  -- an after, whose row says where its body begins and how many steps it has
  pub body-row :
      (first size from n : ℕ) → i < length w / 4 → get_or w (i * 4) 0 ≡ 3 → first ≡ get_or w (i * 4 + 2) 0 → size ≡ get_or w (i * 4 + 3) 0 → Placed first (length w) from
      → Placed size (length w - from) n → take (from + n - from) (drop from w) ≡ body_words w i
  unfolding body_words
  body-row first size from n there kind f s p q =
      let l : suc i * 4 ≤ length w = omega arith in
      let m : from + n - from ≡ n = omega arith in
      let len : length w - from ≡ length (drop from w) = sym (length-drop from w) in
      rw (le-leb (suc i * 4) (length w) l, eq-eqb _ _ kind, m, ← f, ← s)
      (take-placed (drop from w) size n (rw len at q) ∙ ap (take (size * 4)) (drop-placed w first from p))
