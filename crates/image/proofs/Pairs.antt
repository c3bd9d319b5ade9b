-- The fields of a row beside the pairs of neighbours of a record's words. Assumes nothing.
use mathlib.Core.Path.{◌≡◌, refl, ap, ◌∙◌}
use mathlib.Core.Bool.{Bool, true, ◌&&◌, and-true, and_assoc}
use mathlib.Core.List.{List, [], ◌∷◌}
use Prim.Native.Nat.{ℕ, zero, suc, ◌<◌}
use native.Mathlib.Nat.{le_of_suc-le-suc}
use native.Mathlib.Omega.{arith}
use lib.ListN.{length, get_or, drop}
use Rattle.std.specs.List.{list_all, zip}
use Rattle.std.specs.Iterator.{AlwaysYields}
use Rattle.std.specs.Slice.Iter.{windows_rest, windows_size, windows_steps}
use Rattle.std.proofs.lemmas.Iterator.{YieldsList}

abbrev pub pairs : List ℕ → List (List ℕ)
pairs [] = []
pairs (x ∷ []) = []
pairs (x ∷ y ∷ l) = (x ∷ y ∷ []) ∷ pairs (y ∷ l)

-- what `windows(2)` gives
gives : (l : List ℕ) (s : _) → windows_size {T = ℕ} s ≡ 2 → windows_rest s ≡ l → AlwaysYields windows_steps (λ x. x.now) s (pairs l)
gives [] s es er = λ x t k. omega (arith, ap length er, es, k.1.0)
gives (a ∷ []) s es er = λ x t k. omega (arith, ap length er, es, k.1.0)
gives (a ∷ b ∷ l) s es er = (
  (λ t k. omega (arith, ap length er, es, k.1.0)),
  λ x t k. (k.1.1 ∙ rw (es, er) refl, gives (b ∷ l) t (k.0 ∙ es) (k.1.2 ∙ ap (drop 1) er)),
)

pub YieldsList-from_pairs : (l : List ℕ) (s : _) → windows_size {T = ℕ} s ≡ 2 → windows_rest s ≡ l → YieldsList windows_steps (λ x. x.now) s (pairs l)
YieldsList-from_pairs l s es er = record { runs = gives l s es er }

module _ {A : Type 0} where
  -- each pair has two words
  pair-long : (r : List A) (l : List ℕ) (x : A × List ℕ) (i : ℕ) → i < length (zip r (pairs l)) → length (get_or (zip r (pairs l)) i x).1 ≡ 2
  pair-long [] l x i h = absurd (omega arith)
  pair-long (a ∷ r) [] x i h = absurd (omega arith)
  pair-long (a ∷ r) (y ∷ []) x i h = absurd (omega arith)
  pair-long (a ∷ r) (y ∷ z ∷ l) x zero h = refl
  pair-long (a ∷ r) (y ∷ z ∷ l) x (suc i) h = pair-long r (z ∷ l) x i (le_of_suc-le-suc h)

  pub has-two : (r : List A) (l : List ℕ) (x : A × List ℕ) (i : ℕ) → i < length (zip r (pairs l)) → x ≡ get_or (zip r (pairs l)) i x → length x.1 ≡ 2
  has-two r l x i h e = ap (λ (p : A × List ℕ). length p.1) e ∙ pair-long r l x i h

  -- five fields, beside the pairs of the seven words behind the kind
  five-fields : (q : A → List ℕ → Bool) (d : A) (r : List A) → length r ≡ 5 → (a b c e f : List ℕ) (ps : List (List ℕ))
      → list_all (λ p. q p.0 p.1) (zip r (a ∷ b ∷ c ∷ e ∷ f ∷ ps)) ≡ (q (get_or r 0 d) a && (q (get_or r 1 d) b && (q (get_or r 2 d) c && (q (get_or r 3 d) e && (q (get_or r 4 d) f && true)))))
  five-fields q d [] h a b c e f ps = absurd (omega arith)
  five-fields q d (u ∷ []) h a b c e f ps = absurd (omega arith)
  five-fields q d (u ∷ v ∷ []) h a b c e f ps = absurd (omega arith)
  five-fields q d (u ∷ v ∷ w ∷ []) h a b c e f ps = absurd (omega arith)
  five-fields q d (u ∷ v ∷ w ∷ x ∷ []) h a b c e f ps = absurd (omega arith)
  five-fields q d (u ∷ v ∷ w ∷ x ∷ y ∷ []) h a b c e f ps = refl
  five-fields q d (u ∷ v ∷ w ∷ x ∷ y ∷ z ∷ r) h a b c e f ps = absurd (omega arith)

abbrev two_of : List ℕ → ℕ → ℕ → List ℕ
two_of w j k = get_or w j 0 ∷ get_or w k 0 ∷ []

six_pairs : (w : List ℕ) → length w ≡ 8 → pairs (drop 1 w) ≡ two_of w 1 2 ∷ two_of w 2 3 ∷ two_of w 3 4 ∷ two_of w 4 5 ∷ two_of w 5 6 ∷ two_of w 6 7 ∷ []
six_pairs [] h = absurd (omega arith)
six_pairs (a ∷ []) h = absurd (omega arith)
six_pairs (a ∷ b ∷ []) h = absurd (omega arith)
six_pairs (a ∷ b ∷ c ∷ []) h = absurd (omega arith)
six_pairs (a ∷ b ∷ c ∷ d ∷ []) h = absurd (omega arith)
six_pairs (a ∷ b ∷ c ∷ d ∷ e ∷ []) h = absurd (omega arith)
six_pairs (a ∷ b ∷ c ∷ d ∷ e ∷ f ∷ []) h = absurd (omega arith)
six_pairs (a ∷ b ∷ c ∷ d ∷ e ∷ f ∷ g ∷ []) h = absurd (omega arith)
six_pairs (a ∷ b ∷ c ∷ d ∷ e ∷ f ∷ g ∷ k ∷ []) h = refl
six_pairs (a ∷ b ∷ c ∷ d ∷ e ∷ f ∷ g ∷ k ∷ x ∷ w) h = absurd (omega arith)

-- five behind a test
joined : (x a b c d e : Bool) → x && (a && (b && (c && (d && (e && true))))) ≡ ((((x && a) && b) && c) && d) && e
joined x a b c d e = simp (and_assoc, and-true)

pub row-fields : {A : Type 0} (q : A → List ℕ → Bool) (d : A) (r : List A) (w : List ℕ) (x : Bool) → length r ≡ 5 → length w ≡ 8
    → x && list_all (λ p. q p.0 p.1) (zip r (pairs (drop 1 w)))
    ≡ ((((x && q (get_or r 0 d) (two_of w 1 2)) && q (get_or r 1 d) (two_of w 2 3)) && q (get_or r 2 d) (two_of w 3 4)) && q (get_or r 3 d) (two_of w 4 5)) && q (get_or r 4 d) (two_of w 5 6)
row-fields q d r w x hr hw = rw (six_pairs w hw, five-fields q d r hr (two_of w 1 2) (two_of w 2 3) (two_of w 3 4) (two_of w 4 5) (two_of w 5 6) (two_of w 6 7 ∷ [])) (joined x _ _ _ _ _)
