-- The records under their numbers (`numbered`): how many, one more behind them, and those that pass a test. Assumes nothing.
use Prim.Native.Nat.{ℕ, zero, suc, ◌+◌, ◌≤◌, ◌<◌}
use native.Mathlib.Omega.{arith}
use mathlib.Core.Bool.{Bool, true, false, cond}
use mathlib.Core.Path.{◌≡◌, refl, ap}
use mathlib.Core.List.{List, [], ◌∷◌, ◌++◌, map}
use lib.ListN.{length, take, length-map}
use Rattle.model.specs.Lists.{keep}
use Rattle.model.specs.declared.Pending.{Pending}
use Rattle.state.specs.Meaning.{numbered, offset_from, Below}

module _ (base : ℕ) where
  pub numbered-length : (k : ℕ) (ps : List Pending) → length (numbered base k ps) ≡ length ps
  unfolding numbered
  numbered-length zero ps = length-map ps (offset_from base)
  numbered-length (suc k) [] = refl
  numbered-length (suc k) (p ∷ ps) = ap suc (numbered-length k ps)

  -- all hold numbers
  pub numbered-all : (k : ℕ) (ps : List Pending) → length ps ≤ k → numbered base k ps ≡ ps
  unfolding numbered
  numbered-all zero [] h = refl
  numbered-all zero (p ∷ ps) h = absurd (omega arith)
  numbered-all (suc k) [] h = refl
  numbered-all (suc k) (p ∷ ps) h = ap (λ (l : List Pending). p ∷ l) (numbered-all k ps (omega arith))

  map-joins : (ps : List Pending) (p : Pending) → map (offset_from base) (ps ++ (p ∷ [])) ≡ map (offset_from base) ps ++ (offset_from base p ∷ [])
  map-joins [] p = refl
  map-joins (x ∷ ps) p = ap (λ (l : List Pending). offset_from base x ∷ l) (map-joins ps p)

  -- a record with an offset joins behind
  pub numbered-joins : (k : ℕ) (ps : List Pending) (p : Pending) → k ≤ length ps → numbered base k (ps ++ (p ∷ [])) ≡ numbered base k ps ++ (offset_from base p ∷ [])
  unfolding numbered
  numbered-joins zero ps p h = map-joins ps p
  numbered-joins (suc k) [] p h = absurd (omega arith)
  numbered-joins (suc k) (x ∷ ps) p h = ap (λ (l : List Pending). x ∷ l) (numbered-joins k ps p (omega arith))

  -- a test that does not look at the number
  module _ (p : Pending → Bool) (ignores : (c : Pending) → p (offset_from base c) ≡ p c) where
    cond_map : (t : Bool) (x : Pending) (ps : List Pending) → cond t (offset_from base x ∷ map (offset_from base) ps) (map (offset_from base) ps) ≡ map (offset_from base) (cond t (x ∷ ps) ps)
    cond_map true x ps = refl
    cond_map false x ps = refl

    keep-map : (ps : List Pending) → keep p (map (offset_from base) ps) ≡ map (offset_from base) (keep p ps)
    keep-map [] = refl
    keep-map (x ∷ ps) = rw (ignores x, keep-map ps) (cond_map (p x) x (keep p ps))

    cond-numbered : (t : Bool) (x : Pending) (l front ps : List Pending) → l ≡ numbered base (length front) ps → cond t (x ∷ l) l ≡ numbered base (length (cond t (x ∷ front) front)) (cond t (x ∷ ps) ps)
    unfolding numbered
    cond-numbered true x l front ps e = ap (λ (l : List Pending). x ∷ l) e
    cond-numbered false x l front ps e = e

    pub keep-numbered : (k : ℕ) (ps : List Pending) → keep p (numbered base k ps) ≡ numbered base (length (keep p (take k ps))) (keep p ps)
    unfolding numbered
    keep-numbered zero ps = keep-map ps
    keep-numbered (suc k) [] = refl
    keep-numbered (suc k) (x ∷ ps) = cond-numbered (p x) x _ (keep p (take k ps)) (keep p ps) (keep-numbered k ps)

-- ---- offsets below a bound
pub below_more : (n : ℕ) (ps : List Pending) → Below n ps → Below (n + 1) ps
below_more n [] b = tt
below_more n (p ∷ ps) b = (omega (arith, b.0), below_more n ps b.1)

pub below-append : (n : ℕ) (ps qs : List Pending) → Below n ps → Below n qs → Below n (ps ++ qs)
below-append n [] qs b d = d
below-append n (p ∷ ps) qs b d = (b.0, below-append n ps qs b.1 d)

below-cond : (n : ℕ) (t : Bool) (p : Pending) (ps : List Pending) → p.seq < n → Below n ps → Below n (cond t (p ∷ ps) ps)
below-cond n true p ps h b = (h, b)
below-cond n false p ps h b = b

pub below-keep : (n : ℕ) (q : Pending → Bool) (ps : List Pending) → Below n ps → Below n (keep q ps)
below-keep n q [] b = tt
below-keep n q (p ∷ ps) b = below-cond n (q p) p (keep q ps) b.0 (below-keep n q ps b.1)
