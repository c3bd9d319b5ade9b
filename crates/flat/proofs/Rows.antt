-- Laws of rows written behind the steps of a list, and of a tail of words that was lent and has come back.
use mathlib.Core.Path.{◌≡◌, refl, sym, ap, ◌∙◌}
use mathlib.Core.List.{List, [], ◌∷◌, ◌++◌, append_assoc, append-nil}
use Prim.Native.Nat.{ℕ, ◌+◌, ◌*◌, ◌-◌, ◌≤◌, ◌<◌}
use native.Mathlib.Omega.{arith}
use native.Mathlib.Decide.{dec_le}
use lib.ListN.{length, take, drop, replicate, length-append, length-drop, drop_of_length-le}
use lib.Seq.{length-take-le, take-append-add, take-append-le, take-take, take-add, take_all, take_at, drop_at, paste, take-paste}
use borrow.Rule.Slice.PartMut.{mid_of, post_of, put_mid, mid_len, same_len_mid}
use Rattle.model.specs.Flat.{Row}
use Rattle.flat.specs.Words.{row_words, layout}
use Rattle.flat.specs.Outcome.{Put, Behinds}
use Rattle.flat.proofs.Words.{layout-append, layout-length}

pub behinds-none : (l : List ℕ) (n : ℕ) → Behinds l n [] l n
behinds-none l n h = sym (append-nil (take (n * 4) l))

pub behinds-seq : (l l1 l2 : List ℕ) (n n1 n2 : ℕ) (r s : List Row) → length l1 ≡ length l → n1 ≤ n2 → Behinds l n r l1 n1 → Behinds l1 n1 s l2 n2 → Behinds l n (r ++ s) l2 n2
behinds-seq l l1 l2 n n1 n2 r s e le h k g =
    k (omega arith) ∙ ap (λ (w : List ℕ). w ++ layout s) (h (omega arith)) ∙ append_assoc (take (n * 4) l) (layout r) (layout s)
    ∙ ap (λ (w : List ℕ). take (n * 4) l ++ w) (sym (layout-append r s))

-- what stands before may be said of another list
pub behinds-from : (l l1 l2 : List ℕ) (n n2 : ℕ) (r : List Row) → length l1 ≡ length l → take (n * 4) l1 ≡ take (n * 4) l → Behinds l1 n r l2 n2 → Behinds l n r l2 n2
behinds-from l l1 l2 n n2 r e f h g = h (omega arith) ∙ ap (λ (w : List ℕ). w ++ layout r) f

put_front : (l w : List ℕ) (n : ℕ) (x : List ℕ) → length w ≡ 4 → n * 4 + 4 ≤ length l → take ((n + 1) * 4) (take (n * 4) l ++ w ++ x) ≡ take (n * 4) l ++ w
put_front l w n x e h =
    let b : length (take (n * 4) l ++ w) ≡ (n + 1) * 4 = omega (arith, length-append (take (n * 4) l) w, length-take-le (n * 4) l (omega arith)) in
    take_at (take (n * 4) l ++ w) x ((n + 1) * 4) b

pub put-behinds : (l l1 : List ℕ) (n : ℕ) (r : Row) → Put l n (row_words r) l1 → Behinds l n (r ∷ []) l1 (n + 1)
put-behinds l l1 n r p g = rw (p (omega arith)) (put_front l (row_words r) n (drop (n * 4 + 4) l) refl (omega arith))

-- the rows behind n steps, read from there on
pub rows-read : (l l1 : List ℕ) (n n1 : ℕ) (rs : List Row) → length l1 ≡ length l → n1 ≡ n + length rs → n1 * 4 ≤ length l → Behinds l n rs l1 n1
    → (take (n * 4) l1 ≡ take (n * 4) l) × (take (length rs * 4) (drop (n * 4) l1) ≡ layout rs)
rows-read l l1 n n1 rs e q g h =
    let k = length rs * 4 in
    let z : n1 * 4 ≡ n * 4 + k = omega arith in
    let whole : take (n1 * 4) l1 ≡ take (n * 4) l ++ layout rs = h g in
    let o : length (take (n * 4) l) ≡ n * 4 = length-take-le (n * 4) l (omega arith) in
    let p : length (take (n * 4) l1) ≡ n * 4 = length-take-le (n * 4) l1 (omega arith) in
    let split : take (n * 4) l1 ++ take k (drop (n * 4) l1) ≡ take (n * 4) l ++ layout rs =
    sym (take-add (n * 4) k l1) ∙ ap (λ (j : ℕ). take j l1) (sym z) ∙ whole in (
      sym (take_at (take (n * 4) l1) (take k (drop (n * 4) l1)) (n * 4) p) ∙ ap (take (n * 4)) split ∙ take_at (take (n * 4) l) (layout rs) (n * 4) o,
      sym (drop_at (take (n * 4) l1) (take k (drop (n * 4) l1)) (n * 4) p) ∙ ap (drop (n * 4)) split ∙ drop_at (take (n * 4) l) (layout rs) (n * 4) o,
    )

-- a step put in front of steps that stand already
pub put-before : (l l2 l3 : List ℕ) (n n2 : ℕ) (r : Row) (rs : List Row) → length l2 ≡ length l → n2 ≡ n + 1 + length rs → Behinds l (n + 1) rs l2 n2 → Put l2 n (row_words r) l3 → Behinds l n (r ∷ rs) l3 n2
put-before l l2 l3 n n2 r rs e q h p g =
    let k = length rs * 4 in
    let read = rows-read l l2 (n + 1) n2 rs e q g h in
    let front : take (n * 4) l2 ≡ take (n * 4) l =
    sym (take-take (n * 4) ((n + 1) * 4) l2 (omega arith)) ∙ ap (take (n * 4)) read.0 ∙ take-take (n * 4) ((n + 1) * 4) l (omega arith) in
    let c : n * 4 + 4 ≡ (n + 1) * 4 = omega arith in
    let back : take k (drop (n * 4 + 4) l2) ≡ layout rs = rw c read.1 in
    let t = take (n * 4) l2 in
    let o : length t ≡ n * 4 = length-take-le (n * 4) l2 (omega arith) in
    let f : take (length t + (4 + k)) (t ++ (row_words r ++ drop (n * 4 + 4) l2)) ≡ t ++ take (4 + k) (row_words r ++ drop (n * 4 + 4) l2) =
    take-append-add t (row_words r ++ drop (n * 4 + 4) l2) (4 + k) in
    let m : take (4 + k) (row_words r ++ drop (n * 4 + 4) l2) ≡ row_words r ++ take k (drop (n * 4 + 4) l2) = take-append-add (row_words r) (drop (n * 4 + 4) l2) k in
    let u : n2 * 4 ≡ length t + (4 + k) = omega arith in
    rw (p (omega arith), u, append_assoc t (row_words r) (drop (n * 4 + 4) l2))
    (f ∙ ap (λ (w : List ℕ). t ++ w) m ∙ ap (λ (w : List ℕ). t ++ (row_words r ++ w)) back ∙ ap (λ (w : List ℕ). w ++ (row_words r ++ layout rs)) front)

-- words pasted from `at` on: those before stay
pub paste-front : (l : List ℕ) (at : ℕ) (s : List ℕ) (k : ℕ) → at ≤ length l → k ≤ length s → take at (paste l at s k) ≡ take at l
paste-front l at s k h g =
    sym (take-take at (at + k) (paste l at s k) (omega arith)) ∙ ap (take at) (take-paste l at s k h g)
    ∙ take_at (take at l) (take k s) at (length-take-le at l h)

-- words pasted behind n steps
pub paste-behinds : (l l1 s : List ℕ) (n size : ℕ) (rs : List Row) → size * 4 ≤ length s → take (size * 4) s ≡ layout rs
    → (n * 4 + size * 4 ≤ length l → l1 ≡ paste l (n * 4) s (size * 4)) → Behinds l n rs l1 (n + size)
paste-behinds l l1 s n size rs h e p g =
    let z : (n + size) * 4 ≡ n * 4 + size * 4 = omega arith in
    rw (p (omega arith), z) (take-paste l (n * 4) s (size * 4) (omega arith) h ∙ ap (λ (w : List ℕ). take (n * 4) l ++ w) e)

pub rows-behind : (l l1 s : List ℕ) (n : ℕ) (rs : List Row) → s ≡ layout rs → (n * 4 + length s ≤ length l → l1 ≡ paste l (n * 4) s (length s)) → Behinds l n rs l1 (n + length rs)
rows-behind l l1 s n rs e p =
    let z : length s ≡ length rs * 4 = ap length e ∙ layout-length rs in
    paste-behinds l l1 s n (length rs) rs (omega arith) (take_all (length rs * 4) s (omega arith) ∙ e) (rw z at p)

-- A TAIL THAT WAS LENT ----------------------------------------------------------------------------------------------------------------
-- the tail of w from `at` on was lent, and came back as v
module _ (w v : List ℕ) (at : ℕ) (inside : at ≤ length w) (kept : length v ≡ length (mid_of at (length w - at) w)) where
  pub whole_length : length (put_mid at (length w - at) w v) ≡ length w
  whole_length = same_len_mid at (length w - at) w v kept

  -- it came back as zeros
  pub zeros-behind : v ≡ replicate (length (mid_of at (length w - at) w)) 0 → put_mid at (length w - at) w v ≡ take at w ++ replicate (length w - at) 0
  zeros-behind e =
      let k : length (mid_of at (length w - at) w) ≡ length w - at = mid_len at (length w) w (omega arith) in
      let d : post_of at (length w - at) w ≡ [] = drop_of_length-le (drop at w) (omega (arith, length-drop at w)) in
      rw d (ap (λ (r : List ℕ). take at w ++ r) (append-nil v ∙ rw k at e))

  tail-length : length v ≡ length w - at
  tail-length = kept ∙ mid_len at (length w) w (omega arith)

  tail-front : (k : ℕ) → k ≤ length v → take (at + k) (put_mid at (length w - at) w v) ≡ take at w ++ take k v
  tail-front k h =
      let e : length (take at w) ≡ at = length-take-le at w inside in
      let f = take-append-add (take at w) (v ++ drop (length w - at) (drop at w)) k in
      rw e at f ∙ ap (λ (r : List ℕ). take at w ++ r) (take-append-le k v _ h)

  before : take at (put_mid at (length w - at) w v) ≡ take at w
  before =
      let e : length (take at w) ≡ at = length-take-le at w inside in
      take-append-le at (take at w) (v ++ drop (length w - at) (drop at w)) (omega arith) ∙ take-take at at w (omega arith)

  -- m steps stand in front of the tail, if there are so many
  module _ (m : ℕ) (cut : m * 4 ≤ length w → at ≡ m * 4) (end : length w < m * 4 → at ≡ length w) where
    pub front_kept : take (m * 4) (put_mid at (length w - at) w v) ≡ take (m * 4) w
    front_kept = elim (dec_le (m * 4) (length w)) [
      | yes h ↦ rw (← cut h) before
      | no h ↦
          let e = end (omega arith) in
          let x = put_mid at (length w - at) w v in
          take_all (m * 4) x (omega (arith, whole_length)) ∙ sym (take_all at x (omega (arith, whole_length))) ∙ before ∙ take_all at w (omega arith)
          ∙ sym (take_all (m * 4) w (omega arith))
    ]

    pub tail-behinds : (size : ℕ) (rs : List Row) → Behinds (mid_of at (length w - at) w) 0 rs v size → Behinds w m rs (put_mid at (length w - at) w v) (m + size)
    tail-behinds size rs h g =
        let e : at ≡ m * 4 = cut (omega arith) in
        let z : (m + size) * 4 ≡ at + size * 4 = omega arith in
        rw (z, ← e) (tail-front (size * 4) (omega (arith, tail-length)) ∙ ap (λ (r : List ℕ). take at w ++ r) (h (omega (arith, kept, tail-length))))
