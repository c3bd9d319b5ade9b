-- Effects written into lent words. Assumes nothing.
use Prim.Native.Nat.{ℕ, zero, suc, ◌+◌, ◌*◌, ◌-◌, ◌≤◌, ◌<◌}
use native.Mathlib.Omega.{arith}
use mathlib.Core.Path.{◌≡◌, refl, sym, ap, ◌∙◌}
use mathlib.Core.Bool.{Bool, true, false, cond}
use mathlib.Core.List.{List, [], ◌∷◌, ◌++◌, append_assoc, append-nil}
use lib.Dec.{leb}
use lib.ListN.{length, take, drop, set, replicate, length-append, length-set, take-append-drop}
use lib.Seq.{sets-eq, take_at, drop_at, length-take-le, drop-drop}
use borrow.Author.Tests.{le-leb, lt-leb}
use Rattle.model.specs.declared.Effect.{Effect}
use Rattle.model.specs.Answers.{words_of_effects, lent}
use Rattle.lent_words.specs.PutEffects.{put_effect, put_effects}

-- one effect, where there is room and where there is none
module _ (w : List ℕ) (n : ℕ) (x : Effect) where
  abbrev pub five : List ℕ
  five = x.kind ∷ x.a ∷ x.b ∷ x.c ∷ x.d ∷ []

  pub put-room :
      n * 5 + 5 ≤ length w
      → set (set (set (set (set w (n * 5) x.kind) (n * 5 + 1) x.a) (n * 5 + 2) x.b) (n * 5 + 3) x.c) (n * 5 + 4) x.d ≡ put_effect w n x
  unfolding put_effect
  put-room h = rw (le-leb _ _ h)

  pub put-none : length w < n * 5 + 5 → w ≡ put_effect w n x
  unfolding put_effect
  put-none h = rw (lt-leb _ _ h)

  pub put-words : n * 5 + 5 ≤ length w → put_effect w n x ≡ (take (n * 5) w ++ five) ++ drop (n * 5 + 5) w
  put-words h =
      let e1 : n * 5 + 1 ≡ suc (n * 5) = omega arith in
      let e2 : n * 5 + 2 ≡ suc (suc (n * 5)) = omega arith in
      let e3 : n * 5 + 3 ≡ suc (suc (suc (n * 5))) = omega arith in
      let e4 : n * 5 + 4 ≡ suc (suc (suc (suc (n * 5)))) = omega arith in
      sym (put-room h) ∙ rw (e1, e2, e3, e4) (sets-eq (x.kind ∷ x.a ∷ x.b ∷ x.c ∷ x.d ∷ []) w (n * 5) h)

  pub put-length : length (put_effect w n x) ≡ length w
  unfolding put_effect
  put-length = go (leb (n * 5 + 5) (length w))
    where
      go : (t : Bool) → length (cond t (set (set (set (set (set w (n * 5) x.kind) (n * 5 + 1) x.a) (n * 5 + 2) x.b) (n * 5 + 3) x.c) (n * 5 + 4) x.d) w) ≡ length w
      go true = simp length-set
      go false = refl

-- one after another
pub put-append : (w : List ℕ) (n : ℕ) (xs ys : List Effect) → put_effects w n (xs ++ ys) ≡ put_effects (put_effects w n xs) (n + length xs) ys
unfolding put_effects
put-append w n [] ys = ap (λ (k : ℕ). put_effects w k ys) (omega arith)
put-append w n (x ∷ xs) ys = put-append (put_effect w n x) (suc n) xs ys ∙ ap (λ (k : ℕ). put_effects (put_effects (put_effect w n x) (suc n) xs) k ys) (omega arith)

pub puts-length : (w : List ℕ) (n : ℕ) (xs : List Effect) → length (put_effects w n xs) ≡ length w
unfolding put_effects
puts-length w n [] = refl
puts-length w n (x ∷ xs) = puts-length (put_effect w n x) (suc n) xs ∙ put-length w n x

-- where all fit: the old words, then the effects' words, then the old rest
pub put_all :
    (w : List ℕ) (n : ℕ) (xs : List Effect) → (n + length xs) * 5 ≤ length w
    → put_effects w n xs ≡ (take (n * 5) w ++ words_of_effects xs) ++ drop ((n + length xs) * 5) w
unfolding put_effects words_of_effects
put_all w n [] h =
    let e : (n + 0) * 5 ≡ n * 5 = omega arith in
    rw e (sym (ap (λ (l : List ℕ). l ++ drop (n * 5) w) (append-nil (take (n * 5) w)) ∙ take-append-drop (n * 5) w))
put_all w n (x ∷ xs) h =
    let room : n * 5 + 5 ≤ length w = omega arith in
    let v = put_effect w n x in
    let s = put-words w n x room in
    let k : length (take (n * 5) w ++ five w n x) ≡ suc n * 5 = simp (length-append, length-take-le (n * 5) w (omega arith)) (omega arith) in
    let more : (suc n + length xs) * 5 ≤ length v = omega (arith, put-length w n x) in
    let front : take (suc n * 5) v ≡ take (n * 5) w ++ five w n x = ap (take (suc n * 5)) s ∙ take_at (take (n * 5) w ++ five w n x) (drop (n * 5 + 5) w) (suc n * 5) k in
    let back : drop (suc n * 5) v ≡ drop (n * 5 + 5) w = ap (drop (suc n * 5)) s ∙ drop_at (take (n * 5) w ++ five w n x) (drop (n * 5 + 5) w) (suc n * 5) k in
    let a : suc n * 5 + length xs * 5 ≡ (suc n + length xs) * 5 = omega arith in
    let b : (n * 5 + 5) + length xs * 5 ≡ (n + suc (length xs)) * 5 = omega arith in
    let far : drop ((suc n + length xs) * 5) v ≡ drop ((n + suc (length xs)) * 5) w =
    sym (ap (λ (i : ℕ). drop i v) a) ∙ sym (drop-drop (length xs * 5) (suc n * 5) v) ∙ ap (drop (length xs * 5)) back ∙ drop-drop (length xs * 5) (n * 5 + 5) w ∙ ap (λ (i : ℕ). drop i w) b in
    put_all v (suc n) xs more ∙ ap (λ (l : List ℕ). (l ++ words_of_effects xs) ++ drop ((suc n + length xs) * 5) v) front ∙ ap (λ (l : List ℕ). ((take (n * 5) w ++ five w n x) ++ words_of_effects xs) ++ l) far ∙ ap (λ (l : List ℕ). l ++ drop ((n + suc (length xs)) * 5) w) (append_assoc (take (n * 5) w) (five w n x) (words_of_effects xs))

pub words-length : (xs : List Effect) → length (words_of_effects xs) ≡ length xs * 5
unfolding words_of_effects
words-length [] = refl
words-length (x ∷ xs) = omega (arith, words-length xs)

pub drop-zeros : (k n : ℕ) → drop {A = ℕ} k (replicate n 0) ≡ replicate (n - k) 0
drop-zeros zero n = let e : n ≡ n - 0 = omega arith in ap (λ (k : ℕ). replicate k 0) e
drop-zeros (suc k) zero = let e : 0 ≡ 0 - suc k = omega arith in ap (λ (m : ℕ). replicate m 0) e
drop-zeros (suc k) (suc n) = let e : n - k ≡ suc n - suc k = omega arith in drop-zeros k n ∙ ap (λ (m : ℕ). replicate m 0) e

-- effects written into zeros that have room for them
pub lent-list : (w : List ℕ) (xs : List Effect) → w ≡ replicate (length w) 0 → length xs * 5 ≤ length w → put_effects w 0 xs ≡ lent (length w) (words_of_effects xs)
lent-list w xs z h =
    let e : 0 + length xs ≡ length xs = omega arith in
    rw e at (put_all w 0 xs) h ∙ ap (λ (l : List ℕ). words_of_effects xs ++ drop (length xs * 5) l) z ∙ ap (λ (l : List ℕ). words_of_effects xs ++ l) (drop-zeros (length xs * 5) (length w)) ∙ ap (λ (m : ℕ). words_of_effects xs ++ replicate (length w - m) 0) (sym (words-length xs))
