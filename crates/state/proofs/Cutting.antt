-- Words cut into pieces: what a piece is, and what the pieces are after one was written. Assumes nothing.
use mathlib.Core.Path.{◌≡◌, refl, sym, ap, ◌∙◌}
use mathlib.Core.List.{List, [], ◌∷◌, ◌++◌, append_assoc}
use Prim.Native.Nat.{ℕ, zero, suc, ◌+◌, ◌-◌, ◌*◌, ◌≤◌, ◌<◌}
use native.Mathlib.Nat.{add-zero, zero-add, zero-mul, suc-mul, add_assoc, mul-le-mul_right}
use native.Mathlib.Omega.{arith}
use lib.ListN.{length, get_or, take, drop, set, replicate, length-append, length-drop, take-append-drop}
use lib.Seq.{take_at, drop_at, drop-drop, take-add, take-append-le, drop-append-le, length-take-le, take-take, drop-append-add, get_or-take}
use borrow.Rule.Slice.PartMut.{put_mid, post_of, Post-is}
use Rattle.std.proofs.lemmas.List.{drop-take, take-replicate}
use Rattle.model.specs.Lists.{flatten}
use Rattle.rows.specs.Places.{laid}
use Rattle.rows.proofs.Writing.{laid-long}
use Rattle.state.specs.Cuts.{cut, sum}

-- WORDS WRITTEN ---------------------------------------------------------------------------------------------------------------------------
laid-front : (n k : ℕ) (w ys : List ℕ) → n + k ≤ length w → take n (laid w (n + k) ys) ≡ take n w
unfolding laid
laid-front n k w ys h =
    let l : n ≤ length (take (n + k) w) = rw (length-take-le (n + k) w h) (omega arith) in
    let m : n ≤ length (take (n + k) w ++ ys) = rw (length-append (take (n + k) w) ys) (omega arith) in
    take-append-le n (take (n + k) w ++ ys) (drop (n + k + length ys) w) m ∙ take-append-le n (take (n + k) w) ys l ∙ take-take n (n + k) w (omega arith)

pub laid-drop : (n k : ℕ) (w ys : List ℕ) → n + k ≤ length w → drop n (laid w (n + k) ys) ≡ laid (drop n w) k ys
unfolding laid
laid-drop n k w ys h =
    let l : n ≤ length (take (n + k) w) = rw (length-take-le (n + k) w h) (omega arith) in
    let m : n ≤ length (take (n + k) w ++ ys) = rw (length-append (take (n + k) w) ys) (omega arith) in
    drop-append-le n (take (n + k) w ++ ys) (drop (n + k + length ys) w) m
    ∙ ap (λ (z : List ℕ). z ++ drop (n + k + length ys) w) (drop-append-le n (take (n + k) w) ys l ∙ ap (λ (z : List ℕ). z ++ ys) (drop-take n k w))
    ∙ ap (λ (z : List ℕ). (take k (drop n w) ++ ys) ++ z) (ap (λ (i : ℕ). drop i w) (add_assoc n k (length ys)) ∙ sym (drop-drop (k + length ys) n w))

-- what stands behind the words written, and before them, stands
pub laid-behind : (w : List ℕ) (k : ℕ) (ys : List ℕ) (m : ℕ) → k + length ys ≤ m → k ≤ length w → drop m (laid w k ys) ≡ drop m w
unfolding laid
laid-behind w k ys m a b =
    let l : length (take k w ++ ys) ≡ k + length ys = length-append (take k w) ys ∙ rw (length-take-le k w b) in
    let e : m ≡ length (take k w ++ ys) + (m - (k + length ys)) = rw l (omega arith) in
    ap (λ (i : ℕ). drop i (take k w ++ ys ++ drop (k + length ys) w)) e
    ∙ drop-append-add (take k w ++ ys) (drop (k + length ys) w) (m - (k + length ys))
    ∙ drop-drop (m - (k + length ys)) (k + length ys) w
    ∙ ap (λ (i : ℕ). drop i w) (let q : k + length ys + (m - (k + length ys)) ≡ m = omega arith in q)

pub word-before : (w : List ℕ) (k : ℕ) (ys : List ℕ) (m : ℕ) → m < k → k ≤ length w → get_or (laid w k ys) m 0 ≡ get_or w m 0
word-before w k ys m a b =
    sym (get_or-take k (laid w k ys) m 0 a) ∙ ap (λ (l : List ℕ). get_or l m 0) (rw add-zero at (laid-front k 0 w ys (omega arith))) ∙ get_or-take k w m 0 a

-- PIECES ----------------------------------------------------------------------------------------------------------------------------------
pub cut-long : (ns w : List ℕ) → length (cut ns w) ≡ length ns
unfolding cut
cut-long [] w = refl
cut-long (n ∷ ns) w = ap suc (cut-long ns (drop n w))

pub cut_at : (ns w : List ℕ) (t : ℕ) → t < length ns → get_or (cut ns w) t [] ≡ take (get_or ns t 0) (drop (sum (take t ns)) w)
unfolding cut
cut_at [] w t h = absurd (omega arith)
cut_at (n ∷ ns) w zero h = refl
cut_at (n ∷ ns) w (suc t) h = cut_at ns (drop n w) t (omega arith) ∙ ap (take (get_or ns t 0)) (drop-drop (sum (take t ns)) n w)

-- each piece stands within the words, and has its size
pub piece-end : (ns : List ℕ) (t : ℕ) → t < length ns → sum (take t ns) + get_or ns t 0 ≤ sum ns
piece-end [] t h = absurd (omega arith)
piece-end (n ∷ ns) zero h = omega arith
piece-end (n ∷ ns) (suc t) h = let p = piece-end ns t (omega arith) in omega arith

pub piece-long : (ns w : List ℕ) (t : ℕ) → t < length ns → sum ns ≤ length w → length (take (get_or ns t 0) (drop (sum (take t ns)) w)) ≡ get_or ns t 0
piece-long ns w t h s =
    let p = piece-end ns t h in
    length-take-le (get_or ns t 0) (drop (sum (take t ns)) w) (rw (length-drop (sum (take t ns)) w) (omega arith))

first : (w ys : List ℕ) (n : ℕ) → length ys ≡ n → laid w 0 ys ≡ ys ++ drop n w
unfolding laid
first w ys n l = ap (λ (i : ℕ). ys ++ drop i w) (zero-add (length ys) ∙ l)

-- one piece written: the law of the whole layout
pub cut-laid : (ns w ys : List ℕ) (t : ℕ) → t < length ns → length ys ≡ get_or ns t 0 → sum ns ≤ length w → cut ns (laid w (sum (take t ns)) ys) ≡ set (cut ns w) t ys
unfolding cut
cut-laid [] w ys t h l s = absurd (omega arith)
cut-laid (n ∷ ns) w ys zero h l s =
    let e : laid w 0 ys ≡ ys ++ drop n w = first w ys n l in
    ap (λ (z : List ℕ). take n z ∷ cut ns (drop n z)) e ∙ rw (take_at ys (drop n w) n l, drop_at ys (drop n w) n l)
cut-laid (n ∷ ns) w ys (suc t) h l s =
    let k : n + sum (take t ns) ≤ length w = (let p = piece-end ns t (omega arith) in omega arith) in
    let m : sum ns ≤ length (drop n w) = rw (length-drop n w) (omega arith) in
    ap (λ (z : List ℕ). z ∷ cut ns (drop n (laid w (n + sum (take t ns)) ys))) (laid-front n (sum (take t ns)) w ys k)
    ∙ ap (λ (z : List ℕ). take n w ∷ cut ns z) (laid-drop n (sum (take t ns)) w ys k)
    ∙ ap (λ (z : List (List ℕ)). take n w ∷ z) (cut-laid ns (drop n w) ys t (omega arith) l m)

-- all pieces, and what is behind them
pub cut-whole : (ns w : List ℕ) → flatten (cut ns w) ++ drop (sum ns) w ≡ w
unfolding cut
cut-whole [] w = refl
cut-whole (n ∷ ns) w =
    append_assoc (take n w) (flatten (cut ns (drop n w))) (drop (n + sum ns) w)
    ∙ ap (λ (z : List ℕ). take n w ++ (flatten (cut ns (drop n w)) ++ z)) (sym (drop-drop (sum ns) n w))
    ∙ ap (λ (z : List ℕ). take n w ++ z) (cut-whole ns (drop n w))
    ∙ take-append-drop n w

-- the first pieces are the first words
pub cut-first : (ns w : List ℕ) (j : ℕ) → flatten (take j (cut ns w)) ≡ take (sum (take j ns)) w
unfolding cut
cut-first ns w zero = refl
cut-first [] w (suc j) = refl
cut-first (n ∷ ns) w (suc j) = ap (λ (z : List ℕ). take n w ++ z) (cut-first ns (drop n w) j) ∙ sym (take-add n (sum (take j ns)) w)

-- PIECES OF ONE SIZE ------------------------------------------------------------------------------------------------------------------------
pub sum_same : (n f : ℕ) → sum (replicate n f) ≡ n * f
sum_same zero f = sym (zero-mul f)
sum_same (suc n) f = ap (λ (k : ℕ). f + k) (sum_same n f) ∙ let e = suc-mul n f in omega (arith, e)

pub sum_first : (n f j : ℕ) → j ≤ n → sum (take j (replicate n f)) ≡ j * f
sum_first n f j h = ap sum (take-replicate j n f h) ∙ sum_same j f

pub size_same : (n f j : ℕ) → j < n → get_or (replicate {A = ℕ} n f) j 0 ≡ f
size_same zero f j h = absurd (omega arith)
size_same (suc n) f zero h = refl
size_same (suc n) f (suc j) h = size_same n f j (omega arith)

pub row-end : (i n f : ℕ) → i < n → i * f + f ≤ n * f
row-end i n f h = let m = mul-le-mul_right {m = suc i} {n = n} f (omega arith) in let e = suc-mul i f in omega (arith, m, e)

-- words written over the first of those that stand behind others
pub laid-mid : (xs ys zs vs : List ℕ) (k : ℕ) → length xs ≡ k → length vs ≡ length ys → laid (xs ++ (ys ++ zs)) k vs ≡ xs ++ (vs ++ zs)
unfolding laid
laid-mid xs ys zs vs k e l =
    let a : take k (xs ++ (ys ++ zs)) ≡ xs = take_at xs (ys ++ zs) k e in
    let b : drop (k + length vs) (xs ++ (ys ++ zs)) ≡ zs = sym (drop-drop (length vs) k (xs ++ (ys ++ zs))) ∙ rw (drop_at xs (ys ++ zs) k e) (drop_at ys zs (length vs) (sym l)) in
    rw (a, b) (append_assoc xs vs zs)

-- a part that was lent comes back
pub part-laid : (w v : List ℕ) (a k : ℕ) → length v ≡ k → put_mid a k w v ≡ laid w a v
unfolding laid
part-laid w v a k e =
    let n : a + length v - a ≡ k = omega arith in
    let p : post_of a k w ≡ drop (a + length v) w = ap (λ (m : ℕ). post_of a m w) (sym n) ∙ Post-is a (a + length v) w (omega arith) in
    sym (append_assoc (take a w) v (post_of a k w)) ∙ ap (λ (l : List ℕ). take a w ++ v ++ l) p

-- words written within a part are the part, written
pub laid-within : (w ys : List ℕ) (a j k : ℕ) → a + k ≤ length w → j + length ys ≤ k → laid w (a + j) ys ≡ laid w a (laid (take k (drop a w)) j ys)
unfolding laid
laid-within w ys a j k h l =
    let m = length ys in
    let p = take k (drop a w) in
    let long : length p ≡ k = length-take-le k (drop a w) (rw (length-drop a w) (omega arith)) in
    let end : length (take j p ++ ys ++ drop (j + m) p) ≡ k = laid-long p j ys (rw long l) ∙ long in
    let rest : k ≡ (j + m) + (k - (j + m)) = omega arith in
    let back : drop (j + m) p ≡ take (k - (j + m)) (drop (j + m) (drop a w)) = ap (λ (i : ℕ). drop (j + m) (take i (drop a w))) rest ∙ drop-take (j + m) (k - (j + m)) (drop a w) in
    let behind : drop (a + length (take j p ++ ys ++ drop (j + m) p)) w ≡ drop (k - (j + m)) (drop (j + m) (drop a w)) =
    ap (λ (i : ℕ). drop (a + i) w) end ∙ sym (drop-drop k a w) ∙ ap (λ (i : ℕ). drop i (drop a w)) rest ∙ sym (drop-drop (k - (j + m)) (j + m) (drop a w)) in
    let front : take (a + j) w ≡ take a w ++ take j p = take-add a j w ∙ ap (λ (z : List ℕ). take a w ++ z) (sym (take-take j k (drop a w) (omega arith))) in
    let last : drop (a + j + m) w ≡ drop (j + m) (drop a w) = ap (λ (i : ℕ). drop i w) (add_assoc a j m) ∙ sym (drop-drop (j + m) a w) in
    ap (λ (z : List ℕ). z ++ ys ++ drop (a + j + m) w) front
    ∙ ap (λ (z : List ℕ). (take a w ++ take j p) ++ ys ++ z) (last ∙ sym (take-append-drop (k - (j + m)) (drop (j + m) (drop a w))))
    ∙ regroup (take a w) (take j p) ys (take (k - (j + m)) (drop (j + m) (drop a w))) (drop (k - (j + m)) (drop (j + m) (drop a w)))
    ∙ ap (λ (z : List ℕ). take a w ++ (take j p ++ ys ++ z) ++ drop (k - (j + m)) (drop (j + m) (drop a w))) (sym back)
    ∙ ap (λ (z : List ℕ). take a w ++ (take j p ++ ys ++ drop (j + m) p) ++ z) (sym behind)
  where
    regroup : (a b c d e : List ℕ) → (a ++ b) ++ c ++ (d ++ e) ≡ a ++ (b ++ c ++ d) ++ e
    regroup a b c d e = simp append_assoc
