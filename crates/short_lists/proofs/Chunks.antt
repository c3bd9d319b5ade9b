-- The records of a table as chunks of its words, and tests of all of them. Assumes nothing.
use mathlib.Core.Path.{◌≡◌, refl, sym, ap, ◌∙◌}
use mathlib.Core.Bool.{Bool, true, false, ◌&&◌, and-true}
use mathlib.Core.List.{List, [], ◌∷◌, ◌++◌, map}
use Prim.Native.Nat.{ℕ, zero, suc, ◌+◌, ◌*◌, ◌/◌, ◌<◌}
use native.Mathlib.Omega.{arith}
use lib.ListN.{length, get_or, take, length-append}
use lib.Seq.{take_at, drop-append-add}
use Rattle.std.specs.Slice.Iter.{chunks_exact_steps, chunks_exact_rest, chunks_exact_size}
use Rattle.std.proofs.lemmas.Iterator.{YieldsList}
use Rattle.std.proofs.lemmas.Iterator.Splits.{YieldsList-from_shown_while}
use Rattle.model.specs.Lists.{all, every, up_from}
use Rattle.model.specs.ShortLists.{record_at}

-- `every` from its first number
every-first : (n : ℕ) (f : ℕ → Bool) → every (suc n) f ≡ f 0 && every n (λ i. f (suc i))
unfolding every
every-first zero f = sym (and-true (f 0))
every-first (suc n) f = rw (every-first n f) (regroup (f 0) (every n (λ i. f (suc i))) (f (suc n)))
  where
    regroup : (a b c : Bool) → (a && b) && c ≡ a && (b && c)
    regroup true b c = refl
    regroup false b c = refl

pub all-every : {A : Type 0} (p : A → Bool) (l : List A) (d : A) → all p l ≡ every (length l) (λ i. p (get_or l i d))
all-every p [] d = unfold every in refl
all-every p (x ∷ l) d = rw (all-every p l d) (sym (every-first (length l) (λ i. p (get_or (x ∷ l) i d))))

pub first-record : (x rest : List ℕ) → length x ≡ 8 → record_at (x ++ rest) 0 ≡ x
unfolding record_at
first-record x rest e = take_at x rest 8 e

pub later-record : (x rest : List ℕ) (j : ℕ) → length x ≡ 8 → record_at (x ++ rest) (suc j) ≡ record_at rest j
unfolding record_at
later-record x rest j e =
    let k : suc j * 8 ≡ length x + j * 8 = omega arith in
    rw k (ap (take 8) (drop-append-add x rest (j * 8)))

-- n records from record i on
abbrev pub from : List ℕ → ℕ → ℕ → List (List ℕ)
from ws i n = map (record_at ws) (up_from i n)

later-records : (x rest : List ℕ) (i n : ℕ) → length x ≡ 8 → from (x ++ rest) (suc i) n ≡ from rest i n
later-records x rest i zero e = refl
later-records x rest i (suc n) e = rw (later-record x rest i e, later-records x rest (suc i) n e)

abbrev pub records : List ℕ → List (List ℕ)
records ws = from ws 0 (length ws / 8)

next : (ws x rest : List ℕ) → ws ≡ x ++ rest → length x ≡ 8 → records ws ≡ x ∷ records rest
next ws x rest e l =
    let m = length rest / 8 in
    let n : length (x ++ rest) / 8 ≡ suc m = omega (arith, length-append x rest, l) in
    ap records e
    ∙ ap (from (x ++ rest) 0) n
    ∙ ap (λ (r : List ℕ). r ∷ from (x ++ rest) 1 m) (first-record x rest l)
    ∙ ap (λ (t : List (List ℕ)). x ∷ t) (later-records x rest 0 m l)

none-left : (ws : List ℕ) → length ws < 8 → length (records ws) ≡ 0
none-left ws l = let n : length ws / 8 ≡ 0 = omega arith in rw n

-- what a chain over the chunks yields
pub yields : {s : _} (ws : List ℕ) → chunks_exact_rest s ≡ ws → chunks_exact_size s ≡ 8 → YieldsList chunks_exact_steps (λ x. x.now) s (records ws)
yields {s} ws e size =
    rw (← e)
    (YieldsList-from_shown_while chunks_exact_steps (λ x. x.now) (λ t. records (chunks_exact_rest t)) (λ t. chunks_exact_size t ≡ 8)
    (λ t u h k. none-left (chunks_exact_rest t) (rw (← h) k.1.0))
    (λ t x u h k. (k.0 ∙ h, next (chunks_exact_rest t) x.now (chunks_exact_rest u) k.1.0 (k.1.1 ∙ h)))
    s size)

same-every : (n : ℕ) (f g : ℕ → Bool) → ((i : ℕ) → f i ≡ g i) → every n f ≡ every n g
unfolding every
same-every zero f g h = refl
same-every (suc n) f g h = rw (same-every n f g h, h n)

by-number : (p : List ℕ → Bool) (ws : List ℕ) (i n : ℕ) → all p (from ws i n) ≡ every n (λ j. p (record_at ws (i + j)))
by-number p ws i zero = unfold every in refl
by-number p ws i (suc n) =
    let z : i + 0 ≡ i = omega arith in
    rw (by-number p ws (suc i) n)
    (sym (every-first n (λ j. p (record_at ws (i + j)))
    ∙ rw z (ap (λ (b : Bool). p (record_at ws i) && b) (same-every n (λ j. p (record_at ws (i + suc j))) (λ j. p (record_at ws (suc i + j))) (λ j. let s : i + suc j ≡ suc i + j = omega arith in rw s)))))

pub all-records : (p : List ℕ → Bool) (ws : List ℕ) → all p (records ws) ≡ every (length ws / 8) (λ i. p (record_at ws i))
all-records p ws =
    by-number p ws 0 (length ws / 8)
    ∙ same-every (length ws / 8) (λ j. p (record_at ws (0 + j))) (λ j. p (record_at ws j)) (λ j. let z : 0 + j ≡ j = omega arith in rw z)
