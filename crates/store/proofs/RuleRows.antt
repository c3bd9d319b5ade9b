-- Tables with a row for each rule: the rows of n rules, and zeros in the places of the others. Assumes nothing.
use mathlib.Core.Path.{◌≡◌, refl, sym, ap, ◌∙◌}
use mathlib.Core.Bool.{true}
use mathlib.Core.List.{List, [], ◌∷◌, ◌++◌, append-nil}
use Prim.Native.Nat.{ℕ, zero, suc, ◌+◌, ◌-◌, ◌*◌, ◌≤◌}
use native.Mathlib.Nat.{add_comm, zero-mul, suc-mul}
use native.Mathlib.Omega.{arith}
use lib.ListN.{length, take, drop, replicate, length-append, length-replicate, replicate-append-replicate, take-append-drop, drop_of_length-le}
use lib.Seq.{take_at, drop_at, drop-drop, length-take-le}
use Rattle.std.proofs.lemmas.Bool.{and_from, and_parts}
use Rattle.model.specs.Layout.{zeros, rows_fit}
use Rattle.model.specs.Codec.{Row, rows_at, words_of, all_good}
use Rattle.model.specs.Store.{filled}
use Rattle.model.proofs.CodecLaws.{rest_of}
use Rattle.model.proofs.RowLaws.{RowLaws, zeros-written, zeros-back, rows-count, rows_long, rows-reads, rows-writes}
use Rattle.rows.proofs.Writing.{Long, words_append}
use Rattle.state.specs.Meaning.{unset_from}
use Rattle.state.proofs.Typed.{good-append}
use Rattle.store.specs.Volatile.{first_of}

module _ {A : Type 0} (r : Row A) (laws : RowLaws r) (b : A) (blank : r.put b ≡ replicate (length r.cells) 0) (good : r.good b ≡ true) where
  abbrev f : ℕ
  f = length r.cells

  takes : Long r
  takes = record { long = laws.long }

  fill-words : (m : ℕ) → words_of r (replicate m b) ≡ replicate (m * f) 0
  unfolding words_of
  fill-words zero = rw zero-mul
  fill-words (suc m) =
      let s : f + m * f ≡ suc m * f = add_comm f (m * f) ∙ sym (suc-mul m f) in
      let e : r.put b ++ words_of r (replicate m b) ≡ replicate f 0 ++ replicate (m * f) 0 = rw (blank, fill-words m) in
      e ∙ replicate-append-replicate f (m * f) 0 ∙ ap (λ (k : ℕ). replicate k 0) s

  fill-good : (m : ℕ) → all_good r (replicate m b) ≡ true
  unfolding all_good
  fill-good zero = refl
  fill-good (suc m) = and_from _ _ good (fill-good m)

  pub good-take : (n : ℕ) (l : List A) → all_good r l ≡ true → all_good r (take n l) ≡ true
  unfolding all_good
  good-take zero l g = refl
  good-take (suc n) [] g = refl
  good-take (suc n) (x ∷ l) g = let (a, c) = and_parts (r.good x) (all_good r l) g in and_from _ _ a (good-take n l c)

  module _ (n : ℕ) (h : n ≤ 64) where
    -- the rows of n rules of l, filled up
    abbrev ruled : List A → List A
    ruled l = filled 64 b (take n l)

    module _ (l : List A) (e₀ : length l ≡ 64) where
      taken : length (take n l) ≡ n
      taken = length-take-le n l (omega arith)

      pub ruled-long : length (ruled l) ≡ 64
      ruled-long = length-append (take n l) (replicate (64 - length (take n l)) b) ∙ rw (length-replicate, taken) (omega arith)

      pub ruled-take : take n (ruled l) ≡ take n l
      ruled-take = take_at (take n l) (replicate (64 - length (take n l)) b) n taken

      pub ruled-good : all_good r l ≡ true → all_good r (ruled l) ≡ true
      ruled-good g = good-append r laws (take n l) (replicate (64 - length (take n l)) b) (good-take n l g) (fill-good (64 - length (take n l)))

      words-taken : length (words_of r (take n l)) ≡ n * f
      words-taken = rows_long r laws (take n l) ∙ ap (λ (k : ℕ). k * f) taken

      -- their words
      pub ruled-words : words_of r (ruled l) ≡ words_of r (take n l) ++ replicate ((64 - n) * f) 0
      ruled-words =
          words_append r takes (take n l) (replicate (64 - length (take n l)) b)
          ∙ ap (λ (x : List ℕ). words_of r (take n l) ++ x) (fill-words (64 - length (take n l)) ∙ ap (λ (k : ℕ). replicate ((64 - k) * f) 0) taken)

      pub words-ruled : first_of (n * f) (words_of r l) ≡ words_of r (ruled l)
      words-ruled =
          let e : words_of r l ≡ words_of r (take n l) ++ words_of r (drop n l) = ap (words_of r) (sym (take-append-drop n l)) ∙ words_append r takes (take n l) (drop n l) in
          let t : take (n * f) (words_of r l) ≡ words_of r (take n l) = ap (take (n * f)) e ∙ take_at (words_of r (take n l)) (words_of r (drop n l)) (n * f) words-taken in
          let k = rest_of n 64 f h in
          let c = rows_long r laws l ∙ ap (λ (x : ℕ). x * f) e₀ in
          let z : length (words_of r l) - n * f ≡ (64 - n) * f = omega arith in
          (λ i. t i ++ replicate (z i) 0) ∙ sym ruled-words

      pub ruled-unset : unset_from n f (words_of r (ruled l)) ≡ true
      ruled-unset =
          ap (λ (x : List ℕ). zeros ((64 - n) * f) (drop (n * f) x)) ruled-words
          ∙ ap (zeros ((64 - n) * f)) (drop_at (words_of r (take n l)) (replicate ((64 - n) * f) 0) (n * f) words-taken)
          ∙ (rw append-nil at (zeros-written ((64 - n) * f) []))

      -- and what is read from them
      module _ (g : all_good r l ≡ true) where
        again : (rows_at r (length (ruled l)) (words_of r (ruled l)) ≡ ruled l) × (rows_fit (length (ruled l)) r.cells (words_of r (ruled l)) ≡ true)
        again = rw append-nil at (rows-reads r laws (ruled l) [] (ruled-good g))

        pub ruled-fit : rows_fit 64 r.cells (words_of r (ruled l)) ≡ true
        ruled-fit = ap (λ (k : ℕ). rows_fit k r.cells (words_of r (ruled l))) (sym ruled-long) ∙ again.1

        pub ruled-read : take n (rows_at r 64 (words_of r (ruled l))) ≡ take n l
        ruled-read = ap (λ (k : ℕ). take n (rows_at r k (words_of r (ruled l)))) (sym ruled-long) ∙ ap (take n) again.0 ∙ ruled-take

    -- words of 64 rows of which those past the rules are unset
    module _ (p : List ℕ) (long : length p ≡ 64 * f) (fit : rows_fit 64 r.cells p ≡ true) where
      rows_are : words_of r (rows_at r 64 p) ≡ p
      rows_are =
          let d : drop (64 * f) p ≡ [] = drop_of_length-le p {i = 64 * f} (omega arith) in
          sym (append-nil (words_of r (rows_at r 64 p))) ∙ ap (λ (x : List ℕ). words_of r (rows_at r 64 p) ++ x) (sym d) ∙ (rows-writes r laws 64 p fit).0

      unset-rows : unset_from n f p ≡ true → p ≡ first_of (n * f) p
      unset-rows z =
          let k = rest_of n 64 f h in
          let d : drop ((64 - n) * f) (drop (n * f) p) ≡ [] = drop-drop ((64 - n) * f) (n * f) p ∙ drop_of_length-le p {i = n * f + (64 - n) * f} (omega arith) in
          let y : replicate ((64 - n) * f) 0 ≡ drop (n * f) p = sym (append-nil (replicate ((64 - n) * f) 0)) ∙ ap (λ (x : List ℕ). replicate ((64 - n) * f) 0 ++ x) (sym d) ∙ zeros-back ((64 - n) * f) (drop (n * f) p) z in
          let c : length p - n * f ≡ (64 - n) * f = omega arith in
          sym (ap (λ (x : ℕ). take (n * f) p ++ replicate x 0) c ∙ ap (λ (x : List ℕ). take (n * f) p ++ x) y ∙ take-append-drop (n * f) p)

      pub unset-ruled : unset_from n f p ≡ true → p ≡ words_of r (ruled (rows_at r 64 p))
      unset-ruled z = unset-rows z ∙ ap (first_of (n * f)) (sym rows_are) ∙ words-ruled (rows_at r 64 p) (rows-count r 64 p)
