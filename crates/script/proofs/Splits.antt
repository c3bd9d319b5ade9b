-- A text cut into its words. Assumes nothing.
use Rattle.std.proofs.Common.{◌≡◌, ℕ, zero, suc, ◌+◌, ◌<◌, ◌≤◌, Bool, true, false, not, cond, List, [], ◌∷◌, ◌++◌, length, take, drop, get_or, None, Some, ltb, refl, sym, ap, ◌∙◌, arith, get_or-drop, add-zero, append_assoc}
use lib.ListN.{take-append-drop}
use borrow.Author.Tests.{ltb-false}
use Rattle.std.specs.Char.{is_ascii_whitespace}
use Rattle.std.specs.Str.{IsAsciiWhitespaceBelow, IsTrimAsciiStart}
use Rattle.std.specs.List.{position_or_len, position}
use Rattle.std.specs.Option.{unwrap_or}
use Rattle.script.specs.Words.{before, words_of, past_space, past_word, past_words}
use Rattle.script.specs.Scan.{TakesWord}

-- the place of the first that passes, or the length
pub position_within : {X : Type 0} (p : X → Bool) (xs : List X) → position_or_len p xs ≤ length xs
position_within p [] = omega arith
position_within p (x ∷ xs) = go (p x) (position_within p xs)
  where
    go : (b : Bool) → position_or_len p xs ≤ length xs → cond (not b) (1 + position_or_len p xs) 0 ≤ suc (length xs)
    go true h = omega arith
    go false h = omega arith

pub position_or_end : {X : Type 0} (p : X → Bool) (xs : List X) → unwrap_or (position p xs) (length xs) ≡ position_or_len p xs
position_or_end p xs = go (ltb (position_or_len p xs) (length xs)) refl
  where
    go : (b : Bool) → ltb (position_or_len p xs) (length xs) ≡ b → unwrap_or (cond b (Some (position_or_len p xs)) None) (length xs) ≡ position_or_len p xs
    go true e = refl
    go false e = omega (arith, ltb-false (position_or_len p xs) (length xs) e, position_within p xs)

abbrev word_len : List ℕ → ℕ
word_len l = position_or_len is_ascii_whitespace l

-- a word goes to the next white space
first_word : (b : ℕ) (bs : List ℕ) → is_ascii_whitespace b ≡ false → words_of (b ∷ bs) ≡ (b ∷ take (word_len bs) bs) ∷ words_of (drop (word_len bs) bs)
unfolding words_of
first_word b [] e = rw e
first_word b (c ∷ cs) e = go (is_ascii_whitespace c) refl (first_word c cs)
  where
    to : ℕ → List (List ℕ)
    to k = (b ∷ take k (c ∷ cs)) ∷ words_of (drop k (c ∷ cs))

    go : (x : Bool) → is_ascii_whitespace c ≡ x
        → (is_ascii_whitespace c ≡ false → words_of (c ∷ cs) ≡ (c ∷ take (word_len cs) cs) ∷ words_of (drop (word_len cs) cs))
        → words_of (b ∷ c ∷ cs) ≡ to (word_len (c ∷ cs))
    go true f h = rw (e, f) (rw f refl)
    go false f h =
        let g = rw f at (h f) in
        let one : suc (word_len cs) ≡ 1 + word_len cs = omega arith in
        rw (e, f) (ap (before false false b) g ∙ ap to one)

past_first : (l : List ℕ) → past_word l ≡ drop (word_len l) l
unfolding past_word
past_first [] = refl
past_first (b ∷ bs) = go (is_ascii_whitespace b) (past_first bs)
  where
    go : (x : Bool) → past_word bs ≡ drop (word_len bs) bs → cond x (b ∷ bs) (past_word bs) ≡ drop (cond (not x) (1 + word_len bs) 0) (b ∷ bs)
    go true h = refl
    go false h = let one : suc (word_len bs) ≡ 1 + word_len bs = omega arith in h ∙ ap (λ (k : ℕ). drop k (b ∷ bs)) one

-- white space in front of a text holds no word
words-past : (n : ℕ) (s : List ℕ) → IsAsciiWhitespaceBelow s n → words_of (drop n s) ≡ words_of s
unfolding words_of
words-past zero s w = refl
words-past (suc n) [] w = refl
words-past (suc n) (b ∷ bs) w = rw (w 0 (omega arith)) (words-past n bs (λ i h. w (suc i) (omega arith)))

space-past : (n : ℕ) (s : List ℕ) → IsAsciiWhitespaceBelow s n → (n < length s → is_ascii_whitespace (get_or s n 0) ≡ false) → drop n s ≡ past_space s
unfolding past_space
space-past zero [] w e = refl
space-past zero (b ∷ bs) w e = rw (e (omega arith)) refl
space-past (suc n) [] w e = refl
space-past (suc n) (b ∷ bs) w e = rw (w 0 (omega arith)) (space-past n bs (λ i h. w (suc i) (omega arith)) (λ h. e (omega arith)))

module _ (s r : List ℕ) (t : IsTrimAsciiStart s r) where
  ahead : words_of r ≡ words_of s
  ahead = ap words_of t.1 ∙ words-past t.0 s t.3

  pub no_word : length r ≡ 0 → words_of s ≡ []
  unfolding words_of
  no_word e = go r refl
    where
      go : (l : List ℕ) → l ≡ r → words_of s ≡ []
      go [] f = sym ahead ∙ ap words_of (sym f)
      go (b ∷ bs) f = absurd (omega (arith, ap length f))

  pub takes_word : (length r ≡ 0 → ⊥) → TakesWord s (take (word_len r) r) (drop (word_len r) r)
  takes_word ne = go r refl
    where
      go : (l : List ℕ) → l ≡ r → TakesWord s (take (word_len l) l) (drop (word_len l) l)
      go [] f = absurd (ne (ap length (sym f)))
      go (b ∷ bs) f =
          let some : t.0 < length s = omega (arith, ap length f, t.2) in
          let e : is_ascii_whitespace b ≡ false = rw (ap (λ (l : List ℕ). get_or l 0 0) (f ∙ t.1), get_or-drop, add-zero) (t.4 some) in
          let one : suc (word_len bs) ≡ word_len (b ∷ bs) = rw e (omega arith) in
          record {
            word = sym ahead ∙ (ap words_of (sym f) ∙ first_word b bs e) ∙ ap (λ (k : ℕ). take k (b ∷ bs) ∷ words_of (drop k (b ∷ bs))) one;
            left = sym (past_first (b ∷ bs)) ∙ ap past_word (f ∙ t.1 ∙ space-past t.0 s t.3 t.4);
          }

-- ENDS OF A TEXT ------------------------------------------------------------------------------------------------------------------
pub record EndOf (s r : List ℕ) : Type 0 where
  pub front : List ℕ
  pub whole : s ≡ front ++ r

pub end-itself : (s : List ℕ) → EndOf s s
end-itself s = record { front = []; whole = refl }

pub end-then : {s r q : List ℕ} → EndOf s r → EndOf r q → EndOf s q
end-then {s} {r} {q} a b =
    record { front = a.front ++ b.front; whole = a.whole ∙ (ap (λ (z : List ℕ). a.front ++ z) b.whole ∙ sym (append_assoc a.front b.front q)) }

end_more : (b : ℕ) {s r : List ℕ} → EndOf s r → EndOf (b ∷ s) r
end_more b a = record { front = b ∷ a.front; whole = ap (λ (z : List ℕ). b ∷ z) a.whole }

pub end-space : (s : List ℕ) → EndOf s (past_space s)
unfolding past_space
end-space [] = end-itself []
end-space (b ∷ bs) = go (is_ascii_whitespace b) (end-space bs)
  where
    go : (x : Bool) → EndOf bs (past_space bs) → EndOf (b ∷ bs) (cond x (past_space bs) (b ∷ bs))
    go true e = end_more b e
    go false e = end-itself (b ∷ bs)

pub end-word : (s : List ℕ) → EndOf s (past_word s)
unfolding past_word
end-word [] = end-itself []
end-word (b ∷ bs) = go (is_ascii_whitespace b) (end-word bs)
  where
    go : (x : Bool) → EndOf bs (past_word bs) → EndOf (b ∷ bs) (cond x (b ∷ bs) (past_word bs))
    go true e = end-itself (b ∷ bs)
    go false e = end_more b e

pub end-words : (n : ℕ) (s : List ℕ) → EndOf s (past_words n s)
unfolding past_words
end-words zero s = end-itself s
end-words (suc n) s = end-then (end-words n s) (end-then (end-space (past_words n s)) (end-word (past_space (past_words n s))))

pub end-drop : (k : ℕ) (s : List ℕ) → EndOf s (drop k s)
end-drop k s = record { front = take k s; whole = sym (take-append-drop k s) }

-- what was taken, and the rest
pub cut-rest : (n : ℕ) (l : List ℕ) → take n l ++ drop (length (take n l)) l ≡ l
cut-rest zero l = refl
cut-rest (suc n) [] = refl
cut-rest (suc n) (b ∷ bs) = ap (λ (z : List ℕ). b ∷ z) (cut-rest n bs)
