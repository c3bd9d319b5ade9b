-- A line of a script: its comment and its words.
use Rattle.std.specs.Prelude.{ℕ, zero, suc, Bool, true, false, cond, List, [], ◌∷◌, ◌==◌}
use Rattle.std.specs.Char.{is_ascii_whitespace}
use Rattle.std.specs.List.{before_first}

-- "a `#` starts a comment"
abbrev pub uncommented : List ℕ → List ℕ
uncommented line = before_first (λ b. b == 35) line

-- a word ends here
abbrev pub at_space : List ℕ → Bool
at_space [] = true
at_space (b ∷ bs) = is_ascii_whitespace b

-- the byte b before the words that follow it: white space; the last byte of a word; another byte of the first word
abbrev pub before : Bool → Bool → ℕ → List (List ℕ) → List (List ℕ)
before true ends b ws = ws
before false true b ws = (b ∷ []) ∷ ws
before false false b [] = (b ∷ []) ∷ []
before false false b (w ∷ ws) = (b ∷ w) ∷ ws

-- the words, split at white space: space, tab, line end, form feed, carriage return, but no vertical tab
unfoldable pub words_of : List ℕ → List (List ℕ)
words_of [] = []
words_of (b ∷ bs) = before (is_ascii_whitespace b) (at_space bs) b (words_of bs)

-- what is left behind white space, behind a word, and behind the first n words
unfoldable pub past_space : List ℕ → List ℕ
past_space [] = []
past_space (b ∷ bs) = cond (is_ascii_whitespace b) (past_space bs) (b ∷ bs)

unfoldable pub past_word : List ℕ → List ℕ
past_word [] = []
past_word (b ∷ bs) = cond (is_ascii_whitespace b) (b ∷ bs) (past_word bs)

unfoldable pub past_words : ℕ → List ℕ → List ℕ
past_words zero s = s
past_words (suc n) s = past_word (past_space (past_words n s))
