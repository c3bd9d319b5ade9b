-- What the parts of the parser find in a text.
use Rattle.std.specs.Prelude.{ℕ, ◌-◌, ◌≤◌, ◌≡◌, get_or, take, drop, List, [], ◌∷◌, ◌++◌, length, replicate, Option, None, Some, MatchOption, Result, Ok, Err, MatchResult}
use Rattle.std.specs.Borrow.{Bor}
use Rattle.decimal.specs.declared.NotANumber.{NotANumber}
use Rattle.script.specs.Words.{words_of, past_space, past_word, past_words}
use Rattle.script.specs.Table.{Call, Param, largest_of}
use Rattle.script.specs.Script.{Command, Parsed, Line, Wrong, Listed, wrong_word, over, numbers_from}

-- the first word of a text, and what stands behind it
pub record TakesWord (text first rest : List ℕ) : Type 0 where
  pub word : words_of text ≡ first ∷ words_of rest
  pub left : rest ≡ past_word (past_space text)

abbrev pub NextWord : List ℕ → Option (Bor (List ℕ) × Bor (List ℕ)) → Type 0
NextWord text r = MatchOption r (words_of text ≡ []) (λ x. TakesWord text x.0.now x.1.now)

-- the number of parameter p, behind other numbers and before other parameters, and the text behind it
pub record TakesNumber (text : List ℕ) (call : Call) (p : Param) (n : ℕ) (rest : List ℕ) : Type 0 where
  pub takes : (ps : List Param) (ns : List ℕ) → numbers_from call (p ∷ ps) ns (words_of text) ≡ numbers_from call ps (ns ++ n ∷ []) (words_of rest)
  pub left : rest ≡ past_word (past_space text)

abbrev pub NextNumber : List ℕ → Call → Param → Result (ℕ × Bor (List ℕ)) Wrong → Type 0
NextNumber text call p r =
    MatchResult r (λ x. TakesNumber text call p x.0 x.1.now)
    (λ w. (ps : List Param) (ns : List ℕ) → numbers_from call (p ∷ ps) ns (words_of text) ≡ Err w)

-- all numbers of a call, with zeros up to four, and the text behind them
pub record TakesNumbers (text : List ℕ) (call : Call) (ps : List Param) (four rest : List ℕ) : Type 0 where
  pub numbers : List ℕ
  pub takes : numbers_from call ps [] (words_of text) ≡ Ok (numbers, words_of rest)
  pub padded : four ≡ over numbers (replicate 4 0)
  pub left : rest ≡ past_words (length ps) text

abbrev pub AllNumbers : List ℕ → Call → List Param → Result (List ℕ × Bor (List ℕ)) Wrong → Type 0
AllNumbers text call ps r =
    MatchResult r (λ x. TakesNumbers text call ps x.0 x.1.now) (λ w. numbers_from call ps [] (words_of text) ≡ Err w)

-- word n of a list
abbrev pub word_number : Call → ℕ → Result ℕ NotANumber → Result ℕ Wrong
word_number call n (Err e) = Err (wrong_word call n e)
word_number call n (Ok v) = Ok v

-- how many words of a list were read, or what is wrong with the next
abbrev pub end_with : Option Wrong → ℕ → Result ℕ Wrong
end_with None n = Ok n
end_with (Some w) n = Err w

-- the answer r, with the lent list before and after
pub record ListEnds (l : Listed) (before after : List ℕ) (r : Result ℕ Wrong) : Type 0 where
  pub ends : r ≡ end_with l.wrong (length l.words)
  pub list : after ≡ over l.words before

-- what is wrong with the number of words, if anything
abbrev pub Counts : Option Wrong → Result (Unit {0}) Wrong → Type 0
Counts o r = MatchResult r (λ _. o ≡ None) (λ w. o ≡ Some w)

-- the answer r, with the lent list before and after, is what the definition gives
pub record Parses (p : Parsed) (before after : List ℕ) (r : Line) : Type 0 where
  pub line : r ≡ p.line
  pub list : after ≡ over p.list before

-- the numbers are within the ranges of the call's parameters
abbrev pub Ranged : Command → Type 0
Ranged c = (i : ℕ) → get_or c.numbers i 0 ≤ largest_of c.call i

-- a call that a line says: so many words stand at the start of the lent list, and a text is the line's last bytes
pub record Finds (p : Parsed) (line list : List ℕ) (c : Command) : Type 0 where
  pub words : take c.words list ≡ p.list
  pub listed : c.words ≤ length list
  pub text : drop (length line - c.bytes) line ≡ p.text
  pub texted : c.bytes ≤ length line
  pub ranged : Ranged c
