-- The script language: one line is one call of a table. What a line says, or what is wrong with it.
use Rattle.std.specs.Prelude.{ℕ, suc, ◌+◌, List, [], ◌∷◌, ◌++◌, length, drop, replicate, get_or, nat_lt, if◌then◌else◌, Option, None, Some, Result, Ok, Err}
use Rattle.std.specs.List.{find}
use Rattle.std.specs.Str.{bytes_eq}
use Rattle.words.specs.Saturating.{max32}
use Rattle.decimal.specs.Numbers.{argument_of}
use Rattle.decimal.specs.declared.NotANumber.{NotANumber}
use Rattle.decimal.specs.declared.NotANumber.TheVariants.{NoNumber, TooLarge}
use Rattle.script.specs.Words.{words_of, uncommented, past_words}
use Rattle.script.specs.Table.{Call, Param, Row, most_of, calls, Tail, Nothing, Words, Parts, Text}
pub use Rattle.script.specs.declared.Command.{Command}
pub use Rattle.script.specs.declared.complain.Wrong.{Wrong}
pub use Rattle.script.specs.declared.complain.Wrong.TheVariants.{NoSuchCall, Missing, NotDecimal, OutOfRange, WordNotDecimal, WordOutOfRange, TooFewWords, TooManyWords, ListTooLong, LineTooLong}

-- a call, nothing, or what is wrong
abbrev pub Line : Type 0
Line = Result (Option Command) Wrong

-- what a line says, with the words of its list that were read and the bytes of its text
pub record Parsed : Type 0 where
  pub line : Line
  pub list : List ℕ
  pub text : List ℕ

abbrev pub plain : Line → Parsed
plain x = record { line = x; list = []; text = [] }

-- the list xs written over the start of ys
abbrev pub over : List ℕ → List ℕ → List ℕ
over xs ys = xs ++ drop (length xs) ys

-- a call, with its numbers and zeros up to four, so many words of a list and so many bytes of a text
unfoldable pub command : Call → List ℕ → ℕ → ℕ → Line
command call ns n k = Ok (Some (record { call = call; numbers = over ns (replicate 4 0); words = n; bytes = k }))

-- NUMBERS ------------------------------------------------------------------------------------------------------------------------
-- a call's numbers and the words behind them, or what is wrong
abbrev pub Numbered : Type 0
Numbered = Result (List ℕ × List (List ℕ)) Wrong

-- what is wrong with a word that was to be a parameter
abbrev pub wrong_number : Call → Param → NotANumber → Wrong
wrong_number call p NoNumber = NotDecimal call p
wrong_number call p TooLarge = OutOfRange call p

-- the number that a parameter was given
abbrev pub with_number : Call → Param → Result ℕ NotANumber → (ℕ → Numbered) → Numbered
with_number call p (Err e) k = Err (wrong_number call p e)
with_number call p (Ok n) k = k n

-- the numbers of these parameters, behind those that are taken
unfoldable pub numbers_from : Call → List Param → List ℕ → List (List ℕ) → Numbered
numbers_from call [] taken ws = Ok (taken, ws)
numbers_from call (p ∷ ps) taken [] = Err (Missing call p)
numbers_from call (p ∷ ps) taken (w ∷ ws) = with_number call p (argument_of (most_of p) w) (λ n. numbers_from call ps (taken ++ n ∷ []) ws)

-- A LIST OF WORDS ------------------------------------------------------------------------------------------------------------------
-- those read, and what is wrong with the next
pub record Listed : Type 0 where
  pub words : List ℕ
  pub wrong : Option Wrong

abbrev pub stopped : Option Wrong → Listed
stopped w = record { words = []; wrong = w }

-- what is wrong with word number i
abbrev pub wrong_word : Call → ℕ → NotANumber → Wrong
wrong_word call i NoNumber = WordNotDecimal call i
wrong_word call i TooLarge = WordOutOfRange call i

abbrev pub listed : Call → ℕ → Result ℕ NotANumber → Listed → Listed
listed call i (Err e) rest = stopped (Some (wrong_word call i e))
listed call i (Ok n) rest = record { words = n ∷ rest.words; wrong = rest.wrong }

-- the words of a list from number i on, where there is room for `room` in all; they are numbered as in document 01, from 0
unfoldable pub list_from : Call → ℕ → ℕ → List (List ℕ) → Listed
list_from call room i [] = stopped None
list_from call room i (w ∷ ws) =
    if nat_lt i room then listed call i (argument_of max32 w) (list_from call room (suc i) ws) else stopped (Some (ListTooLong call room))

-- PARTS OF A LIST --------------------------------------------------------------------------------------------------------------------
-- how many words a call's four numbers want: those behind the first say how many words each part has
abbrev pub wanted_by : List ℕ → ℕ
wanted_by four = get_or four 1 0 + get_or four 2 0 + get_or four 3 0

abbrev pub count_wrong : Call → ℕ → ℕ → Option Wrong
count_wrong call wanted n =
    if nat_lt n wanted then Some (TooFewWords call) else
    (if nat_lt wanted n then Some (TooManyWords call) else None)

abbrev pub first_wrong : Option Wrong → Option Wrong → Option Wrong
first_wrong None w = w
first_wrong (Some v) w = Some v

-- a list of as many words as are wanted; what is wrong with a word comes first
unfoldable pub counted : Call → List ℕ → Listed → Listed
counted call ns l = record { words = l.words; wrong = first_wrong l.wrong (count_wrong call (wanted_by (over ns (replicate 4 0))) (length l.words)) }

-- CALLS ----------------------------------------------------------------------------------------------------------------------------
abbrev pub line_with : Option Wrong → Line → Line
line_with None x = x
line_with (Some w) x = Err w

abbrev pub at_end : Call → List (List ℕ) → Line → Line
at_end call [] x = x
at_end call (w ∷ ws) x = Err (TooManyWords call)

abbrev pub with_list : Call → List ℕ → Listed → Parsed
with_list call ns l = record { line = line_with l.wrong (command call ns (length l.words) 0); list = l.words; text = [] }

abbrev pub with_text : Call → List ℕ → List ℕ → Parsed
with_text call ns text = record { line = command call ns 0 (length text); list = []; text = text }

-- what stands behind n numbers, where the bytes s stand behind the call's name; a text begins behind one blank and goes to their end, as it stands
abbrev pub tailed : Tail → ℕ → ℕ → Call → List ℕ → List ℕ → List (List ℕ) → Parsed
tailed Nothing n room call s ns ws = plain (at_end call ws (command call ns 0 0))
tailed Words n room call s ns ws = with_list call ns (list_from call room 0 ws)
tailed Parts n room call s ns ws = with_list call ns (counted call ns (list_from call room 0 ws))
tailed Text n room call s ns ws = with_text call ns (drop 1 (past_words n s))

unfoldable pub ending : Row → ℕ → Call → List ℕ → List ℕ → List (List ℕ) → Parsed
ending row room call s ns ws = tailed row.tail (length row.params) room call s ns ws

abbrev pub going_on : Numbered → (List ℕ → List (List ℕ) → Parsed) → Parsed
going_on (Err w) k = plain (Err w)
going_on (Ok (ns, ws)) k = k ns ws

unfoldable pub parse_call : Row → ℕ → Call → List ℕ → Parsed
parse_call row room call s = going_on (numbers_from call row.params [] (words_of s)) (ending row room call s)

-- LINES ----------------------------------------------------------------------------------------------------------------------------
unfoldable pub call_named : (Call → Row) → List ℕ → Option Call
call_named t w = find (λ c. bytes_eq (t c).name w) calls

-- what stands behind the name of a call, up to the comment; where a text is taken there is none
abbrev pub comment_of : Tail → List ℕ → List ℕ
comment_of Nothing line = []
comment_of Words line = []
comment_of Parts line = []
comment_of Text line = drop (length (uncommented line)) line

unfoldable pub behind_name : Row → List ℕ → List ℕ
behind_name row line = past_words 1 (uncommented line) ++ comment_of row.tail line

abbrev pub called_by : (Call → Row) → ℕ → List ℕ → Option Call → Parsed
called_by t room line None = plain (Err NoSuchCall)
called_by t room line (Some call) = parse_call (t call) room call (behind_name (t call) line)

abbrev pub parse_words : (Call → Row) → ℕ → List ℕ → List (List ℕ) → Parsed
parse_words t room line [] = plain (Ok None)
parse_words t room line (w ∷ ws) = called_by t room line (call_named t w)

-- a line, with room for so many words of a list
unfoldable pub parse : (Call → Row) → ℕ → List ℕ → Parsed
parse t room line = parse_words t room line (words_of (uncommented line))
