-- What the player prints: document 01, "Outcomes and effects", and the answers of the other calls. Each line ends.
use Rattle.std.specs.Prelude.{ℕ, Bool, List, [], ◌∷◌, ◌++◌, ◌==◌, if◌then◌else◌, Option, None, Some}
use Rattle.std.specs.Fmt.{decimal, signed_decimal}
use Rattle.words.specs.Saturating.{max32, max64}
use Rattle.words.specs.Signed.{signed32}
use Rattle.model.specs.Text.{bytes_of}
use Rattle.script.specs.Table.{Call, rows, param_name, most_of}
use Rattle.script.specs.Script.{Wrong, NoSuchCall, Missing, NotDecimal, OutOfRange, WordNotDecimal, WordOutOfRange, TooFewWords, TooManyWords, ListTooLong, LineTooLong}

-- NUMBERS ------------------------------------------------------------------------------------------------------------------------
-- numbers in decimal digits, each behind a space
abbrev pub numbers : List ℕ → List ℕ
numbers [] = []
numbers (n ∷ ns) = (32 ∷ decimal n) ++ numbers ns

-- a signed word behind a space
abbrev pub signed : ℕ → List ℕ
signed w = 32 ∷ signed_decimal (signed32 w)

-- LINES --------------------------------------------------------------------------------------------------------------------------
-- a word, and what stands behind it: numbers, or a few words more
abbrev pub line : List ℕ → List ℕ → List ℕ
line name rest = name ++ (rest ++ bytes_of "\n")

abbrev pub call_name : Call → List ℕ
call_name call = (rows call).name

-- "prints call, time and number of outcomes"
abbrev pub handled_line : Call → ℕ → ℕ → List ℕ
handled_line call time count = line (call_name call) (numbers (time ∷ count ∷ []))

abbrev pub enabled_line : ℕ → Bool → List ℕ
enabled_line rule found = line (bytes_of "enable") (numbers (rule ∷ []) ++ (if found then bytes_of " yes" else bytes_of " no"))

abbrev pub deadline_line : Option ℕ → List ℕ
deadline_line None = line (bytes_of "deadline") (bytes_of " none")
deadline_line (Some time) = line (bytes_of "deadline") (numbers (time ∷ []))

abbrev pub peek_line : ℕ → ℕ → List ℕ
peek_line place word = line (bytes_of "peek") (numbers (place ∷ word ∷ []))

-- a refusal of any call
abbrev pub refused_line : Call → ℕ → List ℕ
refused_line call number = line (call_name call) (bytes_of " refused" ++ numbers (number ∷ []))

-- BAD TEXT -----------------------------------------------------------------------------------------------------------------------
-- a number over the largest
abbrev pub over_text : ℕ → List ℕ
over_text most =
    if most == max64 then bytes_of " does not fit into 64 bits" else
    (if most == max32 then bytes_of " does not fit into 32 bits" else
    (if most == 1 then bytes_of " is neither 0 nor 1" else
    (bytes_of " is over" ++ numbers (most ∷ []))))

abbrev pub of_call : Call → List ℕ → List ℕ
of_call call l = call_name call ++ (bytes_of ": " ++ l)

abbrev pub wrong_text : Wrong → List ℕ
wrong_text NoSuchCall = bytes_of "no such call"
wrong_text (Missing call p) = of_call call (param_name p ++ bytes_of " is missing")
wrong_text (NotDecimal call p) = of_call call (param_name p ++ bytes_of " is no decimal number")
wrong_text (OutOfRange call p) = of_call call (param_name p ++ over_text (most_of p))
wrong_text (WordNotDecimal call k) = of_call call (bytes_of "word" ++ (numbers (k ∷ []) ++ bytes_of " is no decimal number"))
wrong_text (WordOutOfRange call k) = of_call call (bytes_of "word" ++ (numbers (k ∷ []) ++ bytes_of " does not fit into 32 bits"))
wrong_text (TooFewWords call) = of_call call (bytes_of "a word too few")
wrong_text (TooManyWords call) = of_call call (bytes_of "a word too many")
wrong_text (ListTooLong call room) = of_call call (bytes_of "more than" ++ (numbers (room ∷ []) ++ bytes_of " words"))
wrong_text LineTooLong = bytes_of "line too long"

-- "one clear line that names the line number"
abbrev pub wrong_line : ℕ → Wrong → List ℕ
wrong_line number w = line (bytes_of "line") (numbers (number ∷ []) ++ (bytes_of ": " ++ wrong_text w))
