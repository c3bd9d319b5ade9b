-- Worked examples of the language, computed. Assumes nothing.
use Rattle.std.proofs.Common.{◌≡◌, ℕ, [], ◌∷◌, ◌++◌, map, length, true, None, Some, Ok, Err, refl}
use Prim.Native.String.{String}
use Rattle.std.specs.Fmt.{digits}
use Rattle.model.specs.Text.{bytes_of}
use Rattle.model.specs.Digits.{is_digit, value_from}
use Rattle.decimal.specs.Numbers.{argument_of}
use Rattle.script.specs.Words.{words_of, past_space, past_word, past_words}
use Rattle.script.specs.Table.{Call, New, Load, Enable, Tick, Run, Lend, Peek, Crontab, ShortList, Readback, Row, row, rows, calls as all_calls, Words}
use Rattle.script.specs.declared.calls.Param.TheVariants.{Time, Rule, Mark, OutcomeWords, Place, Word, Sunday, TriggerWords, ActionWords, StartWords}
use Rattle.script.specs.Script.{Parsed, Line, Wrong, plain, command, call_named, parse, parse_call, numbers_from, ending, behind_name, list_from, counted}
use Rattle.script.specs.Script.{NoSuchCall, Missing, NotDecimal, OutOfRange, WordNotDecimal, WordOutOfRange, TooFewWords, TooManyWords, ListTooLong, LineTooLong}
use Rattle.script.specs.Print.{numbers, signed, line, handled_line, enabled_line, deadline_line, peek_line, refused_line, wrong_line}

-- a line, with room for four words of a list
says_of : (Call → Row) → String → Parsed
unfolding parse parse_call call_named all_calls numbers_from ending behind_name list_from command words_of past_space past_word past_words is_digit value_from argument_of
says_of t s = parse t 4 (bytes_of s)

says : String → Parsed
unfolding says_of
says s = says_of rows s

-- a call with two numbers and so many words of a list
made : Call → ℕ → ℕ → ℕ → Line
made call a b n = Ok (Some (record { call = call; numbers = a ∷ b ∷ 0 ∷ 0 ∷ []; words = n; bytes = 0 }))

calls :
    map says
    (" # new 5" ∷ "\tnew 18446744073709551615#5" ∷ "new 000000000000000000000000001\r\n" ∷ "enable 4294967295 1" ∷ "run 5 0" ∷ "load 7 1 2 3 4" ∷ "readback 5 16384 9" ∷ [])
    ≡ plain (Ok None) ∷ plain (made New 18446744073709551615 0 0) ∷ plain (made New 1 0 0) ∷ plain (made Enable 4294967295 1 0) ∷ plain (made Run 5 0 0)
    ∷ record { line = made Load 7 0 4; list = 1 ∷ 2 ∷ 3 ∷ 4 ∷ []; text = [] }
    ∷ record { line = made Readback 5 16384 1; list = 9 ∷ []; text = [] } ∷ []
unfolding says made
calls = refl

wrong :
    map says
    ("fly" ∷ "new" ∷ "new x" ∷ "new 18446744073709551616" ∷ "enable 5 2" ∷ "enable 4294967296 1" ∷ "new 1 2" ∷ "peek 16384" ∷ "readback 5 16385" ∷ [])
    ≡ map (λ (w : Wrong). plain (Err w))
    (NoSuchCall ∷ Missing New Time ∷ NotDecimal New Time ∷ OutOfRange New Time ∷ OutOfRange Enable Mark ∷ OutOfRange Enable Rule ∷ TooManyWords New ∷ OutOfRange Peek Place ∷ OutOfRange Readback StartWords ∷ [])
unfolding says
wrong = refl

wrong-lists :
    map says ("tick 1 +1" ∷ "tick 1 4294967296 x" ∷ "load 0 1 2 3 4 x" ∷ [])
    ≡ record { line = Err (WordNotDecimal Tick 1); list = 1 ∷ []; text = [] } ∷ record { line = Err (WordOutOfRange Tick 1); list = 1 ∷ []; text = [] }
    ∷ record { line = Err (ListTooLong Load 4); list = 1 ∷ 2 ∷ 3 ∷ 4 ∷ []; text = [] } ∷ []
unfolding says
wrong-lists = refl

-- a call that takes a text: what would be a comment belongs to it
said : String → Parsed
said t = record { line = Ok (Some (record { call = Crontab; numbers = 6 ∷ 16 ∷ 0 ∷ 0 ∷ []; words = 0; bytes = length (bytes_of t) })); list = []; text = bytes_of t }

texts :
    map says ("crontab 6 16 # 5 * # x" ∷ "crontab 6  16" ∷ "crontab 6 16 " ∷ "crontab 6 16  a" ∷ [])
    ≡ map said ("# 5 * # x" ∷ "" ∷ "" ∷ " a" ∷ [])
unfolding says said
texts = refl

wrong-texts :
    map says ("crontab # 5" ∷ "crontab 6 16#x" ∷ "crontab#6 16 x" ∷ "crontab 6" ∷ "crontab 6 16385 x" ∷ "crontab 4294967296 8 x" ∷ [])
    ≡ map (λ (w : Wrong). plain (Err w)) (NotDecimal Crontab Sunday ∷ NotDecimal Crontab TriggerWords ∷ NotDecimal Crontab Sunday ∷ Missing Crontab TriggerWords ∷ OutOfRange Crontab TriggerWords ∷ OutOfRange Crontab Sunday ∷ [])
unfolding says
wrong-texts = refl

-- a call whose numbers say how many words follow
parts :
    map says ("shortlist 17 2 0 1 7 8 9" ∷ "shortlist 17 0 0 0 # 5" ∷ "shortlist 17 2 0 1 7 8" ∷ "shortlist 17 1 0 1 7 8 9" ∷ "shortlist 17 1 0 9 x" ∷ "shortlist 17 8193" ∷ [])
    ≡ record { line = Ok (Some (record { call = ShortList; numbers = 17 ∷ 2 ∷ 0 ∷ 1 ∷ []; words = 3; bytes = 0 })); list = 7 ∷ 8 ∷ 9 ∷ []; text = [] }
    ∷ plain (Ok (Some (record { call = ShortList; numbers = 17 ∷ 0 ∷ 0 ∷ 0 ∷ []; words = 0; bytes = 0 })))
    ∷ record { line = Err (TooFewWords ShortList); list = 7 ∷ 8 ∷ []; text = [] }
    ∷ record { line = Err (TooManyWords ShortList); list = 7 ∷ 8 ∷ 9 ∷ []; text = [] }
    ∷ plain (Err (WordNotDecimal ShortList 0))
    ∷ plain (Err (OutOfRange ShortList ActionWords))
    ∷ []
unfolding says counted
parts = refl

-- a table with a call that has four numbers
later : Call → Row
later call = row "four" (Word ∷ Word ∷ Word ∷ Word ∷ []) Words

four-numbers : says_of later "four 1 2 3 4 5 6 # 7" ≡ record { line = Ok (Some (record { call = New; numbers = 1 ∷ 2 ∷ 3 ∷ 4 ∷ []; words = 2; bytes = 0 })); list = 5 ∷ 6 ∷ []; text = [] }
unfolding says_of later
four-numbers = refl

others :
    handled_line Run 0 1 ++ enabled_line 5 true ++ deadline_line None ++ deadline_line (Some 18446744073709551615) ++ peek_line 13691 2 ++ refused_line Load 10
    ≡ bytes_of "run 0 1\nenable 5 yes\ndeadline none\ndeadline 18446744073709551615\npeek 13691 2\nload refused 10\n"
unfolding digits
others = refl

signed-words :
    line (bytes_of "start") (numbers (0 ∷ 9 ∷ []) ++ signed 4294937296) ++ line (bytes_of "ends") (signed 2147483647 ++ signed 2147483648 ++ signed 4294967295 ++ signed 0)
    ≡ bytes_of "start 0 9 -30000\nends 2147483647 -2147483648 -1 0\n"
unfolding digits
signed-words = refl

bad-text :
    wrong_line 7 (Missing New Time) ++ (wrong_line 10 (OutOfRange New Time) ++ (wrong_line 11 (OutOfRange Enable Mark) ++ (wrong_line 12 (OutOfRange Lend OutcomeWords)
    ++ (wrong_line 13 (WordOutOfRange Load 17) ++ (wrong_line 14 (ListTooLong Tick 8192) ++ wrong_line 15 LineTooLong)))))
    ≡ bytes_of
    "line 7: new: time is missing\nline 10: new: time does not fit into 64 bits\nline 11: enable: mark is neither 0 nor 1\nline 12: lend: number of outcome words is over 24576\nline 13: load: word 17 does not fit into 32 bits\nline 14: tick: more than 8192 words\nline 15: line too long\n"
unfolding digits
bad-text = refl
