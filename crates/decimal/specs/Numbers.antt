-- Texts that are to be decimal numbers.
use Rattle.std.specs.Prelude.{ℕ, cond, List, leb, Option, None, Some, Result, Ok, Err}
use Rattle.words.specs.Saturating.{max64}
use Rattle.model.specs.Lists.{all}
use Rattle.model.specs.Digits.{is_digit, value_from}
pub use Rattle.decimal.specs.declared.NotANumber.{NotANumber}
pub use Rattle.decimal.specs.declared.NotANumber.TheVariants.{NoNumber, TooLarge}

-- a text that is to be a number of at most `most`
unfoldable pub argument_of : ℕ → List ℕ → Result ℕ NotANumber
argument_of most w = cond (all is_digit w) (cond (leb (value_from 0 w) most) (Ok (value_from 0 w)) (Err TooLarge)) (Err NoNumber)

-- a value that 64 bits hold
abbrev pub fitted : ℕ → Option ℕ
fitted n = cond (leb n max64) (Some n) None
