-- The numbers of the fields.
use Rattle.std.specs.Prelude.{ℕ}
use Rattle.crontab.specs.declared.parts.Field.{Field}
use Rattle.crontab.specs.declared.parts.Field.TheVariants.{Minute, Hour, Day, Month, Weekday}

abbrev pub number : Field → ℕ
number Minute = 0
number Hour = 1
number Day = 2
number Month = 3
number Weekday = 4
