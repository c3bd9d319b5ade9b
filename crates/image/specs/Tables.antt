-- The numbers by which the specification names the tables.
use Rattle.std.specs.Prelude.{ℕ}
use Rattle.image.specs.declared.layout.Table.{Table}
use Rattle.image.specs.declared.layout.Table.TheVariants.{Rules, Blocks, Triggers, Conditions, Actions, Values, Bounds, Pool}

abbrev pub number_of : Table → ℕ
number_of Rules = 0
number_of Blocks = 1
number_of Triggers = 2
number_of Conditions = 3
number_of Actions = 4
number_of Values = 5
number_of Bounds = 6
number_of Pool = 7
