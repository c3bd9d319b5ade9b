-- The numbers of the tables: document 01, "Snapshot".
use Rattle.std.specs.Prelude.{ℕ}
use Rattle.world.specs.declared.table.Table.{Table}
use Rattle.world.specs.declared.table.Table.TheVariants.{Lamps, Groups, Devices, Inputs, HclTargets}

abbrev pub number : Table → ℕ
number Lamps = 0
number Groups = 1
number Devices = 2
number Inputs = 3
number HclTargets = 4
