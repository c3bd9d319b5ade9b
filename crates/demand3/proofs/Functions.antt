-- The eight functions' own theorems. Assumes nothing.
use Rattle.engine.proofs.new.Met as new
use Rattle.engine.proofs.load.Met as load
use Rattle.engine.proofs.unload.Met as unload
use Rattle.engine.proofs.enable.Met as enable
use Rattle.engine.proofs.tick.Met as tick
use Rattle.engine.proofs.run.Met as run
use Rattle.engine.proofs.next_deadline.Met as next-deadline
use Rattle.engine.proofs.counters.Met as counters
use Rattle.demand3.specs.Functions.{Functions}

pub functions : {M : Type 1} → Functions M
functions =
    record {
      new = record { asks_nothing = λ κs a. tt; meets = new.met };
      load = record { asks_nothing = λ κs a. tt; meets = load.met };
      unload = record { asks_nothing = λ κs a. tt; meets = unload.met };
      enable = record { asks_nothing = λ κs a. tt; meets = enable.met };
      tick = record { asks_nothing = λ κs a. tt; meets = tick.met };
      run = record { asks_nothing = λ κs a. tt; meets = run.met };
      next-deadline = record { asks_nothing = λ κs a. tt; meets = next-deadline.met };
      counters = record { asks_nothing = λ κs a. tt; meets = counters.met };
    }
