-- The eight functions of `engine`: none asks anything of its caller, and each meets its contract, in every model of the machine. So every
-- call of one of them is a run as specs/Runs.antt has it. It is proved as `functions` of proofs/Functions.antt.
use Rattle.std.specs.Prelude.{List, ℕ}
use contract.Lifetimes.{Lfts}
use borrow.Fn.Kinds.{ParamKind, In, Dens}
use Rattle.engine.proofs.new.Kinds as new-kinds
use Rattle.engine.proofs.new.Reads as new-reads
use Rattle.engine.proofs.new.Statement as new-statement
use Rattle.engine.proofs.load.Kinds as load-kinds
use Rattle.engine.proofs.load.Reads as load-reads
use Rattle.engine.proofs.load.Statement as load-statement
use Rattle.engine.proofs.unload.Kinds as unload-kinds
use Rattle.engine.proofs.unload.Reads as unload-reads
use Rattle.engine.proofs.unload.Statement as unload-statement
use Rattle.engine.proofs.enable.Kinds as enable-kinds
use Rattle.engine.proofs.enable.Reads as enable-reads
use Rattle.engine.proofs.enable.Statement as enable-statement
use Rattle.engine.proofs.tick.Kinds as tick-kinds
use Rattle.engine.proofs.tick.Reads as tick-reads
use Rattle.engine.proofs.tick.Statement as tick-statement
use Rattle.engine.proofs.run.Kinds as run-kinds
use Rattle.engine.proofs.run.Reads as run-reads
use Rattle.engine.proofs.run.Statement as run-statement
use Rattle.engine.proofs.next_deadline.Kinds as next-deadline-kinds
use Rattle.engine.proofs.next_deadline.Reads as next-deadline-reads
use Rattle.engine.proofs.next_deadline.Statement as next-deadline-statement
use Rattle.engine.proofs.counters.Kinds as counters-kinds
use Rattle.engine.proofs.counters.Reads as counters-reads
use Rattle.engine.proofs.counters.Statement as counters-statement

-- `Asks` is what its `requires` asks of a caller, `Meets` the statement of its theorem
pub record Function {n : ℕ} (parameters : List (ParamKind n)) (Asks : In n parameters) (Meets : Type 2) : Type 2 where
  pub asks_nothing : (κs : Lfts n) (a : Dens κs parameters) → Asks κs a
  pub meets : Meets

pub record Functions (M : Type 1) : Type 2 where
  pub new : Function new-kinds.ps new-reads.Asked (new-statement.statement M)
  pub load : Function load-kinds.ps load-reads.Asked (load-statement.statement M)
  pub unload : Function unload-kinds.ps unload-reads.Asked (unload-statement.statement M)
  pub enable : Function enable-kinds.ps enable-reads.Asked (enable-statement.statement M)
  pub tick : Function tick-kinds.ps tick-reads.Asked (tick-statement.statement M)
  pub run : Function run-kinds.ps run-reads.Asked (run-statement.statement M)
  pub next-deadline : Function next-deadline-kinds.ps next-deadline-reads.Asked (next-deadline-statement.statement M)
  pub counters : Function counters-kinds.ps counters-reads.Asked (counters-statement.statement M)
