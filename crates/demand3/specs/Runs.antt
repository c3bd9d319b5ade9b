-- Lists of calls of the eight functions of `engine`. A function is named by its own declaration, as the compiler hands it on: `Kinds` has its
-- parameters and its result; `Reads` has, as `Learnt`, what a caller learns from the function's theorem, which is its `ensures`. So an
-- edit of a contract is an edit of what stands here.
use Rattle.std.specs.Prelude.{◌≡◌, List, [], ◌∷◌, ℕ, length}
use Rattle.std.specs.Int.{w32}
use contract.Lifetimes.{Lfts}
use denote.Triple.Clauses.{AtExit}
use borrow.Table.Referent.{f_int}
use borrow.Rule.Slice.Know.{Fit}
use borrow.Fn.Kinds.{ParamKind, ResultKind, Out, Dens, GoodsP, res_t, ended_of}
use Rattle.model.specs.Calls as calls
use Rattle.engine.specs.Seen.{Seen}
use Rattle.engine.specs.Answers.{no_values, enabled_values, handled_values, due_values, counter_values, shown}
use Rattle.engine.proofs.new.Kinds as new-kinds
use Rattle.engine.proofs.new.Reads as new-reads
use Rattle.engine.proofs.load.Kinds as load-kinds
use Rattle.engine.proofs.load.Reads as load-reads
use Rattle.engine.proofs.unload.Kinds as unload-kinds
use Rattle.engine.proofs.unload.Reads as unload-reads
use Rattle.engine.proofs.enable.Kinds as enable-kinds
use Rattle.engine.proofs.enable.Reads as enable-reads
use Rattle.engine.proofs.tick.Kinds as tick-kinds
use Rattle.engine.proofs.tick.Reads as tick-reads
use Rattle.engine.proofs.run.Kinds as run-kinds
use Rattle.engine.proofs.run.Reads as run-reads
use Rattle.engine.proofs.next_deadline.Kinds as next-deadline-kinds
use Rattle.engine.proofs.next_deadline.Reads as next-deadline-reads
use Rattle.engine.proofs.counters.Kinds as counters-kinds
use Rattle.engine.proofs.counters.Reads as counters-reads

-- A RUN OF A FUNCTION ---------------------------------------------------------------------------------------------------------------
-- its arguments, of which `held` says what their types do: a number has 32 or 64 bits; its answer, and the parameters as it leaves them; and
-- between them what the function ensures
pub record Run {n : ℕ} (parameters : List (ParamKind n)) (result : ResultKind n) (Ensures : Out n parameters result) : Type 0 where
  pub lifetimes : Lfts n
  pub given : Dens lifetimes parameters
  pub held : GoodsP lifetimes parameters given
  pub answer : (res_t result lifetimes).Denot
  pub left : AtExit (ended_of n parameters result) lifetimes
  pub ensured : Ensures lifetimes given answer left

-- the same of a slice of u32: every word has 32 bits, which whoever owns the slice knows
abbrev pub Words : List ℕ → Type 0
Words ws = Fit (f_int w32) 0 ws

pub data AnyRun : Type 0 where
  new : Run new-kinds.ps new-kinds.r new-reads.Learnt → AnyRun
  load : (x : Run load-kinds.ps load-kinds.r load-reads.Learnt) → Words x.given.1.1.0.now → AnyRun
  unload : Run unload-kinds.ps unload-kinds.r unload-reads.Learnt → AnyRun
  enable : Run enable-kinds.ps enable-kinds.r enable-reads.Learnt → AnyRun
  tick : (x : Run tick-kinds.ps tick-kinds.r tick-reads.Learnt) → Words x.given.1.0.now → AnyRun
  run : (x : Run run-kinds.ps run-kinds.r run-reads.Learnt) → Words x.given.1.1.1.0.now → AnyRun
  next-deadline : Run next-deadline-kinds.ps next-deadline-kinds.r next-deadline-reads.Learnt → AnyRun
  counters : Run counters-kinds.ps counters-kinds.r counters-reads.Learnt → AnyRun

-- the call of the specification that it is
abbrev pub call_of : AnyRun → calls.Call
call_of (new x) = calls.new x.given.1.0
call_of (load x ws) = calls.load x.given.1.0 x.given.1.1.0.now
call_of (unload x) = calls.unload x.given.1.0
call_of (enable x) = calls.enable x.given.1.0 x.given.1.1.0
call_of (tick x ws) = calls.tick x.given.1.0.now (length x.given.1.1.0.now) (length x.given.1.1.1.0.now)
call_of (run x ws) =
    calls.run x.given.1.0 x.given.1.1.0 x.given.1.1.1.0.now (length x.given.1.1.1.1.0.now) (length x.given.1.1.1.1.1.0.now)
call_of (next-deadline x) = calls.deadline
call_of (counters x) = calls.counters

-- the store's words before it and after it
abbrev pub before : AnyRun → List ℕ
before (new x) = x.given.0.now
before (load x ws) = x.given.0.now
before (unload x) = x.given.0.now
before (enable x) = x.given.0.now
before (tick x ws) = x.given.0.now
before (run x ws) = x.given.0.now
before (next-deadline x) = x.given.0.now
before (counters x) = x.given.0.now

abbrev pub after : AnyRun → List ℕ
after (new x) = x.left.0.now
after (load x ws) = x.left.0.now
after (unload x) = x.left.0.now
after (enable x) = x.left.0.now
after (tick x ws) = x.left.0.now
after (run x ws) = x.left.0.now
after (next-deadline x) = x.given.0.now
after (counters x) = x.given.0.now

-- what its caller sees: the answer's number and values, and the words of all lent stores after it
abbrev pub shown_by : AnyRun → Seen
shown_by (new x) = shown no_values x.answer x.left.0.now [] []
shown_by (load x ws) = shown no_values x.answer x.left.0.now [] []
shown_by (unload x) = shown no_values x.answer x.left.0.now [] []
shown_by (enable x) = shown enabled_values x.answer x.left.0.now [] []
shown_by (tick x ws) = shown handled_values x.answer x.left.0.now x.left.1.1.0.now x.left.1.1.1.0.now
shown_by (run x ws) = shown handled_values x.answer x.left.0.now x.left.1.1.1.1.0.now x.left.1.1.1.1.1.0.now
shown_by (next-deadline x) = shown due_values x.answer x.given.0.now [] []
shown_by (counters x) = shown counter_values x.answer x.given.0.now [] []

-- A LIST OF CALLS -------------------------------------------------------------------------------------------------------------------
-- the first run is given the words w, each other those that the one before it left
abbrev pub From : List ℕ → List AnyRun → Type 0
From w [] = Unit {0}
From w (x ∷ xs) = (before x ≡ w) × From (after x) xs

-- the words that the last one leaves
abbrev pub last_words : List ℕ → List AnyRun → List ℕ
last_words w [] = w
last_words w (x ∷ xs) = last_words (after x) xs
