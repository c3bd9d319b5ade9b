-- A log of runs of the eight functions: of each run its call, and what its caller sees, the answer's number and values and the lent outcome
-- words. What may be read off it is ledger's `WordLogHolds`: the effects of a number are bounded, and no number is missing. It is proved as
-- `log-of-runs` of proofs/Logs.antt.
use Rattle.ledger.specs.LogWords.{WordLine, seen_line}
use Rattle.demand3.specs.Runs.{AnyRun, call_of, shown_by}

abbrev pub line_of : AnyRun → WordLine
line_of x = seen_line (call_of x) (shown_by x).number (shown_by x).values (shown_by x).outcomes
