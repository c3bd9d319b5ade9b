-- The set that runs is a function of the accepted calls alone: that of the last load, in its flat form; none after a new or an unload.
use Rattle.std.specs.Prelude.{Bool, true, false, List, [], ◌∷◌}
use Rattle.std.specs.Prelude.{Option, None, Some}
use Rattle.model.specs.State.{RuleSet}
use Rattle.model.specs.Flat.{flatten_rules, set_of}
use Rattle.model.specs.Calls.{Call, new, load, unload, enable, tick, run, deadline, counters}
use Rattle.ledger.specs.Ledger.{Notice}

-- whether the call was refused, the call, and the set before it
abbrev pub set_after_call : Bool → Call → Option RuleSet → Option RuleSet
set_after_call true c o = o
set_after_call false (new t) o = None
set_after_call false (load t img) o = Some (set_of img (flatten_rules img))
set_after_call false (unload t) o = None
set_after_call false (enable r on) o = o
set_after_call false (tick snap os es) o = o
set_after_call false (run r dry snap os es) o = o
set_after_call false deadline o = o
set_after_call false counters o = o

-- from the set at the start
unfoldable pub set_after : Option RuleSet → List Notice → Option RuleSet
set_after o [] = o
set_after o (t ∷ ts) = set_after (set_after_call t.refused t.call o) ts
