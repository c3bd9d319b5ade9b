-- `crontab::scan::field` meets its contract. Assumes nothing.
use mathlib.Core.Path.{◌≡◌}
use Prim.Native.Nat.{◌-◌}
use Rattle.model.specs.Crontab.{field}
use Rattle.crontab.proofs.scan.field.Given as goal

abbrev pub invariant-loop : goal.invariant-loop
invariant-loop l = field (l.k - l.counter) l.rest ≡ field l.k l.line
