-- `fields::Records::marks_differ` meets its contract: a record whose mark no record before it has differs from them. Assumes nothing.
use mathlib.Core.Path.{◌≡◌}
use mathlib.Core.Bool.{true}
use Rattle.model.specs.Lists.{every}
use Rattle.model.specs.Field.{fresh_key}
use Rattle.fields.proofs.Marks.{Kept}
use Rattle.fields.proofs.Records.marks_differ.Given as goal

abbrev pub invariant-loop-i : goal.invariant-loop-i
invariant-loop-i l =
    Kept l.self.words.now l.self.start l.self.width l.key l.marks.items l.i × (every l.i (fresh_key l.self.words.now l.self.start l.self.width l.key) ≡ true)
