-- `flat::rules::flatten_each` meets its contract: after k turns the parts of the first k rules stand in front. Assumes nothing.
use mathlib.Core.Path.{◌≡◌}
use lib.ListN.{length}
use Rattle.flat.specs.Load.{rules_up_to}
use Rattle.flat.proofs.RuleLists.{Front}
use Rattle.flat.proofs.rules.flatten_each.Given as goal

abbrev pub invariant-loop-k : goal.invariant-loop-k
invariant-loop-k l =
    (length l.own ≡ length l.initial.own) × (length l.body ≡ length l.initial.body)
    × Front (rules_up_to l.t.acts.now l.t.blocks.now l.t.rules.now l.t.depth l.t.limit l.k) l.seen (length l.initial.words) (length l.initial.lists) l.words l.lists l.k l.size l.left l.same
