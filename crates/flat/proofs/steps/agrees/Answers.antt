-- `flat::steps::agrees` meets its contract. Assumes nothing.
use Rattle.std.proofs.Common.{◌≡◌, ℕ, Bool, true, List, length}
use mathlib.Core.Bool.{◌&&◌}
use lib.Dec.{eqb}
use Rattle.std.specs.List.{starts_with}
use Rattle.model.specs.Flat.{Row}
use Rattle.flat.specs.Words.{layout}
use Rattle.flat.specs.Outcome.{holds_at}
use Rattle.flat.proofs.Parts.{Placed}
use Rattle.flat.proofs.Words.{tail_of, same-start}
use Rattle.flat.proofs.RuleLists.{same-tail}
use Rattle.flat.proofs.steps.agrees.Goals as goal

compared : (seen steps : List ℕ) (k n : ℕ) (same r : Bool) (rs : List Row) → Placed n (length seen) k → same ≡ true → r ≡ starts_with eqb (tail_of seen k) steps
    → steps ≡ layout rs → r ≡ same && holds_at seen n rs
compared seen steps k n same r rs p t e q = rw (e, t, same-start (tail_of seen k) steps, same-tail seen k n steps p, q)

pub returns-then-same : goal.returns-then-same
returns-then-same c = λ rs e.
    let a = c.args in
    let p = c.place.ensures in
    compared a.seen.now a.steps.now _ a.n a.same _ rs (record { inside = p.0; there = p.1; past = p.2 }) c.if-same.true c.starts_with.ensures.value e
