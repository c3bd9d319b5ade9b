-- How another crate cites demand 3: no list of calls on a new store gives an activation of B 3 more than four effects.
use mathlib.Core.Path.{◌≡◌}
use Prim.Native.Nat.{ℕ, ◌^◌, ◌≤◌, ◌<◌}
use mathlib.Core.Bool.{true}
use mathlib.Core.List.{List}
use Rattle.model.specs.Lists.{all}
use Rattle.model.specs.Store.{write}
use Rattle.model.specs.Calls.{Call, fresh, answers}
use Rattle.model.proofs.StoreLaws.{read-write}
use Rattle.ledger.specs.Effects.{effects_from}
use Rattle.ledger.specs.Demand3.{in_words, ledger_at_end}
use Rattle.ledger.specs.OnWords.{answers_on}
use Rattle.ledger.proofs.CallRules.{fresh_keeps}
use Rattle.ledger.proofs.Demand3.{demand3}
use Rattle.ledger.proofs.OnWords.{on-readable}

pub four-at-most : (t n : ℕ) (cs : List Call) → t < 2 ^ 64 → all in_words cs ≡ true → effects_from (record { number = n; budget = 3 }) (ledger_at_end (fresh t) cs).effects ≤ 4
four-at-most t n cs lt w = (demand3 (fresh t) (fresh_keeps t lt) cs w).bounded (record { number = n; budget = 3 })

-- and the calls on the words of a new store answer as the definitions do
pub on-new-words : (t : ℕ) (cs : List Call) → t < 2 ^ 64 → all in_words cs ≡ true → answers_on (write (fresh t)) cs ≡ answers (fresh t) cs
on-new-words t cs lt w = (on-readable (write (fresh t)) (fresh t) cs w (read-write (fresh t) (fresh_keeps t lt))).answers
