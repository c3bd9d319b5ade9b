-- What a log of the calls on words says.
use mathlib.Core.Path.{◌≡◌, sym, ◌∙◌, ap, ap₂, subst}
use Prim.Native.Nat.{ℕ, ◌^◌}
use native.Mathlib.Omega.{arith}
use mathlib.Core.Bool.{true, not}
use mathlib.Core.List.{List, ◌∷◌}
use lib.Dec.{eqb}
use lib.ListN.{length}
use borrow.Author.Tests.{eqb-true, ltb-true}
use Rattle.model.specs.Lists.{all}
use Rattle.model.specs.Store.{write}
use Rattle.model.specs.Answers as model
use Rattle.model.specs.Calls.{Call, new, done, answers, fresh, blank, call}
use Rattle.model.specs.OnWords.{Result, result, new_on, call_on}
use Rattle.model.proofs.StoreLaws.{read-write}
use Rattle.ledger.specs.Ledger.{is_new}
use Rattle.ledger.specs.Demand3.{in_words}
use Rattle.ledger.specs.OnWords.{answers_on}
use Rattle.ledger.specs.Log.{lines, LogHolds}
use Rattle.ledger.proofs.ListLaws.{by, and_l, and_r}
use Rattle.ledger.proofs.CallRules.{fresh_keeps}
use Rattle.ledger.proofs.OnWords.{same-list, new-on}
use Rattle.ledger.proofs.Logs.{log-holds}

-- a new that is accepted has 16,384 words
accepted-long : (t : ℕ) (w : List ℕ) → (call_on (new t) w).answer ≡ done → length w ≡ 16384
unfolding call_on new_on result model.number_of
accepted-long t w e = by (eqb (length w) 16384) (λ l. eqb-true (length w) 16384 l) (λ f. let z : ◌≡◌ {A = ℕ} 1 0 = ap model.number_of (rw f at e) in absurd (omega arith))

pub same-answers : (t : ℕ) (w : List ℕ) (cs : List Call) → all in_words (new t ∷ cs) ≡ true → (call_on (new t) w).answer ≡ done
    → answers_on w (new t ∷ cs) ≡ answers blank (new t ∷ cs)
unfolding answers_on answers call in_words result
same-answers t w cs i e =
    let n = new-on t w (accepted-long t w e) in
    let k = fresh_keeps t (ltb-true t (2 ^ 64) (and_l (in_words (new t)) _ i)) in
    ap₂ ◌∷◌ e (ap (λ (r : Result). answers_on r.store cs) n ∙ (same-list (write (fresh t)) (fresh t) cs (and_r (in_words (new t)) _ i) (read-write (fresh t) k)).0)

pub log-on-words : (w : List ℕ) (t : ℕ) (cs : List Call) → all in_words (new t ∷ cs) ≡ true → (call_on (new t) w).answer ≡ done → all (λ c. not (is_new c)) cs ≡ true
    → LogHolds (lines (new t ∷ cs) (answers_on w (new t ∷ cs)))
log-on-words w t cs i e n = subst (λ as'. LogHolds (lines (new t ∷ cs) as')) (sym (same-answers t w cs i e)) (log-holds blank t cs n)
