-- What a log of runs of the eight functions says, off the lent outcome words: from their contracts and the theorem about the calls on words.
-- Assumes nothing.
use mathlib.Core.Path.{◌≡◌, refl, sym, ap, ap₂, subst, ◌∙◌}
use mathlib.Core.Bool.{true, not}
use mathlib.Core.List.{List, [], ◌∷◌, map}
use Rattle.std.specs.Prelude.{Option, None, Some}
use Prim.Native.Nat.{ℕ}
use native.Mathlib.Omega.{arith}
use lib.Dec.{eqb}
use lib.ListN.{length}
use Rattle.model.specs.Lists.{all}
use Rattle.model.specs.Calls as calls
use Rattle.model.specs.Calls.{Call, Answer, done, blank}
use Rattle.model.specs.Answers.{number_of, values_of, outcome_store}
use Rattle.model.specs.OnWords.{outcome_words_of, result, on_store, new_on, call_on}
use Rattle.model.specs.Store.{read}
use Rattle.model.specs.State.{Store}
use Rattle.ledger.specs.Ledger.{is_new}
use Rattle.ledger.specs.OnWords.{answers_on}
use Rattle.ledger.specs.Log.{lines}
use Rattle.ledger.specs.LogWords.{WordLine, WordLogHolds, word_line, seen_line}
use Rattle.ledger.proofs.ListLaws.{by}
use Rattle.ledger.proofs.LogsOnWords.{same-answers, log-on-words}
use Rattle.ledger.proofs.LogWords.{word-log-holds}
use Rattle.ledger.proofs.SeenLines.{seen_as, seen-lines}
use Rattle.engine.proofs.new.Kinds as new-kinds
use Rattle.engine.proofs.new.Reads as new-reads
use Rattle.engine.specs.Seen.{Seen, seen}
use Rattle.demand3.specs.Runs.{Run, AnyRun, new, call_of, before, after, shown_by, From}
use Rattle.demand3.specs.Logs.{line_of}
use Rattle.demand3.proofs.Demand3.{equation, after_is, list-in-words}

-- the lent outcome words after a call on words are those of its answer
new-words : (t : ℕ) (w : List ℕ) → (new_on t w).outcomes ≡ outcome_store 0 (new_on t w).answer
unfolding new_on result
new-words t w = by (eqb (length w) 16384) (λ e. rw e) (λ e. rw e)

store_words : (c : Call) (w : List ℕ) (o : Option Store) → (on_store c o w).outcomes ≡ outcome_store (outcome_words_of c) (on_store c o w).answer
unfolding result
store_words c w None = refl
store_words c w (Some s) = refl

call-words : (c : Call) (w : List ℕ) → (call_on c w).outcomes ≡ outcome_store (outcome_words_of c) (call_on c w).answer
unfolding call_on
call-words (calls.new t) w = new-words t w
call-words (calls.load t img) w = store_words (calls.load t img) w (read w)
call-words (calls.unload t) w = store_words (calls.unload t) w (read w)
call-words (calls.enable rule on) w = store_words (calls.enable rule on) w (read w)
call-words (calls.tick snap os es) w = store_words (calls.tick snap os es) w (read w)
call-words (calls.run rule dry snap os es) w = store_words (calls.run rule dry snap os es) w (read w)
call-words calls.deadline w = store_words calls.deadline w (read w)
call-words calls.counters w = store_words calls.counters w (read w)

-- a run's line is that of the call on words
abbrev line_on : Call → List ℕ → WordLine
line_on c w = seen_as (record { call = c; answer = (call_on c w).answer })

seen-line : (c : Call) (w : List ℕ) → (let o = seen (call_on c w) in seen_line c o.number o.values o.outcomes) ≡ line_on c w
unfolding seen
seen-line c w = ap (λ (ws : List ℕ). seen_line c (number_of (call_on c w).answer) (values_of (call_on c w).answer) ws) (call-words c w)

line-is : (x : AnyRun) → line_of x ≡ line_on (call_of x) (before x)
line-is x = ap (λ (o : Seen). seen_line (call_of x) o.number o.values o.outcomes) (equation x) ∙ seen-line (call_of x) (before x)

lines_are : (w : List ℕ) (xs : List AnyRun) → From w xs → map line_of xs ≡ map seen_as (lines (map call_of xs) (answers_on w (map call_of xs)))
unfolding answers_on
lines_are w [] h = refl
lines_are w (x ∷ xs) (e, h) =
    ap₂ ◌∷◌ (line-is x ∙ ap (line_on (call_of x)) e)
    (lines_are (after x) xs h ∙ ap (λ v. map seen_as (lines (map call_of xs) (answers_on v (map call_of xs)))) (after_is x ∙ ap (λ v. (call_on (call_of x) v).store) e))

-- a new whose number is 0 is accepted
accepted-new : (t : ℕ) (w : List ℕ) → number_of (call_on (calls.new t) w).answer ≡ 0 → (call_on (calls.new t) w).answer ≡ done
unfolding call_on new_on result number_of
accepted-new t w z = by (eqb (length w) 16384) (λ e. rw e refl) (λ e. let y : ◌≡◌ {A = ℕ} 1 0 = rw e at z in absurd (omega arith))

seen-number : (c : Call) (w : List ℕ) → (seen (call_on c w)).number ≡ number_of (call_on c w).answer
unfolding seen
seen-number c w = refl

-- THE THEOREM -----------------------------------------------------------------------------------------------------------------------
-- the first run makes the store new and is not refused; no other run is a new
pub log-of-runs : (w : List ℕ) (y : Run new-kinds.ps new-kinds.r new-reads.Learnt) (xs : List AnyRun) → From w (new y ∷ xs) → (shown_by (new y)).number ≡ 0 → all (λ c. not (is_new c)) (map call_of xs) ≡ true
    → WordLogHolds (map line_of (new y ∷ xs))
log-of-runs w y xs h z n =
    let t = y.given.1.0 in
    let cs = map call_of xs in
    let i = list-in-words (new y ∷ xs) in
    let zero-shown : number_of (call_on (calls.new t) w).answer ≡ 0 =
    sym (seen-number (calls.new t) w) ∙ sym (ap (λ (v : List ℕ). (seen (call_on (calls.new t) v)).number) h.0) ∙ sym (ap (λ (o : Seen). o.number) (equation (new y))) ∙ z in
    let made = accepted-new t w zero-shown in
    let same = same-answers t w cs i made in
    let told = ap (λ (a : List Answer). map seen_as (lines (calls.new t ∷ cs) a)) same ∙ seen-lines blank (calls.new t ∷ cs) ∙ sym (ap (λ (a : List Answer). map word_line (lines (calls.new t ∷ cs) a)) same) in
    subst WordLogHolds (sym (lines_are w (new y ∷ xs) h ∙ told)) (word-log-holds (lines (calls.new t ∷ cs) (answers_on w (calls.new t ∷ cs))) (log-on-words w t cs i made n))
