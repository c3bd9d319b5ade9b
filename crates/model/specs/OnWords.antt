-- The eight calls on words: given the store's words and the other arguments, the answer, the store's words after the call, and the words
-- of the lent outcome and effect stores: document 01, "Who can cause a refusal".
use Rattle.std.specs.Prelude.{ℕ, cond, List, eqb, length}
use Rattle.std.specs.Prelude.{Option, None, Some}
use Rattle.model.specs.Field.{unless}
use Rattle.model.specs.State.{Store}
use Rattle.model.specs.Store.{read, write}
use Rattle.model.specs.Calls.{Call, new, load, unload, enable, tick, run, deadline, counters, Answer, done, refused, enabled, handled, due, counted, fresh, call}
use Rattle.model.specs.Answers.{outcome_store, effect_store}

pub record Result : Type 0 where
  pub answer : Answer
  pub store : List ℕ
  pub outcomes : List ℕ
  pub effects : List ℕ

-- the words of the stores that a call lends for outcomes and effects
abbrev pub outcome_words_of : Call → ℕ
outcome_words_of (new t) = 0
outcome_words_of (load t img) = 0
outcome_words_of (unload t) = 0
outcome_words_of (enable rule on) = 0
outcome_words_of (tick snap os es) = os
outcome_words_of (run rule dry snap os es) = os
outcome_words_of deadline = 0
outcome_words_of counters = 0

abbrev pub effect_words_of : Call → ℕ
effect_words_of (new t) = 0
effect_words_of (load t img) = 0
effect_words_of (unload t) = 0
effect_words_of (enable rule on) = 0
effect_words_of (tick snap os es) = es
effect_words_of (run rule dry snap os es) = es
effect_words_of deadline = 0
effect_words_of counters = 0

unfoldable pub result : Call → Answer → List ℕ → Result
result c a w =
    record { answer = a; store = w; outcomes = outcome_store (outcome_words_of c) a; effects = effect_store (effect_words_of c) a }

-- 1: "store not 16,384 words"; 2: "store rule broken"
unfoldable pub store_refusal : List ℕ → ℕ
store_refusal w = unless (eqb (length w) 16384) 1 2

-- a refusal leaves the store's words as they were
abbrev pub store_after : Answer → Store → List ℕ → List ℕ
store_after done s w = write s
store_after (refused n) s w = w
store_after (enabled b) s w = write s
store_after (handled os) s w = write s
store_after (due t) s w = write s
store_after (counted cs) s w = write s

abbrev pub on_store : Call → Option Store → List ℕ → Result
on_store c None w = result c (refused (store_refusal w)) w
on_store c (Some s) w = let d = call c s in result c d.answer (store_after d.answer d.store w)

-- "new checks 1 alone"
unfoldable pub new_on : ℕ → List ℕ → Result
new_on t w = cond (eqb (length w) 16384) (result (new t) done (write (fresh t))) (result (new t) (refused 1) w)

unfoldable pub call_on : Call → List ℕ → Result
call_on (new t) w = new_on t w
call_on (load t img) w = on_store (load t img) (read w) w
call_on (unload t) w = on_store (unload t) (read w) w
call_on (enable rule on) w = on_store (enable rule on) (read w) w
call_on (tick snap os es) w = on_store (tick snap os es) (read w) w
call_on (run rule dry snap os es) w = on_store (run rule dry snap os es) (read w) w
call_on deadline w = on_store deadline (read w) w
call_on counters w = on_store counters (read w) w
