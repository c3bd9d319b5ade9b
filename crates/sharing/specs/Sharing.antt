-- Document 02, request 8: "Let the copies made by one Repeat, each time it is flattened, share the after bodies of its first copy, each counted
-- once". Two theorems about it (proofs/): what loaded before loads now, and the calls answer as if nothing were shared.
use Rattle.std.specs.Prelude.{◌≡◌, Bool, true, false, not, List, [], ◌∷◌, ℕ, ◌≤◌, eqb}
use Rattle.model.specs.Lists.{all}
use Rattle.model.specs.Flat.{flatten_rules, steps_in, every_copy_in, taken_in}
use Rattle.model.specs.Load.{image_refusal_with, image_refusal}
use Rattle.model.specs.State.{Store}
use Rattle.model.specs.Calls.{Call, new, load, unload, enable, tick, run, deadline, counters, Answer, Done, loading, call, answers, fresh}
use Rattle.model.specs.Store.{write}
use Rattle.ledger.specs.Demand3.{in_words}
use Rattle.ledger.specs.OnWords.{answers_on}
use Rattle.sharing.specs.Unshared as unshared

-- WHAT LOADED LOADS -----------------------------------------------------------------------------------------------------------------
-- what load said of an image before the request: 16 counts what the unshared flattening stores
unfoldable pub refusal_before : List ℕ → ℕ
refusal_before img = image_refusal_with img (unshared.flatten_rules img)

-- Theorem 1, of an image
pub record SharedCount (img : List ℕ) : Type 0 where
  -- the shared count is at most the unshared, which is document 01's count of the lists that run
  pub fewer : steps_in (flatten_rules img) ≤ steps_in (unshared.flatten_rules img)
  pub every-copy : steps_in (unshared.flatten_rules img) ≡ every_copy_in (flatten_rules img)
  -- "its 65,536 still counts every copy": `flatten_action` is taken as often
  pub taken : taken_in (flatten_rules img) ≡ taken_in (unshared.flatten_rules img)
  -- so load answers as before, unless it refused with 16 ..
  pub as_before : eqb (refusal_before img) 16 ≡ false → image_refusal img ≡ refusal_before img
  -- .. and what loaded loads
  pub loads : refusal_before img ≡ 0 → image_refusal img ≡ 0

-- THE CALLS WITHOUT SHARING ---------------------------------------------------------------------------------------------------------
-- an image is refused as now, 16 with the shared count; the set that runs is the unshared one
unfoldable pub load_unshared : ℕ → List ℕ → Store → Done
load_unshared t img s = loading (image_refusal img) t img (unshared.flatten_rules img) s

-- the same with 16 as it was
unfoldable pub load_before : ℕ → List ℕ → Store → Done
load_before t img s = loading (refusal_before img) t img (unshared.flatten_rules img) s

-- the eight calls, with another load
unfoldable pub call_with : (ℕ → List ℕ → Store → Done) → Call → Store → Done
call_with loadWith (new t) s = call (new t) s
call_with loadWith (load t img) s = loadWith t img s
call_with loadWith (unload t) s = call (unload t) s
call_with loadWith (enable rule on) s = call (enable rule on) s
call_with loadWith (tick snap os es) s = call (tick snap os es) s
call_with loadWith (run rule dry snap os es) s = call (run rule dry snap os es) s
call_with loadWith deadline s = call deadline s
call_with loadWith counters s = call counters s

unfoldable pub answers_with : (ℕ → List ℕ → Store → Done) → Store → List Call → List Answer
answers_with loadWith s [] = []
answers_with loadWith s (c ∷ cs) = let d = call_with loadWith c s in d.answer ∷ answers_with loadWith d.store cs

-- a call that 16 did not refuse before
abbrev pub not_sixteen : Call → Bool
not_sixteen (new t) = true
not_sixteen (load t img) = not (eqb (refusal_before img) 16)
not_sixteen (unload t) = true
not_sixteen (enable rule on) = true
not_sixteen (tick snap os es) = true
not_sixteen (run rule dry snap os es) = true
not_sixteen deadline = true
not_sixteen counters = true

-- Theorem 2, of a list of calls on a new store
pub record SharedAnswers (t : ℕ) (cs : List Call) : Type 0 where
  -- all answers are those of the calls with the unshared flattening and the new count in 16
  pub unshared : answers (fresh t) cs ≡ answers_with load_unshared (fresh t) cs
  -- "Sets that loaded before .. behave as they did": where 16 refused no load, all answers are as they were
  pub as_before : all not_sixteen cs ≡ true → answers (fresh t) cs ≡ answers_with load_before (fresh t) cs
  -- the calls on the words of a new store, which hold the shared form, answer so too
  pub on-words : all in_words (new t ∷ cs) ≡ true → answers_on (write (fresh t)) cs ≡ answers_with load_unshared (fresh t) cs
