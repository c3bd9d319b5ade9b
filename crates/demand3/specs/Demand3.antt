-- Demand 3 of the eight functions: the claim about a list of their runs. It is proved as `demand3-of-calls` of proofs/Demand3.antt.
use Rattle.std.specs.Prelude.{◌≡◌, List, [], ◌∷◌, map, ℕ}
use Rattle.std.specs.Prelude.{Some}
use Rattle.model.specs.Calls.{Call, answers}
use Rattle.model.specs.Answers.{number_of, values_of}
use Rattle.model.specs.State.{Store}
use Rattle.model.specs.Store.{read}
use Rattle.model.specs.OnWords.{call_on}
use Rattle.ledger.specs.Ledger.{Posting, entry_of, final_store}
use Rattle.ledger.specs.Demand3.{Demand3, standing_in, ledger_at_end}
use Rattle.ledger.specs.OnWords.{pending_in}
use Rattle.engine.specs.Seen.{Seen, seen}
use Rattle.demand3.specs.Runs.{AnyRun, call_of, before, after, shown_by, last_words}

-- what the specification's calls on words show, one after the other
unfoldable pub seen_on : List ℕ → List Call → List Seen
seen_on w [] = []
seen_on w (c ∷ cs) = seen (call_on c w) ∷ seen_on (call_on c w).store cs

-- the store s is what the words w say, and the runs xs follow each other from them
pub record Demand3OfCalls (w : List ℕ) (s : Store) (xs : List AnyRun) : Type 0 where
  -- every call shows what the specification's shows: number, values, and all words of the store, the outcomes and the effects
  pub shows : map shown_by xs ≡ seen_on w (map call_of xs)
  -- its number and its values are those of the answer of the call on the store
  pub numbers : map (λ x. (shown_by x).number) xs ≡ map number_of (answers s (map call_of xs))
  pub values : map (λ x. (shown_by x).values) xs ≡ map values_of (answers s (map call_of xs))
  -- the words at the end say the store at the end
  pub reads : read (last_words w xs) ≡ Some (final_store s (map call_of xs))
  -- a call after them that shows the number of a refusal leaves the words as they were
  pub refused : (x : AnyRun) → before x ≡ last_words w xs → ((shown_by x).number ≡ 0 → ⊥) → after x ≡ before x
  -- all of demand 3 holds of the calls ..
  pub demand3 : Demand3 s (map call_of xs)
  -- .. and what is pending in the words is what stands in the ledger
  pub pending : map entry_of (pending_in (read (last_words w xs))) ≡ map (λ (h : Posting). h.entry) (standing_in (ledger_at_end s (map call_of xs)))
