-- Demand 3 of the eight functions, from their contracts and the theorem about the specification's calls on words. Assumes nothing.
use mathlib.Core.Path.{◌≡◌, refl, sym, ap, ap₂, ◌∙◌}
use mathlib.Core.Bool.{true}
use mathlib.Core.List.{List, [], ◌∷◌, map, map-map}
use Rattle.std.specs.Prelude.{Some}
use Prim.Native.Nat.{ℕ, suc, ◌<◌, ◌^◌}
use native.Mathlib.Omega.{arith}
use borrow.Author.Tests.{le-leb, lt-ltb}
use Rattle.std.proofs.lemmas.Bool.{and_from}
use Rattle.words.specs.Saturating.{max32}
use Rattle.model.specs.Lists.{all}
use Rattle.model.specs.State.{Store}
use Rattle.model.specs.Store.{read, write, Keeps}
use Rattle.model.specs.Calls.{Call, Answer, done, refused, enabled, handled, due, counted}
use Rattle.model.specs.Answers.{number_of, values_of}
use Rattle.model.specs.OnWords.{Result, call_on}
use Rattle.model.proofs.StoreLaws.{read-write}
use Rattle.ledger.specs.Demand3.{is_word, in_words}
use Rattle.ledger.specs.Ledger.{entry_of}
use Rattle.ledger.specs.OnWords.{answers_on, words_after, pending_in, OnWords}
use Rattle.ledger.proofs.OnWords.{refused-words, on-readable, demand3-on-words}
use Rattle.engine.specs.Seen.{Seen, seen}
use Rattle.engine.specs.Answers.{shown}
use Rattle.demand3.specs.Runs.{Words, AnyRun, new, load, unload, enable, tick, run, next-deadline, counters, call_of, before, after, shown_by, From, last_words}
use Rattle.demand3.specs.Demand3.{seen_on, Demand3OfCalls}

-- ONE RUN ---------------------------------------------------------------------------------------------------------------------------
-- the eight contracts
pub equation : (x : AnyRun) → shown_by x ≡ seen (call_on (call_of x) (before x))
equation (new x) = x.ensured
equation (load x ws) = x.ensured
equation (unload x) = x.ensured
equation (enable x) = x.ensured
equation (tick x ws) = x.ensured
equation (run x ws) = x.ensured
equation (next-deadline x) = x.ensured
equation (counters x) = x.ensured

shown-store : (x : AnyRun) → (shown_by x).store ≡ after x
unfolding shown
shown-store (new x) = refl
shown-store (load x ws) = refl
shown-store (unload x) = refl
shown-store (enable x) = refl
shown-store (tick x ws) = refl
shown-store (run x ws) = refl
shown-store (next-deadline x) = refl
shown-store (counters x) = refl

seen-store : (r : Result) → (seen r).store ≡ r.store
unfolding seen
seen-store r = refl

pub after_is : (x : AnyRun) → after x ≡ (call_on (call_of x) (before x)).store
after_is x = sym (shown-store x) ∙ ap (λ (o : Seen). o.store) (equation x) ∙ seen-store (call_on (call_of x) (before x))

-- what the arguments' types hold
word-is : (x : ℕ) → x < 2 ^ 32 → is_word x ≡ true
word-is x h = le-leb x max32 (omega arith)

all_words : (ws : List ℕ) → Words ws → all is_word ws ≡ true
all_words [] h = refl
all_words (x ∷ ws) h = and_from _ _ (word-is x (h 0).fits) (all_words ws (λ i. h (suc i)))

in-words : (x : AnyRun) → in_words (call_of x) ≡ true
unfolding in_words
in-words (new x) = lt-ltb x.given.1.0 (2 ^ 64) x.held.1.0.1
in-words (load x ws) = and_from _ _ (lt-ltb x.given.1.0 (2 ^ 64) x.held.1.0.1) (all_words x.given.1.1.0.now ws)
in-words (unload x) = lt-ltb x.given.1.0 (2 ^ 64) x.held.1.0.1
in-words (enable x) = word-is x.given.1.0 x.held.1.0.1
in-words (tick x ws) = all_words x.given.1.0.now ws
in-words (run x ws) = and_from _ _ (word-is x.given.1.0 x.held.1.0.1) (all_words x.given.1.1.1.0.now ws)
in-words (next-deadline x) = refl
in-words (counters x) = refl

-- A LIST OF THEM --------------------------------------------------------------------------------------------------------------------
pub list-in-words : (xs : List AnyRun) → all in_words (map call_of xs) ≡ true
list-in-words [] = refl
list-in-words (x ∷ xs) = and_from _ _ (in-words x) (list-in-words xs)

words_are : (w : List ℕ) (xs : List AnyRun) → From w xs → last_words w xs ≡ words_after w (map call_of xs)
unfolding words_after
words_are w [] h = refl
words_are w (x ∷ xs) (e, h) = words_are (after x) xs h ∙ ap (λ v. words_after v (map call_of xs)) (after_is x ∙ ap (λ v. (call_on (call_of x) v).store) e)

shows-are : (w : List ℕ) (xs : List AnyRun) → From w xs → map shown_by xs ≡ seen_on w (map call_of xs)
unfolding seen_on
shows-are w [] h = refl
shows-are w (x ∷ xs) (e, h) =
    ap₂ ◌∷◌ (equation x ∙ ap (λ v. seen (call_on (call_of x) v)) e)
    (shows-are (after x) xs h ∙ ap (λ v. seen_on v (map call_of xs)) (after_is x ∙ ap (λ v. (call_on (call_of x) v).store) e))

-- a number that is not 0 is a refusal's
refusal-of : (a : Answer) → (number_of a ≡ 0 → ⊥) → a ≡ refused (number_of a)
unfolding number_of
refusal-of done h = absurd (h refl)
refusal-of (refused n) h = refl
refusal-of (enabled b) h = absurd (h refl)
refusal-of (handled os) h = absurd (h refl)
refusal-of (due t) h = absurd (h refl)
refusal-of (counted cs) h = absurd (h refl)

seen-number : (r : Result) → (seen r).number ≡ number_of r.answer
unfolding seen
seen-number r = refl

left_alone : (x : AnyRun) → ((shown_by x).number ≡ 0 → ⊥) → after x ≡ before x
left_alone x h =
    let r = call_on (call_of x) (before x) in
    let n : (shown_by x).number ≡ number_of r.answer = ap (λ (o : Seen). o.number) (equation x) ∙ seen-number r in
    after_is x ∙ refused-words (call_of x) (before x) (number_of r.answer) (refusal-of r.answer (λ z. h (n ∙ z)))

-- the numbers and values of what is seen
numbers-seen : (w : List ℕ) (cs : List Call) → map (λ (o : Seen). o.number) (seen_on w cs) ≡ map number_of (answers_on w cs)
unfolding seen_on answers_on seen
numbers-seen w [] = refl
numbers-seen w (c ∷ cs) = ap (λ (l : List ℕ). number_of (call_on c w).answer ∷ l) (numbers-seen (call_on c w).store cs)

values_seen : (w : List ℕ) (cs : List Call) → map (λ (o : Seen). o.values) (seen_on w cs) ≡ map values_of (answers_on w cs)
unfolding seen_on answers_on seen
values_seen w [] = refl
values_seen w (c ∷ cs) = ap (λ (l : List (List ℕ)). values_of (call_on c w).answer ∷ l) (values_seen (call_on c w).store cs)

-- THE THEOREM -----------------------------------------------------------------------------------------------------------------------
pub demand3-of-calls : (w : List ℕ) (s : Store) → read w ≡ Some s → (xs : List AnyRun) → From w xs → Demand3OfCalls w s xs
demand3-of-calls w s e xs h =
    let cs = map call_of xs in
    let d = on-readable w s cs (list-in-words xs) e in
    let l = words_are w xs h in
    let o = shows-are w xs h in
    record {
      shows = o;
      numbers = sym (map-map (λ (o : Seen). o.number) shown_by xs) ∙ ap (map (λ (o : Seen). o.number)) o ∙ numbers-seen w cs ∙ ap (map number_of) d.answers;
      values = sym (map-map (λ (o : Seen). o.values) shown_by xs) ∙ ap (map (λ (o : Seen). o.values)) o ∙ values_seen w cs ∙ ap (map values_of) d.answers;
      reads = ap read l ∙ d.reads;
      refused = λ x b n. left_alone x n;
      demand3 = d.demand3;
      pending = ap (λ v. map entry_of (pending_in (read v))) l ∙ d.pending;
    }

-- from a store that keeps the store rules
pub demand3-from-store : (s : Store) → Keeps s → (xs : List AnyRun) → From (write s) xs → Demand3OfCalls (write s) s xs
demand3-from-store s k xs h = demand3-of-calls (write s) s (read-write s k) xs h

-- on whatever words
pub calls-on-words : (w : List ℕ) (xs : List AnyRun) → From w xs → (map shown_by xs ≡ seen_on w (map call_of xs)) × (last_words w xs ≡ words_after w (map call_of xs)) × OnWords w (read w) (map call_of xs)
calls-on-words w xs h = (shows-are w xs h, words_are w xs h, demand3-on-words w (map call_of xs) (list-in-words xs))
