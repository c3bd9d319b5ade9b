-- The starts of a rule: their number, and their words in lent ones. Assumes nothing.
use mathlib.Core.Path.{◌≡◌, refl, sym, ap, ◌∙◌}
use mathlib.Core.List.{List, [], ◌∷◌, ◌++◌, append-nil, append_assoc}
use Prim.Native.Nat.{ℕ, suc, ◌+◌, ◌*◌, ◌-◌, ◌/◌, ◌≤◌, ◌<◌}
use native.Mathlib.Nat.{zero-add, div-add-mod}
use native.Mathlib.Numerals.{add-one}
use native.Mathlib.Omega.{arith}
use borrow.Author.Tests.{le-leb, lt-leb}
use lib.ListN.{length, get_or, take, drop, replicate, length-append, length-replicate, drop_of_length-le}
use lib.Seq.{sets, sets-eq, length-sets, take_at, drop-append-add, drop-drop, drop-cons}
use Rattle.std.specs.Prelude.{Option, None, Some, Ok, Err}
use Rattle.std.specs.List.{AllByRecursion, enumerate_from, filter_map, cons_option}
use Rattle.std.specs.Iterator.{Yields}
use Rattle.std.proofs.lemmas.Iterator.{YieldsList}
use Rattle.std.proofs.lemmas.Iterator.Consumers.{YieldsList-turn, YieldsList-end}
use Rattle.std.proofs.lemmas.List.FromFn.{length-enumerate_from, get_or-enumerate_from}
use Rattle.model.specs.Lists.{flatten}
use Rattle.model.specs.Answers.{lent}
use Rattle.model.specs.Asked.{declined, shown_result}
use Rattle.model.specs.declared.Refusal.TheVariants.{LentStores}
use Rattle.model.specs.declared.SunTimes.{SunTimes}
use Rattle.model.specs.declared.SolarEvent.{SolarEvent}
use Rattle.model.specs.declared.Trigger.{Trigger}
use Rattle.model.specs.declared.Trigger.TheVariants.{TimerFires, Every, AtTime, AtSolar, Other}
use Rattle.model.specs.Readback.{start_words, start_of, solar_starts, count_values, shown_starts}
use Rattle.lent_words.proofs.Written.{drop-zeros}
use Rattle.solar.specs.Written.{written}

-- NUMBER AND LENGTH
filter-most : {A B : Type 0} (f : A → Option B) (xs : List A) → length (filter_map f xs) ≤ length xs
filter-most f [] = omega arith
filter-most f (x ∷ xs) = go (f x) (filter-most f xs)
  where
    go : (o : Option _) → length (filter_map f xs) ≤ length xs → length (cons_option o (filter_map f xs)) ≤ suc (length xs)
    go None h = omega arith
    go (Some y) h = omega arith

module _ (sun : Option SunTimes) where
  pub most-starts : (ts : List Trigger) → length (solar_starts sun ts) ≤ length ts
  unfolding solar_starts
  most-starts ts = filter-most (start_of sun) ts

  words-long : (o : Option SunTimes) (event : SolarEvent) (offset : ℕ) → length (start_words o event offset) ≡ 3
  unfolding start_words
  words-long None event offset = refl
  words-long (Some s) event offset = refl

  abbrev Long : List (List ℕ) → Type 0
  Long ss = AllByRecursion (λ s. length s ≡ 3) ss

  pub starts-long : (ts : List Trigger) → Long (solar_starts sun ts)
  unfolding solar_starts start_of
  starts-long [] = tt
  starts-long (TimerFires t ∷ ts) = starts-long ts
  starts-long (Every ms ∷ ts) = starts-long ts
  starts-long (AtTime h m days ∷ ts) = starts-long ts
  starts-long (AtSolar event offset ∷ ts) = (words-long sun event offset, starts-long ts)
  starts-long (Other ∷ ts) = starts-long ts

-- ONE START
-- words that are copied in
pub copied-in : (w s : List ℕ) (at : ℕ) → length s ≡ 3 → at + 3 ≤ length w → take at w ++ (s ++ drop 3 (drop at w)) ≡ sets w at s
copied-in w s at e h =
    let l : at + length s ≤ length w = omega arith in
    let k : at + length s ≡ at + 3 = omega arith in
    rw drop-drop (ap (λ (n : ℕ). take at w ++ (s ++ drop n w)) (sym k) ∙ sym (sets-eq s w at l ∙ append_assoc (take at w) s (drop (at + length s) w)))

-- behind the words that stand, in front of zeros
put-behind : (xs s : List ℕ) (m : ℕ) → sets (xs ++ replicate (length s + m) 0) (length xs) s ≡ (xs ++ s) ++ replicate m 0
put-behind xs s m =
    let z : List ℕ = replicate (length s + m) 0 in
    let l : length xs + length s ≤ length (xs ++ z) = omega (arith, length-append xs z, length-replicate {A = ℕ} (length s + m) 0) in
    let left : length s + m - length s ≡ m = omega arith in
    sets-eq s (xs ++ z) (length xs) l
    ∙ (λ i. take_at xs z (length xs) refl i ++ s ++ (drop-append-add xs z (length s) ∙ drop-zeros (length s) (length s + m) ∙ ap (λ (k : ℕ). replicate k 0) left) i)

-- ALL OF THEM
written-behind :
    (ss : List (List ℕ)) → AllByRecursion (λ s. length s ≡ 3) ss → (xs : List ℕ) (n m : ℕ) → length xs ≡ 3 * n
    → written (xs ++ replicate (3 * length ss + m) 0) n ss ≡ (xs ++ flatten ss) ++ replicate m 0
written-behind [] h xs n m e = let z : 3 * 0 + m ≡ m = omega arith in rw (z, append-nil) refl
written-behind (s ∷ ss) h xs n m e =
    let three : length s ≡ 3 = h.0 in
    let z : 3 * suc (length ss) + m ≡ length s + (3 * length ss + m) = omega arith in
    let k : length (xs ++ s) ≡ 3 * (n + 1) = omega (arith, length-append xs s) in
    ap (λ (r : ℕ). written (sets (xs ++ replicate r 0) (3 * n) s) (n + 1) ss) z
    ∙ ap (λ (at : ℕ). written (sets (xs ++ replicate (length s + (3 * length ss + m)) 0) at s) (n + 1) ss) (sym e)
    ∙ ap (λ (w : List ℕ). written w (n + 1) ss) (put-behind xs s (3 * length ss + m))
    ∙ written-behind ss h.1 (xs ++ s) (n + 1) m k
    ∙ ap (λ (w : List ℕ). w ++ replicate m 0) (append_assoc xs s (flatten ss))

length-flatten : (ss : List (List ℕ)) → AllByRecursion (λ s. length s ≡ 3) ss → length (flatten ss) ≡ 3 * length ss
length-flatten [] h = refl
length-flatten (s ∷ ss) h = omega (arith, length-append s (flatten ss), h.0, length-flatten ss h.1)

written-zeros : (ss : List (List ℕ)) → AllByRecursion (λ s. length s ≡ 3) ss → (room : ℕ) → 3 * length ss ≤ room → written (replicate room 0) 0 ss ≡ lent room (flatten ss)
written-zeros ss a room h =
    let z : room ≡ 3 * length ss + (room - length (flatten ss)) = omega (arith, length-flatten ss a) in
    ap (λ (r : ℕ). written (replicate r 0) 0 ss) z ∙ written-behind ss a [] 0 (room - length (flatten ss)) (omega arith)

-- the first k of the starts ss stand in words that were w
module _ (ss : List (List ℕ)) (w : List ℕ) where
  pub record Wrote (k : ℕ) (words : List ℕ) : Type 0 where
    pub long : length words ≡ length w
    pub ahead : written words k (drop k ss) ≡ written w 0 ss

  -- s is the next, in place n
  pub record Next (k n : ℕ) (s : List ℕ) : Type 0 where
    pub within : k < length ss
    pub place : n ≡ k
    pub start : s ≡ get_or ss k s

  pub next-of : (k n : ℕ) (s : List ℕ) → k < length (enumerate_from 0 ss) → (n, s) ≡ get_or (enumerate_from 0 ss) k (n, s) → Next k n s
  next-of k n s h e =
      let l : k < length ss = rw (length-enumerate_from 0 ss) at h in
      let q : (n, s) ≡ (0 + k, get_or ss k s) = e ∙ get_or-enumerate_from 0 ss k (n, s) l in
      let p : n ≡ 0 + k = ap (λ (x : ℕ × List ℕ). x.0) q in
      record { within = l; place = p ∙ zero-add k; start = ap (λ (x : ℕ × List ℕ). x.1) q }

  pub room-for : {k n : ℕ} {s words : List ℕ} → 3 * length ss ≤ length w → Wrote k words → Next k n s → 3 * n + 3 ≤ length words
  room-for h o x = omega (arith, o.long, x.within, x.place)

  pub one-wrote : {k n : ℕ} {s words x : List ℕ} → Wrote k words → Next k n s → x ≡ sets words (3 * n) s → Wrote (k + 1) x
  one-wrote {k} {n} {s} {words} {x} o m e =
      let here : drop k ss ≡ s ∷ drop (k + 1) ss = rw (m.start, add-one k) (drop-cons ss k s m.within) in
      record {
        long = ap length e ∙ length-sets words (3 * n) s ∙ o.long;
        ahead = rw (e, m.place) (rw here at o.ahead);
      }

  pub all-wrote : {k : ℕ} {words : List ℕ} → k ≡ length ss → Wrote k words → words ≡ written w 0 ss
  all-wrote {k} e o = let l : length ss ≤ k = omega arith in rw (drop_of_length-le ss {i = k} l) at o.ahead

-- a `for` over a chain: what it has yielded comes first here, so that the chain's proof is looked for at what is known
module _ {S A B : Type 0} {steps : S → Option A → S → Type 0} {v : A → B} {s : S} (xs : List A) (t u : S) {r : Option A} (y : Yields steps s xs t) where
  pub turn-by : {x : A} → r ≡ Some x → steps t r u → {all : List B} → YieldsList steps v s all → (length xs < length all) × (v x ≡ get_or all (length xs) (v x))
  turn-by {x = x} is step e = YieldsList-turn e xs t y r u x is step

  pub end_by : r ≡ None → steps t r u → {all : List B} → YieldsList steps v s all → length xs ≡ length all
  end_by is step e = (YieldsList-end e xs t y r u is step).1

-- THE ANSWER
module _ (sun : Option SunTimes) (ts : List Trigger) (n : ℕ) (c : n ≡ length (solar_starts sun ts)) where
  pub no-room : {w : List ℕ} → w ≡ replicate (length w) 0 → length w / 3 < n → shown_result count_values (Err LentStores) w ≡ shown_starts (length w) (solar_starts sun ts)
  unfolding shown_result shown_starts declined
  no-room {w} z h = rw (← c, lt-leb n (length w / 3) h) (ap (λ (l : List ℕ). record { number = 30; values = []; lent = l }) z)

  pub has-room : (room : ℕ) → n ≤ room / 3 → 3 * length (solar_starts sun ts) ≤ room
  has-room room h = omega (arith, c, div-add-mod room 3)

  pub shown-all : {w x : List ℕ} → w ≡ replicate (length w) 0 → n ≤ length w / 3 → x ≡ written w 0 (solar_starts sun ts)
      → shown_result count_values (Ok n) x ≡ shown_starts (length w) (solar_starts sun ts)
  unfolding shown_result shown_starts
  shown-all {w} {x} z h e =
      let f : x ≡ lent (length w) (flatten (solar_starts sun ts)) =
      e ∙ ap (λ (l : List ℕ). written l 0 (solar_starts sun ts)) z ∙ written-zeros (solar_starts sun ts) (starts-long sun ts) (length w) (has-room (length w) h) in
      rw (← c, le-leb n (length w / 3) h) (ap (λ (l : List ℕ). record { number = 0; values = count_values n; lent = l }) f)
