-- The calls that change a store, from the words that the code writes. Assumes nothing.
use mathlib.Core.Path.{◌≡◌, refl, sym, ap, ◌∙◌, subst}
use mathlib.Core.Bool.{Bool, true, false}
use mathlib.Core.List.{List, [], ◌∷◌, ◌++◌}
use Rattle.std.specs.Prelude.{Option, None, Some}
use Prim.Native.Nat.{ℕ, zero, suc, ◌+◌, ◌^◌, ◌≤◌, ◌<◌}
use native.Mathlib.Omega.{arith}
use lib.ListN.{length, get_or, take, drop, length-drop, length-map}
use borrow.Author.Tests.{lt-ltb, le-leb}
use Rattle.std.proofs.lemmas.Bool.{and_from}
use Rattle.words.specs.Saturating.{max32, max64}
use Rattle.model.specs.declared.Pending.{Pending}
use Rattle.model.specs.Lists.{all}
use Rattle.model.specs.Codec.{wide, rows_at}
use Rattle.model.specs.Parts.{any, variable_row, timer_row, loaded_part}
use Rattle.model.specs.Parts as parts
use Rattle.model.specs.State as model
use Rattle.model.specs.State.{RuleSet, Store, strike}
use Rattle.model.specs.Store.{read, write, loaded_of, rule_count, variable_of, Keeps}
use Rattle.model.specs.Flat.{flatten_rules, set_of}
use Rattle.model.specs.Load.{image_refusal}
use Rattle.model.specs.Calls as calls
use Rattle.model.specs.Calls.{load, unload, enable, done, refused, enabled, answered, rest_with, rest_without, loading, call_load, call_unload, flipped, enabling, rule_in, call_enable, counters_of, call}
use Rattle.model.proofs.PartsLaws.{variable-laws, timer-laws}
use Rattle.model.proofs.PartsLaws as parts_laws
use Rattle.model.specs.OnWords.{call_on}
use Rattle.ledger.specs.Demand3.{is_word, in_words}
use Rattle.ledger.proofs.CallRules.{call-keeps}
use Rattle.state.specs.Cuts.{cut}
use Rattle.state.specs.Meaning.{pending_row, part_sizes, part, pending_part, stored_in, records_in, Sound, Means, AllNumbered, Below, meaning, base, accepted, stored_count, pending_count}
use Rattle.state.proofs.Follows.{accepted-by-next}
use Rattle.state.proofs.Frame.{table-part}
use Rattle.state.proofs.Records.{pending-laws}
use Rattle.state.proofs.Typed.{holds-count}
use Rattle.rows.specs.Places.{row_at, table_at, laid}
use Rattle.store.specs.Places.{set_place, variables_place, timers_place, pending_place, counters_place}
use Rattle.store.specs.Volatile.{changing_in, Wrote}
use Rattle.store.proofs.Parts.{variables-at, timers-at, pending-at, counters-at, table-long}
use Rattle.store.proofs.Stored.{from-read, volatile-read}
use Rattle.model.proofs.RefusalLaws.{refusal-some}
use Rattle.engine.specs.Seen.{seen}
use Rattle.std.specs.Prelude.{Ok, Err}
use Rattle.model.specs.Refusals.{refusal_code}
use Rattle.model.specs.declared.Refusal.{Refusal}
use Rattle.engine.specs.Answers.{no_values, enabled_values, shown}
use Rattle.engine.specs.Sets.{cleared}
use Rattle.engine.proofs.Seeing.{same-done, same-refused, same-enabled, no-outcomes, no-effects, OnStore, call-seen}
use Rattle.engine.proofs.WordLaws.{Said, all-written, volatile-written}
use Rattle.store.proofs.RecordRules.{found_none, found_at}

-- the same value, by what it says itself
pub itself : {v : List ℕ} {m : model.Volatile} → AllNumbered v m → AllNumbered v (meaning v)
itself a =
    record { says = refl; sound = a.sound; stored = a.stored; none_accepted = a.none_accepted; last_fits = subst (λ (x : model.Volatile). x.last_number ≤ max64) (sym a.says) a.last_fits }

pub says-wrote : (v : List ℕ) (m : model.Volatile) (w w' : List ℕ) → AllNumbered v m → Wrote w (meaning v) w' → Wrote w m w'
says-wrote v m w w' a h = subst (λ (x : model.Volatile). Wrote w x w') a.says h

-- UNLOAD -----------------------------------------------------------------------------------------------------------------------------------
unload-words : (t : ℕ) → t < 2 ^ 64 → in_words (unload t) ≡ true
unfolding in_words
unload-words t h = lt-ltb t (2 ^ 64) h

pub unload-on : (t : ℕ) (w : List ℕ) → OnStore (unload t) w
unfolding call_on
unload-on t w = refl

abbrev unloaded : ℕ → Store → Store
unloaded t s = record { now = t; loaded = None; vol = cleared (rest_without s) s.vol }

unload-store : (t : ℕ) (s : Store) → (call (unload t) s).store ≡ unloaded t s
unfolding call call_unload
unload-store t s = refl

unload-answer : (t : ℕ) (s : Store) → (call (unload t) s).answer ≡ done
unfolding call call_unload
unload-answer t s = refl

pub unload-seen : (t : ℕ) (w w₁ w₂ w₃ : List ℕ) (u : List ℕ) → t < 2 ^ 64 → (k : Said w) → AllNumbered u (cleared (rest_without k.store) k.store.vol)
    → w₁ ≡ laid w set_place (loaded_part.put (loaded_of None)) → Wrote w₁ (meaning u) w₂ → w₃ ≡ laid w₂ 0 (wide.put t)
    → shown no_values (Ok tt) w₃ [] [] ≡ seen (call_on (unload t) w)
unload-seen t w w₁ w₂ w₃ u h k a e₁ e₂ e₃ =
    let s = k.store in
    let s' = unloaded t s in
    let k' : Keeps s' = subst Keeps (unload-store t s) (call-keeps (unload t) s (unload-words t h) k.keeps) in
    let e = all-written s s' w w₁ w₂ w₃ k.keeps k' k.written e₁ (says-wrote u s'.vol w₁ w₂ a e₂) e₃ in
    call-seen no_values (unload t) w w₃ [] [] s (Ok tt) done (unload-on t w) k.is (unload-answer t s) (same-done tt) (e ∙ sym (ap write (unload-store t s))) (no-outcomes 0 done refl) (no-effects 0 done refl)

-- LOAD -------------------------------------------------------------------------------------------------------------------------------------
pub words-fit : (l : List ℕ) → ((i : ℕ) → get_or l i 0 ≤ max32) → all is_word l ≡ true
words-fit [] h = refl
words-fit (x ∷ l) h = and_from _ _ (le-leb x max32 (h 0)) (words-fit l (λ i. h (suc i)))

load-words : (t : ℕ) (img : List ℕ) → t < 2 ^ 64 → all is_word img ≡ true → in_words (load t img) ≡ true
unfolding in_words
load-words t img h a = and_from _ _ (lt-ltb t (2 ^ 64) h) a

pub load-on : (t : ℕ) (img w : List ℕ) → OnStore (load t img) w
unfolding call_on
load-on t img w = refl

abbrev loaded_store : ℕ → List ℕ → Store → Store
loaded_store t img s = record { now = t; loaded = Some (set_of img (flatten_rules img)); vol = cleared (rest_with img t s) s.vol }

load-call : (t : ℕ) (img : List ℕ) (s : Store) → image_refusal img ≡ 0 → call (load t img) s ≡ answered done (loaded_store t img s)
unfolding call call_load image_refusal
load-call t img s e = ap (λ (n : ℕ). loading n t img (flatten_rules img) s) e

pub load-seen : (t : ℕ) (img w w₁ w₂ w₃ : List ℕ) (u : List ℕ) → t < 2 ^ 64 → all is_word img ≡ true → image_refusal img ≡ 0 → (k : Said w)
    → AllNumbered u (cleared (rest_with img t k.store) k.store.vol)
    → w₁ ≡ laid w set_place (loaded_part.put (loaded_of (Some (set_of img (flatten_rules img))))) → Wrote w₁ (meaning u) w₂ → w₃ ≡ laid w₂ 0 (wide.put t)
    → shown no_values (Ok tt) w₃ [] [] ≡ seen (call_on (load t img) w)
load-seen t img w w₁ w₂ w₃ u h i r k a e₁ e₂ e₃ =
    let s = k.store in
    let s' = loaded_store t img s in
    let d = load-call t img s r in
    let k' : Keeps s' = subst Keeps (ap (λ (x : calls.Done). x.store) d) (call-keeps (load t img) s (load-words t img h i) k.keeps) in
    let e = all-written s s' w w₁ w₂ w₃ k.keeps k' k.written e₁ (says-wrote u s'.vol w₁ w₂ a e₂) e₃ in
    call-seen no_values (load t img) w w₃ [] [] s (Ok tt) done (load-on t img w) k.is (ap (λ (x : calls.Done). x.answer) d) (same-done tt) (e ∙ sym (ap (λ (x : calls.Done). write x.store) d)) (no-outcomes 0 done refl) (no-effects 0 done refl)

load-declines : (t : ℕ) (img : List ℕ) (s : Store) (n : ℕ) → n ≡ image_refusal img → (n ≡ 0 → ⊥) → call (load t img) s ≡ answered (refused n) s
unfolding call call_load image_refusal
load-declines t img s zero e z = absurd (z refl)
load-declines t img s (suc n) e z = ap (λ (m : ℕ). loading m t img (flatten_rules img) s) (sym e)

pub load-refused : {A : Type 0} (f : A → List ℕ) (t : ℕ) (img w : List ℕ) (r : Refusal) (k : Said w) → refusal_code r ≡ image_refusal img → shown f (Err r) w [] [] ≡ seen (call_on (load t img) w)
load-refused f t img w r k e =
    let s = k.store in
    let a = refused (refusal_code r) in
    let d = load-declines t img s (refusal_code r) e (refusal-some r) in
    call-seen f (load t img) w w [] [] s (Err r) a (load-on t img w) k.is (ap (λ (x : calls.Done). x.answer) d) (same-refused f r (refusal_code r) refl) refl (no-outcomes 0 a refl) (no-effects 0 a refl)

-- ENABLE -----------------------------------------------------------------------------------------------------------------------------------
-- a value whose next number stands has no offset
none_left : (ps : List Pending) → Below 0 ps → length ps ≡ 0
none_left [] b = refl
none_left (p ∷ ps) b = absurd (omega (arith, b.0))

pub same_numbers : (v : List ℕ) (b : ℕ) (m : model.Volatile) → Sound v → Means v b m → m.next ≡ b → m.last_number ≤ max64 → AllNumbered v m
unfolding accepted stored_count pending_count
same_numbers v b m q h e f =
    let l = records_in (cut part_sizes v) in
    let k = stored_in (cut part_sizes v) in
    let z : accepted v ≡ 0 = omega (arith, accepted-by-next v b m h, e) in
    let n = none_left (drop k l) (subst (λ (x : ℕ). Below x (drop k l)) z q.parts.offsets) in
    let c = holds-count pending_row pending-laws 32 (part pending_part v) l (table-part pending_row pending-laws pending_part 32 (omega arith) refl v q) in
    record { says = h.says; sound = q; stored = omega (arith, q.parts.stored, c, n, length-drop k l); none_accepted = z; last_fits = f }

flipped-next : (rule i : ℕ) (on : Bool) (m : model.Volatile) → (flipped rule i on m).next ≡ m.next
unfolding strike
flipped-next rule i true m = refl
flipped-next rule i false m = refl

flipped-last : (rule i : ℕ) (on : Bool) (m : model.Volatile) → (flipped rule i on m).last_number ≡ m.last_number
unfolding strike
flipped-last rule i true m = refl
flipped-last rule i false m = refl

pub next-is : (v : List ℕ) (m : model.Volatile) → AllNumbered v m → m.next ≡ base v
next-is v m a =
    let e = accepted-by-next v (base v) m (record { says = a.says; based = refl }) in
    omega (arith, e, a.none_accepted)

pub flipped-numbers : (v u : List ℕ) (s : Store) (rule i : ℕ) (on : Bool) → Sound u → AllNumbered v s.vol → Means u (base v) (flipped rule i on (meaning v))
    → AllNumbered u (flipped rule i on s.vol)
flipped-numbers v u s rule i on q a h =
    let h' : Means u (base v) (flipped rule i on s.vol) = subst (λ (m : model.Volatile). Means u (base v) (flipped rule i on m)) a.says h in
    same_numbers u (base v) (flipped rule i on s.vol) q h' (flipped-next rule i on s.vol ∙ next-is v s.vol a) (omega (arith, flipped-last rule i on s.vol, a.last_fits))

pub enable-on : (rule : ℕ) (on : Bool) (w : List ℕ) → OnStore (enable rule on) w
unfolding call_on
enable-on rule on w = refl

enable-call : (rule : ℕ) (on : Bool) (s : Store) (o : Option ℕ) → rule_in s.loaded rule ≡ o → call (enable rule on) s ≡ enabling o rule on s
unfolding call call_enable
enable-call rule on s o e = ap (λ (x : Option ℕ). enabling x rule on s) e

pub enable-no : (rule : ℕ) (on : Bool) (w : List ℕ) (k : Said w) (r : Option ℕ) → r ≡ rule_in k.store.loaded rule → r ≡ None
    → shown enabled_values (Ok false) w [] [] ≡ seen (call_on (enable rule on) w)
enable-no rule on w k r e n =
    let s = k.store in
    let d = enable-call rule on s None (found_none (rule_in s.loaded rule) r e n) in
    let a = enabled false in
    call-seen enabled_values (enable rule on) w w [] [] s (Ok false) a (enable-on rule on w) k.is (ap (λ (x : calls.Done). x.answer) d) (same-enabled false) (sym k.written ∙ sym (ap (λ (x : calls.Done). write x.store) d)) (no-outcomes 0 a refl) (no-effects 0 a refl)

pub enable-yes : (rule i : ℕ) (on : Bool) (w w₁ : List ℕ) (u : List ℕ) (k : Said w) (r : Option ℕ) → r ≡ rule_in k.store.loaded rule → r ≡ Some i
    → AllNumbered u (flipped rule i on k.store.vol) → Wrote w (meaning u) w₁ → shown enabled_values (Ok true) w₁ [] [] ≡ seen (call_on (enable rule on) w)
enable-yes rule i on w w₁ u k r e n a h =
    let s = k.store in
    let v = flipped rule i on s.vol in
    let d = enable-call rule on s (Some i) (found_at (rule_in s.loaded rule) r i e n) in
    let q = volatile-written s v w w₁ k.keeps k.written (says-wrote u v w w₁ a h) in
    let b = enabled true in
    call-seen enabled_values (enable rule on) w w₁ [] [] s (Ok true) b (enable-on rule on w) k.is (ap (λ (x : calls.Done). x.answer) d) (same-enabled true) (q ∙ sym (ap (λ (x : calls.Done). write x.store) d)) (no-outcomes 0 b refl) (no-effects 0 b refl)

-- COUNTERS ----------------------------------------------------------------------------------------------------------------------------------
-- rows of one word are the words
any_words : (n : ℕ) (v : List ℕ) → n ≤ length v → take n v ≡ rows_at any n v
unfolding rows_at
any_words zero v l = refl
any_words (suc n) [] l = absurd (omega arith)
any_words (suc n) (x ∷ v) l = ap (λ (t : List ℕ). x ∷ t) (any_words n v (omega arith))

pub counters-are : (w : List ℕ) (s : Store) (p t n q : ℕ) → read w ≡ Some s
    → p ≡ row_at any w pending_place → t ≡ row_at any w timers_place → n ≡ rule_count s.loaded → q ≡ row_at any w variables_place
    → take 12 (drop counters_place w) ++ (p ∷ t ∷ n ∷ q ∷ []) ≡ counters_of s
unfolding counters_of table_at
counters-are w s p t n q i ep et en eq =
    let r = from-read w s i in
    let v = volatile-read w s r in
    let m = changing_in w in
    let l : 12 ≤ length (drop counters_place w) = omega (arith, length-drop counters_place w, r.readable.long) in
    let a : take 12 (drop counters_place w) ≡ s.vol.rest.counters = any_words 12 (drop counters_place w) l ∙ sym (counters-at w) ∙ ap (λ (x : model.Volatile). x.rest.counters) v in
    let f : p ≡ length s.vol.pending =
    ep ∙ sym (ap length (pending-at w) ∙ table-long parts.pending_row parts_laws.pending-laws (row_at any w pending_place) w (pending_place + 1)) ∙ ap (λ (x : model.Volatile). length x.pending) v in
    let g : t ≡ length s.vol.rest.timers =
    et ∙ sym (ap length (timers-at w) ∙ table-long timer_row timer-laws (row_at any w timers_place) w (timers_place + 1)) ∙ ap (λ (x : model.Volatile). length x.rest.timers) v in
    let k : q ≡ length s.vol.rest.vars =
    eq ∙ sym (ap length (variables-at w) ∙ table-long variable_row variable-laws (row_at any w variables_place) w (variables_place + 1)) ∙ sym (length-map m.variables variable_of) ∙ ap (λ (x : model.Volatile). length x.rest.vars) v in
    λ i. a i ++ (f i ∷ g i ∷ en i ∷ k i ∷ [])
