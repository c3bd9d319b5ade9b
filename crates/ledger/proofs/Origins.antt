-- While no store is made new, a number tells the activation: number n is that of activation n - 1, with the budget of the set.
use mathlib.Core.Path.{◌≡◌, refl, sym, ap, ap₂}
use Prim.Native.Nat.{ℕ, zero, suc, ◌+◌, ◌≤◌}
use native.Mathlib.Omega.{arith}
use mathlib.Core.Bool.{Bool, true, false, not, false≢true}
use mathlib.Core.List.{List, [], ◌∷◌, map}
use Rattle.std.specs.Prelude.{Option, None, Some}
use lib.Dec.{eqb}
use lib.ListN.{length}
use borrow.Author.Tests.{eqb-true, eqb-false, eq-eqb, ne_eqb}
use Rattle.std.proofs.lemmas.Bool.{or_parts}
use Rattle.words.specs.Saturating.{max64}
use Rattle.model.specs.World.{now_of}
use Rattle.model.specs.Lists.{all}
use Rattle.model.specs.Outcome.{Outcome, plain, disables, defers, Item, started, resumed, aborted, paid}
use Rattle.model.specs.Calls.{Call, new, load, unload, enable, tick, run, deadline, counters}
use Rattle.ledger.specs.Ledger.{Event, made, cleared, disabled, ticked, ran, traced, Activation, Posting, Ledger, struck, staying, accept, post_report, resumed_payer, post_item, post, post_all, events_of, is_new}
use Rattle.ledger.specs.Effects.{same_activation, from, only_if, origins, shown_with, numbers_of, number_of, is_zero}
use Rattle.ledger.specs.Log.{effects_with, is_in}
use Rattle.ledger.proofs.ListLaws.{by, and_l, and_r, Every, every_append, every-keep}
use Rattle.ledger.proofs.NextNumber.{next-is}
use Rattle.ledger.proofs.Numbers.{is_made, none_made, last_of, last-events, every-tail, every-leaving}

abbrev pub origin_of : ℕ → ℕ → Option Activation
origin_of b zero = None
origin_of b (suc n) = Some (record { number = n; budget = b })

abbrev TiedAt : ℕ → Posting → Type 0
TiedAt b h = h.origin ≡ origin_of b h.number

pub record Tied (l : Ledger) : Type 0 where
  pub postings : Every (TiedAt l.budget) l.standing.postings
  pub due : Every (TiedAt l.budget) l.due
  pub payer : l.payer.origin ≡ origin_of l.budget l.payer.number
  pub count : last_of l ≡ l.count

tied-payer : (b r : ℕ) (ds : List Posting) → Every (TiedAt b) ds → (resumed_payer r ds).origin ≡ origin_of b (resumed_payer r ds).number
tied-payer b r [] h = refl
tied-payer b r (d ∷ ds) h = h.0

tied-item : (i : Item) (l : Ledger) → last_of (post_item i l) ≤ max64 → Tied l → Tied (post_item i l)
unfolding post_item post_report struck accept
tied-item (started r) l f h =
    record { postings = h.postings; due = h.due; payer = rw (next-is (last_of l) f) (ap (λ n. Some (record { number = n; budget = l.budget })) (sym h.count)); count = ap suc h.count }
tied-item (resumed c) l f h =
    record { postings = h.postings; due = every-tail (TiedAt l.budget) l.due h.due; payer = tied-payer l.budget c.rule l.due h.due; count = h.count }
tied-item (aborted r) l f h = h
tied-item (paid x plain g) l f h = record { postings = h.postings; due = h.due; payer = h.payer; count = h.count }
tied-item (paid x (disables q) g) l f h = record { postings = every-keep (TiedAt l.budget) _ l.standing.postings h.postings; due = h.due; payer = h.payer; count = h.count }
tied-item (paid x (defers d ms sp) g) l f h =
    by (eqb (length l.standing.postings) 32)
    (λ t. rw t (record { postings = h.postings; due = h.due; payer = h.payer; count = h.count }))
    (λ n. rw n (record { postings = every_append (TiedAt l.budget) l.standing.postings _ h.postings (h.payer, tt); due = h.due; payer = h.payer; count = h.count }))

tied-event : (m : Event) (l : Ledger) → not (is_made m) ≡ true → last_of (post m l) ≤ max64 → Tied l → Tied (post m l)
unfolding post struck staying
tied-event made l e f h = absurd (false≢true e)
tied-event (cleared b) l e f h = record { postings = tt; due = tt; payer = refl; count = h.count }
tied-event (disabled q) l e f h = record { postings = every-keep (TiedAt l.budget) _ l.standing.postings h.postings; due = h.due; payer = h.payer; count = h.count }
tied-event (ticked t) l e f h =
    record {
      postings = every-keep (TiedAt l.budget) _ l.standing.postings h.postings;
      due = every-leaving (TiedAt l.budget) t l.standing.postings h.postings;
      payer = h.payer;
      count = h.count;
    }
tied-event (ran t) l e f h = record { postings = h.postings; due = tt; payer = h.payer; count = h.count }
tied-event (traced i) l e f h = tied-item i l f h

pub tied-events : (ms : List Event) (l : Ledger) → none_made ms ≡ true → last_of (post_all ms l) ≤ max64 → Tied l → Tied (post_all ms l)
tied-events [] l e f h = h
tied-events (m ∷ ms) l e f h =
    let last = last-events ms (post m l) (and_r (not (is_made m)) _ e) in
    tied-events ms (post m l) (and_r (not (is_made m)) _ e) f (tied-event m l (and_l _ _ e) (omega arith) h)

-- the origins of a trace, by its numbers
none_made_lem : (is : List Item) → none_made (map traced is) ≡ true
none_made_lem [] = refl
none_made_lem (i ∷ is) = none_made_lem is

fits-item : (i : Item) (is : List Item) (l : Ledger) → last_of (post_all (map traced is) (post_item i l)) ≤ max64 → last_of (post_item i l) ≤ max64
fits-item i is l f = let last = last-events (map traced is) (post_item i l) (none_made_lem is) in omega arith

origins-items : (is : List Item) (l : Ledger) → last_of (post_all (map traced is) l) ≤ max64 → Tied l → origins (map traced is) l ≡ map (origin_of l.budget) (numbers_of (map traced is) l)
unfolding post post_item
origins-items [] l f h = refl
origins-items (started r ∷ is) l f h =
    let t = tied-item (started r) l (fits-item (started r) is l (unfold post in f)) h in
    ap₂ ◌∷◌ (unfold post_item in t.payer) (origins-items is (post_item (started r) l) f t)
origins-items (resumed c ∷ is) l f h =
    let t = tied-item (resumed c) l (fits-item (resumed c) is l (unfold post in f)) h in
    ap₂ ◌∷◌ (unfold post_item in t.payer) (origins-items is (post_item (resumed c) l) f t)
origins-items (aborted r ∷ is) l f h = ap (λ ws. None ∷ ws) (origins-items is (post_item (aborted r) l) f (tied-item (aborted r) l (fits-item (aborted r) is l (unfold post in f)) h))
origins-items (paid x s g ∷ is) l f h = origins-items is (post_item (paid x s g) l) f (tied-item (paid x s g) l (fits-item (paid x s g) is l (unfold post in f)) h)

-- A CALL -----------------------------------------------------------------------------------------------------------------------------
pub call-none-made : (r : Bool) (c : Call) (tr : List Item) → not (is_new c) ≡ true → none_made (events_of r c tr) ≡ true
unfolding events_of
call-none-made true c tr e = refl
call-none-made false (new t) tr e = absurd (false≢true e)
call-none-made false (load t img) tr e = refl
call-none-made false (unload t) tr e = refl
call-none-made false (enable q true) tr e = refl
call-none-made false (enable q false) tr e = refl
call-none-made false (tick snap os es) tr e = none_made_lem tr
call-none-made false (run q true snap os es) tr e = refl
call-none-made false (run q false snap os es) tr e = none_made_lem tr
call-none-made false deadline tr e = refl
call-none-made false counters tr e = refl

pub call-origins : (r : Bool) (c : Call) (tr : List Item) (l : Ledger) → last_of (post_all (events_of r c tr) l) ≤ max64 → Tied l → origins (events_of r c tr) l ≡ map (origin_of l.budget) (numbers_of (events_of r c tr) l)
unfolding events_of post
call-origins true c tr l f h = refl
call-origins false (new t) tr l f h = refl
call-origins false (load t img) tr l f h = refl
call-origins false (unload t) tr l f h = refl
call-origins false (enable q true) tr l f h = refl
call-origins false (enable q false) tr l f h = refl
call-origins false (tick snap os es) tr l f h =
    let p = post (ticked (now_of snap)) l in
    let last = last-events (map traced tr) p (none_made_lem tr) in
    origins-items tr p f (tied-event (ticked (now_of snap)) l refl (omega arith) h)
call-origins false (run q true snap os es) tr l f h = refl
call-origins false (run q false snap os es) tr l f h =
    let p = post (ran (now_of snap)) l in
    let last = last-events (map traced tr) p (none_made_lem tr) in
    origins-items tr p f (tied-event (ran (now_of snap)) l refl (omega arith) h)
call-origins false deadline tr l f h = refl
call-origins false counters tr l f h = refl

-- EFFECTS BY NUMBER AND BY ORIGIN ------------------------------------------------------------------------------------------------------
abbrev pub act : ℕ → ℕ → Activation
act m b = record { number = m; budget = b }

from-origin : (m b n : ℕ) → from (act m b) (origin_of b n) ≡ eqb (suc m) n
unfolding same_activation
from-origin m b zero = sym (ne_eqb (suc m) 0 (λ e. omega arith))
from-origin m b (suc k) =
    by (eqb m k)
    (λ t. let e = eqb-true m k t in rw (t, eq-eqb b b refl) (sym (eq-eqb (suc m) (suc k) (ap suc e))))
    (λ f. let e = eqb-false m k f in rw f (sym (ne_eqb (suc m) (suc k) (λ z. e (omega arith)))))

pub same-effects : (m b : ℕ) (os : List Outcome) → effects_with (suc m) os ≡ shown_with (act m b) (map (origin_of b) (map number_of os)) os
same-effects m b [] = refl
same-effects m b (o ∷ os) = ap₂ (λ t r. only_if t (length o.effects) + r) (sym (from-origin m b o.number)) (same-effects m b os)

pub none-effects : (n : ℕ) (os : List Outcome) → is_in n (map number_of os) ≡ false → effects_with n os ≡ 0
none-effects n [] h = refl
none-effects n (o ∷ os) h = let b = or_parts (eqb n o.number) _ h in let i = none-effects n os b.1 in rw b.0 (omega arith)

not-from : (m b b' n : ℕ) → eqb (suc m) n ≡ false → from (act m b') (origin_of b n) ≡ false
unfolding same_activation
not-from m b b' zero h = refl
not-from m b b' (suc k) h = rw (ne_eqb m k (λ e. eqb-false (suc m) (suc k) h (ap suc e)))

pub none-origins : (m b b' : ℕ) (ns : List ℕ) (os : List Outcome) → is_in (suc m) ns ≡ false → shown_with (act m b') (map (origin_of b) ns) os ≡ 0
none-origins m b b' [] os h = refl
none-origins m b b' (n ∷ ns) [] h = refl
none-origins m b b' (n ∷ ns) (o ∷ os) h =
    let c = or_parts (eqb (suc m) n) _ h in
    let i = none-origins m b b' ns os c.1 in
    rw (not-from m b b' n c.0) (omega arith)

-- numbers that are all 0
pub zeros-none : (m : ℕ) (ns : List ℕ) → all is_zero ns ≡ true → is_in (suc m) ns ≡ false
zeros-none m [] h = refl
zeros-none m (n ∷ ns) h =
    let z = eqb-true n 0 (and_l _ _ h) in
    rw (ne_eqb (suc m) n (λ e. omega arith)) (zeros-none m ns (and_r (is_zero n) _ h))
