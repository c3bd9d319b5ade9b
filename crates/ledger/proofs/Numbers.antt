-- The activation numbers of the ledger, over every list of events that makes no store new.
use mathlib.Core.Path.{◌≡◌, refl, sym}
use Prim.Native.Nat.{ℕ, suc, ◌≤◌}
use native.Mathlib.Omega.{arith}
use mathlib.Core.Bool.{Bool, true, false, not, false≢true}
use mathlib.Core.List.{List, [], ◌∷◌, ◌++◌, tail}
use lib.Dec.{leb, eqb}
use lib.ListN.{length}
use borrow.Author.Tests.{lt-ltb, le-ltb, eqb-true, not-true}
use Rattle.words.specs.Saturating.{max64}
use Rattle.model.specs.Lists.{all, keep}
use Rattle.model.specs.State.{next_number}
use Rattle.model.specs.Outcome.{plain, disables, defers, Item, started, resumed, aborted, paid}
use Rattle.ledger.specs.Ledger.{Event, made, cleared, disabled, ticked, ran, traced, Posting, Ledger, struck, staying, leaves_before, leaving, accept, post_report, resumed_payer, post_item, post, post_all}
use Rattle.ledger.specs.Effects.{number_begun, number_on, numbers_of, is_zero}
use Rattle.ledger.specs.Log.{greater, NoGap, greatest}
use Rattle.ledger.proofs.NextNumber.{next-given, next-is}
use Rattle.ledger.proofs.ListLaws.{by, and_l, and_r, Every, every_append, every-keep, every-sort}

abbrev pub is_made : Event → Bool
is_made made = true
is_made (cleared b) = false
is_made (disabled q) = false
is_made (ticked t) = false
is_made (ran t) = false
is_made (traced i) = false

abbrev pub last_of : Ledger → ℕ
last_of l = l.standing.last_number

pub every-imp : {A : Type 0} (P Q : A → Type 0) → ((x : A) → P x → Q x) → (xs : List A) → Every P xs → Every Q xs
every-imp P Q f [] h = tt
every-imp P Q f (x ∷ xs) h = (f x h.0, every-imp P Q f xs h.1)

pub every-tail : {A : Type 0} (P : A → Type 0) (xs : List A) → Every P xs → Every P (tail xs)
every-tail P [] h = tt
every-tail P (x ∷ xs) h = h.1

pub every-leaving : (P : Posting → Type 0) (t : ℕ) (hs : List Posting) → Every P hs → Every P (leaving t hs)
unfolding leaving
every-leaving P t hs h =
    let p : Posting → Bool = λ x. leb x.entry.due t in
    every-sort P leaves_before (keep p hs) (every-keep P p hs h)

-- a fact about a number, given the last one: it stays true, holds of each new number, and of 0
pub record Lasting (G : ℕ → ℕ → Type 0) : Type 0 where
  pub later : (a b k : ℕ) → a ≤ b → G a k → G b k
  pub new : (a k : ℕ) → G a k → G (suc a) (next_number a)
  pub nil : (a k : ℕ) → G a k → G a 0

pub last-item : (i : Item) (l : Ledger) → last_of l ≤ last_of (post_item i l)
unfolding post_item post_report accept
last-item (started r) l = omega arith
last-item (resumed c) l = omega arith
last-item (aborted r) l = omega arith
last-item (paid x plain g) l = omega arith
last-item (paid x (disables q) g) l = omega arith
last-item (paid x (defers d ms sp) g) l = by (eqb (length l.standing.postings) 32) (λ t. rw t (omega arith)) (λ f. rw f (omega arith))

module _ (G : ℕ → ℕ → Type 0) (law : Lasting G) where
  abbrev pub Fits : ℕ → Posting → Type 0
  Fits n h = G n h.number

  -- of all numbers that the ledger holds
  pub record Holds (l : Ledger) : Type 0 where
    pub postings : Every (Fits (last_of l)) l.standing.postings
    pub due : Every (Fits (last_of l)) l.due
    pub payer : G (last_of l) l.payer.number

  payer-resumed : (n k r : ℕ) (ds : List Posting) → G n k → Every (Fits n) ds → G n (resumed_payer r ds).number
  payer-resumed n k r [] g h = law.nil n k g
  payer-resumed n k r (d ∷ ds) g h = h.0

  pub item-holds : (i : Item) (l : Ledger) → Holds l → Holds (post_item i l)
  unfolding post_item post_report struck accept
  item-holds (started r) l h =
      let n = last_of l in
      let up : (x : Posting) → Fits n x → Fits (suc n) x = λ x. law.later n (suc n) x.number (omega arith) in
      record { postings = every-imp (Fits n) (Fits (suc n)) up l.standing.postings h.postings; due = every-imp (Fits n) (Fits (suc n)) up l.due h.due; payer = law.new n l.payer.number h.payer }
  item-holds (resumed c) l h =
      record { postings = h.postings; due = every-tail (Fits (last_of l)) l.due h.due; payer = payer-resumed (last_of l) l.payer.number c.rule l.due h.payer h.due }
  item-holds (aborted r) l h = h
  item-holds (paid x plain g) l h = record { postings = h.postings; due = h.due; payer = h.payer }
  item-holds (paid x (disables q) g) l h = record { postings = every-keep (Fits (last_of l)) _ l.standing.postings h.postings; due = h.due; payer = h.payer }
  item-holds (paid x (defers d ms sp) g) l h =
      by (eqb (length l.standing.postings) 32)
      (λ t. rw t (record { postings = h.postings; due = h.due; payer = h.payer }))
      (λ f. rw f (record { postings = every_append (Fits (last_of l)) l.standing.postings _ h.postings (h.payer, tt); due = h.due; payer = h.payer }))

  pub event-holds : (m : Event) (l : Ledger) → is_made m ≡ false → Holds l → Holds (post m l)
  unfolding post struck staying
  event-holds made l e h = absurd (false≢true (sym e))
  event-holds (cleared b) l e h = record { postings = tt; due = tt; payer = law.nil (last_of l) l.payer.number h.payer }
  event-holds (disabled q) l e h = record { postings = every-keep (Fits (last_of l)) _ l.standing.postings h.postings; due = h.due; payer = h.payer }
  event-holds (ticked t) l e h =
      record {
        postings = every-keep (Fits (last_of l)) _ l.standing.postings h.postings;
        due = every-leaving (Fits (last_of l)) t l.standing.postings h.postings;
        payer = h.payer;
      }
  event-holds (ran t) l e h = record { postings = h.postings; due = tt; payer = h.payer }
  event-holds (traced i) l e h = item-holds i l h

  -- .. and of all that are shown
  pub shown-item : (i : Item) (l : Ledger) → Holds l → Every (G (last_of l)) (number_begun i l)
  shown-item (started r) l h = (h.payer, tt)
  shown-item (resumed c) l h = (h.payer, tt)
  shown-item (aborted r) l h = (law.nil (last_of l) l.payer.number h.payer, tt)
  shown-item (paid x s g) l h = tt

-- NO GAP ---------------------------------------------------------------------------------------------------------------------------
abbrev pub Given : ℕ → ℕ → Type 0
Given last k = k ≤ last

pub given-lasts : Lasting Given
given-lasts = record { later = λ a b k le h. omega arith; new = λ a k h. next-given a; nil = λ a k h. omega arith }

pub greater-low : (g n : ℕ) → n ≤ g → greater g n ≡ g
greater-low g n le = rw (le-ltb g n le)

greater_next : (g : ℕ) → greater g (suc g) ≡ suc g
greater_next g = rw (lt-ltb g (suc g) (omega arith))

-- numbers without a gap up to g, and the greatest of them
pub record Gapless (g : ℕ) (ns : List ℕ) (g' : ℕ) : Type 0 where
  pub gapless : NoGap g ns
  pub top : greatest g ns ≡ g'

pub gapless-append : (g g' g'' : ℕ) (xs ys : List ℕ) → Gapless g xs g' → Gapless g' ys g'' → Gapless g (xs ++ ys) g''
gapless-append g g' g'' [] ys p q = rw p.top q
gapless-append g g' g'' (x ∷ xs) ys p q =
    let i = gapless-append (greater g x) g' g'' xs ys (record { gapless = p.gapless.1; top = p.top }) q in
    record { gapless = (p.gapless.0, i.gapless); top = i.top }

pub gapless-low : (g n : ℕ) → n ≤ g → Gapless g (n ∷ []) g
gapless-low g n le = record { gapless = (omega arith, tt); top = greater-low g n le }

item-gapless : (i : Item) (l : Ledger) → last_of (post_item i l) ≤ max64 → Holds Given given-lasts l → Gapless (last_of l) (number_begun i (post_item i l)) (last_of (post_item i l))
unfolding post_item post_report accept
item-gapless (started r) l f h = rw (next-is (last_of l) f) (record { gapless = (omega arith, tt); top = greater_next (last_of l) })
item-gapless (resumed c) l f h = gapless-low (last_of l) _ (unfold post_item in (item-holds Given given-lasts (resumed c) l h).payer)
item-gapless (aborted r) l f h = gapless-low (last_of l) 0 (omega arith)
item-gapless (paid x plain g) l f h = record { gapless = tt; top = refl }
item-gapless (paid x (disables q) g) l f h = record { gapless = tt; top = refl }
item-gapless (paid x (defers d ms sp) g) l f h = by (eqb (length l.standing.postings) 32) (λ t. rw t (record { gapless = tt; top = refl })) (λ n. rw n (record { gapless = tt; top = refl }))

-- EVENTS -----------------------------------------------------------------------------------------------------------------------------
-- no store is made new
abbrev pub none_made : List Event → Bool
none_made ms = all (λ m. not (is_made m)) ms

last-event : (m : Event) (l : Ledger) → not (is_made m) ≡ true → last_of l ≤ last_of (post m l)
unfolding post
last-event made l e = absurd (false≢true e)
last-event (cleared b) l e = omega arith
last-event (disabled q) l e = omega arith
last-event (ticked t) l e = omega arith
last-event (ran t) l e = omega arith
last-event (traced i) l e = last-item i l

pub last-events : (ms : List Event) (l : Ledger) → none_made ms ≡ true → last_of l ≤ last_of (post_all ms l)
last-events [] l e = omega arith
last-events (m ∷ ms) l e =
    let a = last-event m l (and_l _ _ e) in
    let b = last-events ms (post m l) (and_r (not (is_made m)) _ e) in
    omega arith

module _ (G : ℕ → ℕ → Type 0) (law : Lasting G) where
  pub events-hold : (ms : List Event) (l : Ledger) → none_made ms ≡ true → Holds G law l → Holds G law (post_all ms l)
  events-hold [] l e h = h
  events-hold (m ∷ ms) l e h = events-hold ms (post m l) (and_r (not (is_made m)) _ e) (event-holds G law m l (not-true (is_made m) (and_l _ _ e)) h)

  shown-event : (m : Event) (l : Ledger) → Holds G law l → Every (G (last_of l)) (number_on m l)
  shown-event made l h = tt
  shown-event (cleared b) l h = tt
  shown-event (disabled q) l h = tt
  shown-event (ticked t) l h = tt
  shown-event (ran t) l h = tt
  shown-event (traced i) l h = shown-item G law i l h

  pub events-shown : (ms : List Event) (l : Ledger) → none_made ms ≡ true → Holds G law l → Every (G (last_of (post_all ms l))) (numbers_of ms l)
  events-shown [] l e h = tt
  events-shown (m ∷ ms) l e h =
      let p = post m l in
      let k = event-holds G law m l (not-true (is_made m) (and_l _ _ e)) h in
      every_append (G (last_of (post_all ms p))) (number_on m p) (numbers_of ms p)
      (every-imp (G (last_of p)) (G (last_of (post_all ms p))) (λ x. law.later (last_of p) (last_of (post_all ms p)) x (last-events ms p (and_r (not (is_made m)) _ e))) (number_on m p) (shown-event m p k))
      (events-shown ms p (and_r (not (is_made m)) _ e) k)

event-gapless : (m : Event) (l : Ledger) → not (is_made m) ≡ true → last_of (post m l) ≤ max64 → Holds Given given-lasts l → Gapless (last_of l) (number_on m (post m l)) (last_of (post m l))
unfolding post
event-gapless made l e f h = absurd (false≢true e)
event-gapless (cleared b) l e f h = record { gapless = tt; top = refl }
event-gapless (disabled q) l e f h = record { gapless = tt; top = refl }
event-gapless (ticked t) l e f h = record { gapless = tt; top = refl }
event-gapless (ran t) l e f h = record { gapless = tt; top = refl }
event-gapless (traced i) l e f h = item-gapless i l f h

pub events-gapless : (ms : List Event) (l : Ledger) → none_made ms ≡ true → last_of (post_all ms l) ≤ max64 → Holds Given given-lasts l → Gapless (last_of l) (numbers_of ms l) (last_of (post_all ms l))
events-gapless [] l e f h = record { gapless = tt; top = refl }
events-gapless (m ∷ ms) l e f h =
    let last = last-events ms (post m l) (and_r (not (is_made m)) _ e) in
    gapless-append (last_of l) (last_of (post m l)) (last_of (post_all ms (post m l))) (number_on m (post m l)) (numbers_of ms (post m l)) (event-gapless m l (and_l _ _ e) (omega arith) h)
    (events-gapless ms (post m l) (and_r (not (is_made m)) _ e) f (event-holds Given given-lasts m l (not-true (is_made m) (and_l _ _ e)) h))

-- numbers that are all 0 change nothing
pub zeros-gapless : (g : ℕ) (ns : List ℕ) → all is_zero ns ≡ true → Gapless g ns g
zeros-gapless g [] h = record { gapless = tt; top = refl }
zeros-gapless g (n ∷ ns) h =
    let z = eqb-true n 0 (and_l _ _ h) in
    gapless-append g g g (n ∷ []) ns (gapless-low g n (omega arith)) (zeros-gapless g ns (and_r (is_zero n) _ h))
