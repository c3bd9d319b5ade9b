-- An accepted continuation resumes once, with its stored budget, where the events behind it say so, or never.
use mathlib.Core.Path.{◌≡◌, refl, sym, ◌∙◌, ap}
use Prim.Native.Nat.{ℕ, suc, ◌≤◌, ◌<◌}
use native.Mathlib.Omega.{arith}
use mathlib.Core.Bool.{Bool, true, false, not, true≢false}
use mathlib.Core.List.{List, [], ◌∷◌, ◌++◌, map, append-nil, append_assoc}
use Rattle.std.specs.Prelude.{Option, None}
use lib.Dec.{leb, ltb, eqb}
use lib.ListN.{length}
use borrow.Author.Tests.{not-true, ltb-true, eq-eqb, ne_eqb, lt-ltb}
use Rattle.model.specs.Lists.{keep, all, flatten}
use Rattle.model.specs.World.{now_of}
use Rattle.model.specs.declared.Step.{Step}
use Rattle.model.specs.declared.Point.{Point}
use Rattle.model.specs.declared.Effect.{Effect}
use Rattle.model.specs.Outcome.{plain, disables, defers, Item, started, resumed, aborted, paid}
use Rattle.model.specs.declared.Pending.{Pending}
use Rattle.model.specs.State.{Store}
use Rattle.model.specs.Calls.{Call, new, load, unload, enable, tick, run, deadline, counters}
use Rattle.model.proofs.Bools.{all_append}
use Rattle.ledger.proofs.Sound.{Sound}
use Rattle.ledger.specs.Ledger.{Event, made, cleared, disabled, ticked, ran, traced, Posting, Standing, Ledger, leaves_before, leaving, staying, struck, accept, post_report, post_item, post, post_all, entry_of, start_ledger, Notice, events_of, leaving_at, leaving_at_each, notices, post_call}
use Rattle.ledger.specs.Resumptions.{all_events, change_at, tick_number, ticks_in, expected, leaving_on, all_leaving, of_age, resumptions_of, continuation}
use Rattle.ledger.proofs.ListLaws.{all_keep, and_l, and_r, and_from, by}
use Rattle.ledger.proofs.Distinct.{distinct_by}
use Rattle.ledger.proofs.SortLaws.{keep-comm, keep_append, keep-sort-none, keep-sort-one}

-- THE ENTRY OF ONE AGE ------------------------------------------------------------------------------------------------------------
module _ (n : ℕ) where
  pick-accept : (h : Posting) (s : Standing) → n < s.next → h.age ≡ s.next → of_age n (accept h s).postings ≡ of_age n s.postings
  unfolding accept
  pick-accept h s b e =
      by (eqb (length s.postings) 32)
      (λ t. rw t)
      (λ f. rw f (keep_append (λ (x : Posting). eqb x.age n) s.postings (h ∷ []) ∙ rw (ne_eqb h.age n (λ z. omega arith)) (append-nil _)))

  pick-struck : (q : ℕ) (hs : List Posting) → of_age n (struck q hs) ≡ struck q (of_age n hs)
  unfolding struck
  pick-struck q hs = keep-comm _ _ hs

  pick-staying : (t : ℕ) (hs : List Posting) → of_age n (staying t hs) ≡ staying t (of_age n hs)
  unfolding staying
  pick-staying t hs = keep-comm _ _ hs

  next-accept : (h : Posting) (s : Standing) → n < s.next → n < (accept h s).next
  unfolding accept
  next-accept h s b = by (eqb (length s.postings) 32) (λ t. rw t b) (λ f. rw f (omega arith))

  -- an age is given to one entry only
  next-post : (m : Event) (l : Ledger) → n < l.standing.next → n < (post m l).standing.next
  unfolding post post_item post_report
  next-post made l h = h
  next-post (cleared b) l h = h
  next-post (disabled q) l h = h
  next-post (ticked t) l h = h
  next-post (ran t) l h = h
  next-post (traced (started r)) l h = h
  next-post (traced (resumed c)) l h = h
  next-post (traced (aborted r)) l h = h
  next-post (traced (paid x plain g)) l h = h
  next-post (traced (paid x (disables q) g)) l h = h
  next-post (traced (paid x (defers d ms sp) g)) l h = next-accept _ l.standing h

  -- an entry that has left or was struck does not come back
  none-post : (m : Event) (l : Ledger) → n < l.standing.next → of_age n l.standing.postings ≡ [] → of_age n (post m l).standing.postings ≡ []
  unfolding post post_item post_report struck staying
  none-post made l h e = refl
  none-post (cleared b) l h e = refl
  none-post (disabled q) l h e = pick-struck q l.standing.postings ∙ ap (struck q) e
  none-post (ticked t) l h e = pick-staying t l.standing.postings ∙ ap (staying t) e
  none-post (ran t) l h e = e
  none-post (traced (started r)) l h e = e
  none-post (traced (resumed c)) l h e = e
  none-post (traced (aborted r)) l h e = e
  none-post (traced (paid x plain g)) l h e = e
  none-post (traced (paid x (disables q) g)) l h e = pick-struck q l.standing.postings ∙ ap (struck q) e
  none-post (traced (paid x (defers d ms sp) g)) l h e = pick-accept _ l.standing h refl ∙ e

  none-leaves : (m : Event) (l : Ledger) → of_age n l.standing.postings ≡ [] → of_age n (leaving_on m l) ≡ []
  unfolding leaving_on leaving
  none-leaves made l e = refl
  none-leaves (cleared b) l e = refl
  none-leaves (disabled q) l e = refl
  none-leaves (ticked t) l e =
      let p : Posting → Bool = λ h. eqb h.age n in
      let d : Posting → Bool = λ h. leb h.entry.due t in
      keep-sort-none p leaves_before (keep d l.standing.postings) (keep-comm p d l.standing.postings ∙ ap (keep d) e)
  none-leaves (ran t) l e = refl
  none-leaves (traced (started r)) l e = refl
  none-leaves (traced (resumed c)) l e = refl
  none-leaves (traced (aborted r)) l e = refl
  none-leaves (traced (paid x s g)) l e = refl

  gone : (ms : List Event) (i : ℕ) (l : Ledger) → n < l.standing.next → of_age n l.standing.postings ≡ [] → resumptions_of n i ms l ≡ []
  gone [] i l h e = refl
  gone (m ∷ ms) i l h e = rw (none-leaves m l e) (gone ms (tick_number m i) (post m l) (next-post m l h) (none-post m l h e))

  struck-out : (q : ℕ) (hs : List Posting) (h : Posting) → of_age n hs ≡ h ∷ [] → eqb h.entry.rule q ≡ true → of_age n (struck q hs) ≡ []
  unfolding struck
  struck-out q hs h e t = pick-struck q hs ∙ ap (struck q) e ∙ rw t

  struck-in : (q : ℕ) (hs : List Posting) (h : Posting) → of_age n hs ≡ h ∷ [] → eqb h.entry.rule q ≡ false → of_age n (struck q hs) ≡ h ∷ []
  unfolding struck
  struck-in q hs h e f = pick-struck q hs ∙ ap (struck q) e ∙ rw f

  due-leaves : (t : ℕ) (hs : List Posting) (h : Posting) → of_age n hs ≡ h ∷ [] → leb h.entry.due t ≡ true
      → (of_age n (leaving t hs) ≡ h ∷ []) × (of_age n (staying t hs) ≡ [])
  unfolding leaving staying
  due-leaves t hs h e d =
      let p : Posting → Bool = λ x. eqb x.age n in
      let q : Posting → Bool = λ x. leb x.entry.due t in
      (keep-sort-one p leaves_before (keep q hs) h (keep-comm p q hs ∙ ap (keep q) e ∙ rw d), pick-staying t hs ∙ ap (staying t) e ∙ rw d)

  early-stays : (t : ℕ) (hs : List Posting) (h : Posting) → of_age n hs ≡ h ∷ [] → leb h.entry.due t ≡ false
      → (of_age n (leaving t hs) ≡ []) × (of_age n (staying t hs) ≡ h ∷ [])
  unfolding leaving staying
  early-stays t hs h e d =
      let p : Posting → Bool = λ x. eqb x.age n in
      let q : Posting → Bool = λ x. leb x.entry.due t in
      (keep-sort-none p leaves_before (keep q hs) (keep-comm p q hs ∙ ap (keep q) e ∙ rw d), pick-staying t hs ∙ ap (staying t) e ∙ rw d)

  -- an entry that stands, over one event after the other
  stands : (ms : List Event) (i : ℕ) (l : Ledger) (h : Posting) → n < l.standing.next → of_age n l.standing.postings ≡ h ∷ []
      → resumptions_of n i ms l ≡ expected h.entry i ms
  unfolding change_at leaving_on post post_item post_report
  stands [] i l h b e = refl
  stands (made ∷ ms) i l h b e = gone ms i _ b refl
  stands (cleared x ∷ ms) i l h b e = gone ms i _ b refl
  stands (disabled q ∷ ms) i l h b e =
      by (eqb h.entry.rule q)
      (λ t. rw t (gone ms i (post (disabled q) l) b (struck-out q l.standing.postings h e t)))
      (λ f. rw f (stands ms i (post (disabled q) l) h b (struck-in q l.standing.postings h e f)))
  stands (ticked t ∷ ms) i l h b e =
      by (leb h.entry.due t)
      (λ d.
      let z = due-leaves t l.standing.postings h e d in
      rw (d, z.0) (ap (λ ys. record { tick = i; entry = h.entry } ∷ ys) (gone ms (suc i) (post (ticked t) l) b z.1)))
      (λ d.
      let z = early-stays t l.standing.postings h e d in
      rw (d, z.0) (stands ms (suc i) (post (ticked t) l) h b z.1))
  stands (ran t ∷ ms) i l h b e = stands ms i (post (ran t) l) h b e
  stands (traced (started r) ∷ ms) i l h b e = stands ms i (post (traced (started r)) l) h b e
  stands (traced (resumed c) ∷ ms) i l h b e = stands ms i (post (traced (resumed c)) l) h b e
  stands (traced (aborted r) ∷ ms) i l h b e = stands ms i (post (traced (aborted r)) l) h b e
  stands (traced (paid x plain g) ∷ ms) i l h b e = stands ms i (post (traced (paid x plain g)) l) h b e
  stands (traced (paid x (disables q) g) ∷ ms) i l h b e =
      by (eqb h.entry.rule q)
      (λ t. rw t (gone ms i (post (traced (paid x (disables q) g)) l) b (struck-out q l.standing.postings h e t)))
      (λ f. rw f (stands ms i (post (traced (paid x (disables q) g)) l) h b (struck-in q l.standing.postings h e f)))
  stands (traced (paid x (defers d y sp) g) ∷ ms) i l h b e =
      stands ms i (post (traced (paid x (defers d y sp) g)) l) h (next-accept _ l.standing b) (pick-accept _ l.standing b refl ∙ e)

-- ACCEPTED, OR DROPPED -----------------------------------------------------------------------------------------------------------------
abbrev pub below : Ledger → Bool
below l = all (λ (h : Posting). ltb h.age l.standing.next) l.standing.postings

below_suc : (n : ℕ) (hs : List Posting) → all (λ (h : Posting). ltb h.age n) hs ≡ true → all (λ (h : Posting). ltb h.age (suc n)) hs ≡ true
below_suc n [] h = refl
below_suc n (x ∷ xs) h =
    and_from (ltb x.age (suc n)) _ (lt-ltb x.age (suc n) (omega (arith, ltb-true x.age n (and_l _ _ h)))) (below_suc n xs (and_r (ltb x.age n) _ h))

below-accept : (h : Posting) (s : Standing) → h.age ≡ s.next → all (λ (x : Posting). ltb x.age s.next) s.postings ≡ true
    → all (λ (x : Posting). ltb x.age (accept h s).next) (accept h s).postings ≡ true
unfolding accept
below-accept h s e b =
    by (eqb (length s.postings) 32)
    (λ t. rw t b)
    (λ f.
    rw f
    (all_append (λ (x : Posting). ltb x.age (suc s.next)) s.postings (h ∷ []) (below_suc s.next s.postings b)
    (and_from (ltb h.age (suc s.next)) true (lt-ltb h.age (suc s.next) (omega arith)) refl)))

below-post : (m : Event) (l : Ledger) → below l ≡ true → below (post m l) ≡ true
unfolding post post_item post_report struck staying
below-post made l h = refl
below-post (cleared b) l h = refl
below-post (disabled q) l h = all_keep _ _ l.standing.postings h
below-post (ticked t) l h = all_keep _ _ l.standing.postings h
below-post (ran t) l h = h
below-post (traced (started r)) l h = h
below-post (traced (resumed c)) l h = h
below-post (traced (aborted r)) l h = h
below-post (traced (paid x plain g)) l h = h
below-post (traced (paid x (disables q) g)) l h = all_keep _ _ l.standing.postings h
below-post (traced (paid x (defers d ms sp) g)) l h = below-accept _ l.standing refl h

pub below-posts : (ms : List Event) (l : Ledger) → below l ≡ true → below (post_all ms l) ≡ true
below-posts [] l h = h
below-posts (m ∷ ms) l h = below-posts ms (post m l) (below-post m l h)

below-start : (cs : List Pending) (n : ℕ) → all (λ (c : Pending). ltb c.seq n) cs ≡ true
    → all (λ (h : Posting). ltb h.age n) (map (λ (c : Pending). record { entry = entry_of c; age = c.seq; number = c.number; origin = None }) cs) ≡ true
below-start [] n h = refl
below-start (c ∷ cs) n h = and_from (ltb c.seq n) _ (and_l _ _ h) (below-start cs n (and_r (ltb c.seq n) _ h))

none-of-next : (n : ℕ) (hs : List Posting) → all (λ (h : Posting). ltb h.age n) hs ≡ true → of_age n hs ≡ []
none-of-next n [] h = refl
none-of-next n (x ∷ xs) h =
    rw (ne_eqb x.age n (λ z. omega (arith, ltb-true x.age n (and_l _ _ h)))) (none-of-next n xs (and_r (ltb x.age n) _ h))

accepted-once : (x : Step) (d : Bool) (ms : ℕ) (sp : Point) (g : Option Effect) (l : Ledger) (behind : List Event) (i : ℕ) → below l ≡ true → eqb (length l.standing.postings) 32 ≡ false
    → resumptions_of l.standing.next i behind (post (traced (paid x (defers d ms sp) g)) l) ≡ expected (continuation ms sp l) i behind
unfolding post post_item post_report accept continuation
accepted-once x d ms sp g l behind i b f =
    let n = l.standing.next in
    let h : Posting = record { entry = continuation ms sp l; age = n; number = l.payer.number; origin = l.payer.origin } in
    let e : of_age n (l.standing.postings ++ (h ∷ [])) ≡ h ∷ [] =
    keep_append (λ (x : Posting). eqb x.age n) l.standing.postings (h ∷ []) ∙ rw (none-of-next n l.standing.postings b, eq-eqb n n refl) in
    stands n behind i (post (traced (paid x (defers d ms sp) g)) l) h (rw f (omega arith)) (rw f e)

-- an age that is not given out yet leaves nowhere
next-mono : (m : Event) (l : Ledger) → l.standing.next ≤ (post m l).standing.next
unfolding post post_item post_report
next-mono made l = omega arith
next-mono (cleared b) l = omega arith
next-mono (disabled q) l = omega arith
next-mono (ticked t) l = omega arith
next-mono (ran t) l = omega arith
next-mono (traced (started r)) l = omega arith
next-mono (traced (resumed c)) l = omega arith
next-mono (traced (aborted r)) l = omega arith
next-mono (traced (paid x plain g)) l = omega arith
next-mono (traced (paid x (disables q) g)) l = omega arith
next-mono (traced (paid x (defers d ms sp) g)) l = grows _ l.standing
  where
    grows : (h : Posting) (s : Standing) → s.next ≤ (accept h s).next
    grows h s = unfold accept in (by (eqb (length s.postings) 32) (λ t. rw t (omega arith)) (λ f. rw f (omega arith)))

nexts-mono : (ms : List Event) (l : Ledger) → l.standing.next ≤ (post_all ms l).standing.next
nexts-mono [] l = omega arith
nexts-mono (m ∷ ms) l = let a = next-mono m l in let b = nexts-mono ms (post m l) in omega arith

none_yet : (n k : ℕ) (hs : List Posting) → n ≤ k → all (λ (h : Posting). ltb h.age n) hs ≡ true → of_age k hs ≡ []
none_yet n k [] b h = refl
none_yet n k (x ∷ xs) b h =
    rw (ne_eqb x.age k (λ z. omega (arith, ltb-true x.age n (and_l _ _ h)))) (none_yet n k xs b (and_r (ltb x.age n) _ h))

not_yet : (n : ℕ) (ms : List Event) (i : ℕ) (l : Ledger) → below l ≡ true → (post_all ms l).standing.next ≤ n → resumptions_of n i ms l ≡ []
not_yet n [] i l b h = refl
not_yet n (m ∷ ms) i l b h =
    let a = next-mono m l in
    let c = nexts-mono ms (post m l) in
    rw (none-leaves n m l (none_yet l.standing.next n l.standing.postings (omega arith) b)) (not_yet n ms (tick_number m i) (post m l) (below-post m l b) h)

leavings-append : (n i : ℕ) (xs ys : List Event) (l : Ledger) → resumptions_of n i (xs ++ ys) l ≡ resumptions_of n i xs l ++ resumptions_of n (ticks_in xs i) ys (post_all xs l)
leavings-append n i [] ys l = refl
leavings-append n i (x ∷ xs) ys l =
    ap (λ zs. map (λ (h : Posting). record { tick = i; entry = h.entry }) (of_age n (leaving_on x l)) ++ zs) (leavings-append n (tick_number x i) xs ys (post x l))
    ∙ sym (append_assoc (map (λ (h : Posting). record { tick = i; entry = h.entry }) (of_age n (leaving_on x l))) _ _)

pub sound-below : (s : Store) → Sound s → below (start_ledger s) ≡ true
unfolding start_ledger
sound-below s g = below-start s.vol.pending s.vol.next g.below

module _ (s : Store) (g : Sound s) (cs : List Call) (before behind : List Event) (x : Step) (d : Bool) (ms : ℕ) (sp : Point) (effect : Option Effect)
    (here : all_events (notices s cs) ≡ before ++ (traced (paid x (defers d ms sp) effect) ∷ behind)) where
  -- 32 stand: dropped
  pub dropped : eqb (length (post_all before (start_ledger s)).standing.postings) 32 ≡ true
      → (post (traced (paid x (defers d ms sp) effect)) (post_all before (start_ledger s))).standing ≡ (post_all before (start_ledger s)).standing
  unfolding post post_item post_report accept
  dropped full = rw full

  -- fewer: a new last entry
  pub accepted : eqb (length (post_all before (start_ledger s)).standing.postings) 32 ≡ false
      → (post (traced (paid x (defers d ms sp) effect)) (post_all before (start_ledger s))).standing.postings
      ≡ (post_all before (start_ledger s)).standing.postings
      ++ (record { entry = continuation ms sp (post_all before (start_ledger s)); age = (post_all before (start_ledger s)).standing.next; number = (post_all before (start_ledger s)).payer.number; origin = (post_all before (start_ledger s)).payer.origin } ∷ [])
  unfolding post post_item post_report accept continuation
  accepted room = rw room

  -- fewer: accepted, under an age of its own; in the whole list it resumes as expected, once or never, with its stored budget
  pub resumes-once : eqb (length (post_all before (start_ledger s)).standing.postings) 32 ≡ false
      → resumptions_of (post_all before (start_ledger s)).standing.next 0 (all_events (notices s cs)) (start_ledger s)
      ≡ expected (continuation ms sp (post_all before (start_ledger s))) (ticks_in before 0) behind
  resumes-once room =
      let l = post_all before (start_ledger s) in
      let n = l.standing.next in
      let b = sound-below s g in
      let u : resumptions_of n 0 before (start_ledger s) ≡ [] = not_yet n before 0 (start_ledger s) b (omega arith) in
      ap (λ ms'. resumptions_of n 0 ms' (start_ledger s)) here ∙ leavings-append n 0 before (traced (paid x (defers d ms sp) effect) ∷ behind) (start_ledger s)
      ∙ ap (λ xs. xs ++ resumptions_of n (ticks_in before 0) (traced (paid x (defers d ms sp) effect) ∷ behind) l) u
      ∙ unpaid (accepted-once x d ms sp effect l behind (ticks_in before 0) (below-posts before (start_ledger s) b) room)
    where
      unpaid : resumptions_of (post_all before (start_ledger s)).standing.next (ticks_in before 0) behind (post (traced (paid x (defers d ms sp) effect)) (post_all before (start_ledger s)))
          ≡ expected (continuation ms sp (post_all before (start_ledger s))) (ticks_in before 0) behind
          → resumptions_of (post_all before (start_ledger s)).standing.next (ticks_in before 0) (traced (paid x (defers d ms sp) effect) ∷ behind) (post_all before (start_ledger s))
          ≡ expected (continuation ms sp (post_all before (start_ledger s))) (ticks_in before 0) behind
      unpaid e = unfold leaving_on in e

-- WHAT IS PENDING AT THE START -------------------------------------------------------------------------------------------------------------
abbrev start_posting : Pending → Posting
start_posting c = record { entry = entry_of c; age = c.seq; number = c.number; origin = None }

eqb-sym-false : (a b : ℕ) → not (eqb a b) ≡ true → eqb b a ≡ false
eqb-sym-false a b h = ne_eqb b a (λ e. let z : true ≡ false = cc (eq-eqb a b (sym e)) in absurd (true≢false z))

none-among : (c : Pending) (ys : List Pending) → all (λ (d : Pending). not (eqb c.seq d.seq)) ys ≡ true → of_age c.seq (map start_posting ys) ≡ []
none-among c [] h = refl
none-among c (y ∷ ys) h =
    rw (eqb-sym-false c.seq y.seq (and_l _ _ h)) (none-among c ys (and_r (not (eqb c.seq y.seq)) _ h))

all_middle : {A : Type 0} (p : A → Bool) (xs : List A) (c : A) (ys : List A) → all p (xs ++ (c ∷ ys)) ≡ true → p c ≡ true
all_middle p [] c ys h = and_l (p c) _ h
all_middle p (x ∷ xs) c ys h = all_middle p xs c ys (and_r (p x) _ h)

one-among : (xs : List Pending) (c : Pending) (ys : List Pending) → distinct_by (λ (c : Pending). c.seq) (xs ++ (c ∷ ys)) ≡ true → of_age c.seq (map start_posting (xs ++ (c ∷ ys))) ≡ start_posting c ∷ []
one-among [] c ys d =
    rw (eq-eqb c.seq c.seq refl)
    (ap (λ zs. start_posting c ∷ zs) (none-among c ys (and_l (all (λ (x : Pending). not (eqb c.seq x.seq)) ys) _ d)))
one-among (x ∷ xs) c ys d =
    let h = all_middle (λ (y : Pending). not (eqb x.seq y.seq)) xs c ys (and_l _ _ d) in
    let f : eqb x.seq c.seq ≡ false = not-true (eqb x.seq c.seq) h in
    rw f (one-among xs c ys (and_r (all (λ (y : Pending). not (eqb x.seq y.seq)) (xs ++ (c ∷ ys))) _ d))

pub start-once : (s : Store) → Sound s → (cs : List Call) (xs : List Pending) (c : Pending) (ys : List Pending) → s.vol.pending ≡ xs ++ (c ∷ ys)
    → resumptions_of c.seq 0 (all_events (notices s cs)) (start_ledger s) ≡ expected (entry_of c) 0 (all_events (notices s cs))
unfolding start_ledger
start-once s g cs xs c ys e =
    stands c.seq (all_events (notices s cs)) 0 (start_ledger s) (start_posting c)
    (ltb-true c.seq s.vol.next (all_middle (λ (d : Pending). ltb d.seq s.vol.next) xs c ys (rw e at g.below)))
    (rw e (one-among xs c ys (rw e at g.distinct)))

-- WHAT LEAVES BY ITS AGE IS WHAT LEAVES AT THE CALLS -----------------------------------------------------------------------------------------
trace-leaves : (xs : List Item) (ms : List Event) (l : Ledger) → all_leaving (map traced xs ++ ms) l ≡ all_leaving ms (post_all (map traced xs) l)
unfolding leaving_on
trace-leaves [] ms l = refl
trace-leaves (started r ∷ xs) ms l = trace-leaves xs ms (post (traced (started r)) l)
trace-leaves (resumed c ∷ xs) ms l = trace-leaves xs ms (post (traced (resumed c)) l)
trace-leaves (aborted r ∷ xs) ms l = trace-leaves xs ms (post (traced (aborted r)) l)
trace-leaves (paid x s g ∷ xs) ms l = trace-leaves xs ms (post (traced (paid x s g)) l)

call-leaves : (b : Bool) (c : Call) (tr : List Item) (ms : List Event) (l : Ledger)
    → all_leaving (events_of b c tr ++ ms) l ≡ leaving_at b c l ++ all_leaving ms (post_all (events_of b c tr) l)
unfolding events_of leaving_at leaving_on
call-leaves true c tr ms l = refl
call-leaves false (new t) tr ms l = refl
call-leaves false (load t img) tr ms l = refl
call-leaves false (unload t) tr ms l = refl
call-leaves false (enable r true) tr ms l = refl
call-leaves false (enable r false) tr ms l = refl
call-leaves false (tick snap os es) tr ms l =
    ap (λ zs. map (λ (h : Posting). h.entry) (leaving (now_of snap) l.standing.postings) ++ zs) (trace-leaves tr ms (post (ticked (now_of snap)) l))
call-leaves false (run r true snap os es) tr ms l = refl
call-leaves false (run r false snap os es) tr ms l = trace-leaves tr ms (post (ran (now_of snap)) l)
call-leaves false deadline tr ms l = refl
call-leaves false counters tr ms l = refl

pub all-leave : (ts : List Notice) (l : Ledger) → flatten (leaving_at_each l ts) ≡ all_leaving (all_events ts) l
unfolding leaving_at_each post_call
all-leave [] l = refl
all-leave (t ∷ ts) l =
    ap (λ zs. leaving_at t.refused t.call l ++ zs) (all-leave ts (post_all (events_of t.refused t.call t.trace) l))
    ∙ sym (call-leaves t.refused t.call t.trace (all_events ts) l)
