-- What a log says: the bound of each number's effects, and no gap. A log from a store made new, with no other new.
use mathlib.Core.Path.{◌≡◌, refl, sym, ◌∙◌, ap, ap₂, subst}
use mathlib.Core.Logic.{◌⊎◌, inl, inr}
use Prim.Native.Nat.{ℕ, zero, suc, ◌+◌, ◌≤◌, ◌<◌, zero-le}
use native.Mathlib.Omega.{arith}
use mathlib.Core.Bool.{Bool, true, false, not, ◌||◌, cond, false≢true}
use mathlib.Core.List.{List, [], ◌∷◌, map}
use Rattle.std.specs.Prelude.{Option, None}
use lib.Dec.{leb, eqb}
use borrow.Author.Tests.{leb-true, leb-false, eqb-true, ne_eqb}
use Rattle.words.specs.Saturating.{max64}
use Rattle.model.specs.World.{now_of}
use Rattle.model.specs.Lists.{all}
use Rattle.model.specs.Outcome.{Item, started, resumed, aborted, paid}
use Rattle.model.specs.Answers.{outcomes_in}
use Rattle.model.specs.State.{Store, RuleSet, next_number}
use Rattle.model.specs.Flat.{set_of}
use Rattle.model.specs.Calls.{Call, new, load, unload, enable, tick, run, deadline, counters, Done, answers, fresh, call}
use Rattle.ledger.specs.Ledger.{Event, cleared, ticked, ran, traced, Ledger, post_item, post, post_all, events_of, is_refused, is_new, budget_of, start_ledger, post_call}
use Rattle.ledger.specs.Effects.{shown_with, shown_at, shown_over, numbers_of, number_of, is_zero, AsPosted, ShowsNumbers}
use Rattle.ledger.specs.Sets.{set_after_call}
use Rattle.ledger.specs.Trace.{Conforms}
use Rattle.ledger.specs.Log.{lines, numbers_shown, effects_with, effects_shown, is_in, budget_after_call, budget_for, bound, LogHolds}
use Rattle.ledger.proofs.ListLaws.{by, and_l, and_r, Every}
use Rattle.ledger.proofs.NextNumber.{next-is}
use Rattle.ledger.proofs.LastNumbers.{last_fits}
use Rattle.ledger.proofs.Sound.{Sound}
use Rattle.ledger.proofs.History.{Agree, follows, starts}
use Rattle.ledger.proofs.CallTrace.{call-conforms}
use Rattle.ledger.proofs.Sets.{call-leaves}
use Rattle.ledger.proofs.Shown.{shown-bounded}
use Rattle.ledger.proofs.Numbers.{last_of, every-imp, Lasting, Holds, Given, given-lasts, last-events, events-hold, events-shown, Gapless, gapless-append, events-gapless, zeros-gapless}
use Rattle.ledger.proofs.Origins.{origin_of, Tied, tied-events, call-none-made, call-origins, act, same-effects, none-effects, none-origins, zeros-none}

-- A CALL'S NUMBERS: the ledger's, or all 0 and nothing told --------------------------------------------------------------------------------
abbrev events_at : Call → Done → List Event
events_at c d = events_of (is_refused d.answer) c d.trace

abbrev numbers_in : Done → List ℕ
numbers_in d = map number_of (outcomes_in d.answer)

abbrev Told : Call → Ledger → Done → Type 0
Told c l d = AsPosted c l d ⊎ ((all is_zero (numbers_in d) ≡ true) × (events_at c d ≡ []))

dry-events : (b : Bool) (r : ℕ) (snap : List ℕ) (os es : ℕ) (tr : List Item) → events_of b (run r true snap os es) tr ≡ []
unfolding events_of
dry-events true r snap os es tr = refl
dry-events false r snap os es tr = refl

told : (c : Call) (l : Ledger) (d : Done) → ShowsNumbers c l d → Told c l d
told (new t) l d h = inl h
told (load t img) l d h = inl h
told (unload t) l d h = inl h
told (enable r on) l d h = inl h
told (tick snap os es) l d h = inl h
told (run r false snap os es) l d h = inl h
told (run r true snap os es) l d h = inr (h, dry-events (is_refused d.answer) r snap os es d.trace)
told deadline l d h = inl h
told counters l d h = inl h

-- what is known of the ledger all along
record Known (l : Ledger) : Type 0 where
  tied : Tied l
  given : Holds Given given-lasts l
  fits : last_of l ≤ max64

-- a call leaves a last number of 64 bits
fits_after : (c : Call) (s : Store) (l : Ledger) → Agree s l → Known l → last_of (post_all (events_at c (call c s)) l) ≤ max64
fits_after c s l a h =
    let e = a.sim.last in
    let f = (follows c s l a).agree.sim.last in
    let g = h.fits in
    let k = last_fits c s (omega arith) in
    omega arith

known-after : (c : Call) (s : Store) (l : Ledger) → not (is_new c) ≡ true → Agree s l → Known l → Known (post_all (events_at c (call c s)) l)
known-after c s l e a h =
    let d = call c s in
    let n = call-none-made (is_refused d.answer) c d.trace e in
    let f = fits_after c s l a h in
    record { tied = tied-events (events_at c d) l n f h.tied; given = events-hold Given given-lasts (events_at c d) l n h.given; fits = f }

-- NO GAP -------------------------------------------------------------------------------------------------------------------------------
call-gapless : (c : Call) (d : Done) (l : Ledger) → not (is_new c) ≡ true → last_of (post_all (events_at c d) l) ≤ max64 → Known l → Told c l d → Gapless (last_of l) (numbers_in d) (last_of (post_all (events_at c d) l))
call-gapless c d l e f h (inl p) = rw p (events-gapless (events_at c d) l (call-none-made (is_refused d.answer) c d.trace e) f h.given)
call-gapless c d l e f h (inr p) = rw p.1 (zeros-gapless (last_of l) (numbers_in d) p.0)

no_gaps : (s : Store) (l : Ledger) (cs : List Call) → all (λ c. not (is_new c)) cs ≡ true → Agree s l → Known l
    → (g : ℕ) × Gapless (last_of l) (numbers_shown (lines cs (answers s cs))) g
unfolding answers
no_gaps s l [] e a h = (last_of l, record { gapless = tt; top = refl })
no_gaps s l (c ∷ cs) e a h =
    let d = call c s in
    let n = and_l (not (is_new c)) _ e in
    let f = follows c s l a in
    let i = no_gaps d.store (post_all (events_at c d) l) cs (and_r (not (is_new c)) _ e) f.agree (known-after c s l n a h) in
    (i.0, gapless-append (last_of l) (last_of (post_all (events_at c d) l)) i.0 (numbers_in d) _ (call-gapless c d l n (fits_after c s l a h) h (told c l d f.shown)) i.1)

-- THE BOUND ------------------------------------------------------------------------------------------------------------------------------
budget-item : (i : Item) (l : Ledger) → (post_item i l).budget ≡ l.budget
unfolding post_item
budget-item (resumed c) l = refl
budget-item (started r) l = refl
budget-item (aborted r) l = refl
budget-item (paid x s g) l = refl

budget-items : (is : List Item) (l : Ledger) → (post_all (map traced is) l).budget ≡ l.budget
unfolding post
budget-items [] l = refl
budget-items (i ∷ is) l = budget-items is (post_item i l) ∙ budget-item i l

-- in these numbers
not_in : (n : ℕ) (ks : List ℕ) → Every (λ k. k ≡ n → ⊥) ks → is_in n ks ≡ false
not_in n [] h = refl
not_in n (k ∷ ks) h = rw (ne_eqb n k (λ e. h.0 (sym e))) (not_in n ks h.1)

in-below : (n g : ℕ) (ks : List ℕ) → Every (λ k. k ≤ g) ks → is_in n ks ≡ true → n ≤ g
in-below n g [] h e = absurd (false≢true e)
in-below n g (k ∷ ks) h e =
    by (eqb n k) (λ t. let z = eqb-true n k t in let le = h.0 in omega arith) (λ f. in-below n g ks h.1 (sym (ap (λ b. b || is_in n ks) f) ∙ e))

-- no set, no outcome but a dry run's; else the budget is that of the last load
abbrev LoadedWith : Option RuleSet → ℕ → Type 0
LoadedWith o b = (o ≡ None) ⊎ (budget_of o ≡ b)

loads-with : (r : Bool) (c : Call) (o : Option RuleSet) (b : ℕ) → not (is_new c) ≡ true → LoadedWith o b → LoadedWith (set_after_call r c o) (budget_after_call r c b)
unfolding set_of
loads-with true c o b e h = h
loads-with false (new t) o b e h = absurd (false≢true e)
loads-with false (load t img) o b e h = inr refl
loads-with false (unload t) o b e h = inl refl
loads-with false (enable r on) o b e h = h
loads-with false (tick snap os es) o b e h = h
loads-with false (run r dry snap os es) o b e h = h
loads-with false deadline o b e h = h
loads-with false counters o b e h = h

-- without a set nothing is shown but by a dry run
unset : (c : Call) (d : Done) (l : Ledger) → Conforms c None d → Told c l d → all is_zero (numbers_in d) ≡ true
unset c d l h (inr p) = p.0
unset (new t) d l h (inl p) = rw h.outcomes
unset (load t img) d l h (inl p) = rw h.outcomes
unset (unload t) d l h (inl p) = rw h.outcomes
unset (enable r on) d l h (inl p) = rw h.outcomes
unset (tick snap os es) d l h (inl p) = rw h.outcomes
unset (run r false snap os es) d l h (inl p) = rw h.outcomes
unset (run r true snap os es) d l h (inl p) = rw (p, dry-events (is_refused d.answer) r snap os es d.trace)
unset deadline d l h (inl p) = rw h.outcomes
unset counters d l h (inl p) = rw h.outcomes

module _ (m : ℕ) where
  -- the number was given, and is not this one; or numbers are past 64 bits
  abbrev Other : ℕ → ℕ → Type 0
  Other last k = ((k ≡ suc m → ⊥) ⊎ (max64 < last)) × (suc m ≤ last)

  other-later : (a b k : ℕ) → a ≤ b → ((k ≡ suc m → ⊥) ⊎ (max64 < a)) → ((k ≡ suc m → ⊥) ⊎ (max64 < b))
  other-later a b k le (inl h) = inl h
  other-later a b k le (inr h) = inr (omega arith)

  other-new : (a : ℕ) → suc m ≤ a → ((next_number a ≡ suc m → ⊥) ⊎ (max64 < suc a))
  other-new a le = by (leb (suc a) max64) (λ t. inl (λ e. let n = next-is a (leb-true (suc a) max64 t) in omega arith)) (λ f. inr (leb-false (suc a) max64 f))

  other-lasts : Lasting Other
  other-lasts =
      record {
        later = λ a b k le h. (other-later a b k le h.0, let g = h.1 in omega arith);
        new = λ a k h. let g = h.1 in (other-new a g, omega arith);
        nil = λ a k h. (inl (λ e. omega arith), h.1);
      }

  -- ONE CALL: the effects that show the number are those of the activation
  shown-zero : (b : ℕ) (c : Call) (s : Store) (l : Ledger) → Agree s l → Known l → Told c l (call c s) → is_in (suc m) (numbers_in (call c s)) ≡ false
      → effects_with (suc m) (outcomes_in (call c s).answer) ≡ shown_at (act m b) c s l
  unfolding shown_at
  shown-zero b c s l a h (inl p) e =
      let d = call c s in
      let os = outcomes_in d.answer in
      none-effects (suc m) os e
      ∙ sym (ap (λ ws. shown_with (act m b) ws os) (call-origins (is_refused d.answer) c d.trace l (fits_after c s l a h) h.tied) ∙ none-origins m l.budget b (numbers_of (events_at c d) l) os (sym (ap (is_in (suc m)) p) ∙ e))
  shown-zero b c s l a h (inr p) e = none-effects (suc m) (outcomes_in (call c s).answer) e ∙ rw p.1

  shown-same : (b : ℕ) (c : Call) (s : Store) (l : Ledger) → Agree s l → Known l → Told c l (call c s) → l.budget ≡ b
      → effects_with (suc m) (outcomes_in (call c s).answer) ≡ shown_at (act m b) c s l
  unfolding shown_at
  shown-same b c s l a h (inl p) e =
      let d = call c s in
      let os = outcomes_in d.answer in
      same-effects m b os
      ∙ ap (λ ns. shown_with (act m b) (map (origin_of b) ns) os) p
      ∙ sym (ap (λ ws. shown_with (act m b) ws os) (call-origins (is_refused d.answer) c d.trace l (fits_after c s l a h) h.tied ∙ ap (λ x. map (origin_of x) (numbers_of (events_at c d) l)) e))
  shown-same b c s l a h (inr p) e = shown-zero b c s l a h (inr p) (zeros-none m (numbers_in (call c s)) p.0)

  -- BEHIND ITS FIRST OUTCOME: the set is the same, or nothing of the number is left
  abbrev Behind : ℕ → Ledger → Type 0
  Behind b l = (l.budget ≡ b) ⊎ Holds Other other-lasts l

  cleared-behind : (b x : ℕ) (l : Ledger) → suc m ≤ last_of l → Behind b (post (cleared x) l)
  unfolding post
  cleared-behind b x l le = inr (record { postings = tt; due = tt; payer = (inl (λ e. omega arith), le) })

  -- behind the call that shows it first
  first-behind : (b : ℕ) (r : Bool) (c : Call) (tr : List Item) (l : Ledger) → not (is_new c) ≡ true → suc m ≤ last_of (post_all (events_of r c tr) l) → l.budget ≡ b
      → Behind b (post_all (events_of r c tr) l)
  unfolding events_of
  first-behind b true c tr l e le h = inl h
  first-behind b false (new t) tr l e le h = absurd (false≢true e)
  first-behind b false (load t img) tr l e le h = cleared-behind b _ l (unfold post in le)
  first-behind b false (unload t) tr l e le h = cleared-behind b 0 l (unfold post in le)
  first-behind b false (enable q true) tr l e le h = inl h
  first-behind b false (enable q false) tr l e le h = inl (unfold post in h)
  first-behind b false (tick snap os es) tr l e le h = inl (budget-items tr (post (ticked (now_of snap)) l) ∙ (unfold post in h))
  first-behind b false (run q true snap os es) tr l e le h = inl h
  first-behind b false (run q false snap os es) tr l e le h = inl (budget-items tr (post (ran (now_of snap)) l) ∙ (unfold post in h))
  first-behind b false deadline tr l e le h = inl h
  first-behind b false counters tr l e le h = inl h

  stays-behind : (b : ℕ) (r : Bool) (c : Call) (tr : List Item) (l : Ledger) → not (is_new c) ≡ true → suc m ≤ last_of l → Behind b l → Behind b (post_all (events_of r c tr) l)
  stays-behind b r c tr l e le (inr h) = inr (events-hold Other other-lasts (events_of r c tr) l (call-none-made r c tr e) h)
  stays-behind b r c tr l e le (inl h) =
      let g = last-events (events_of r c tr) l (call-none-made r c tr e) in
      first-behind b r c tr l e (omega arith) h

  is-other : (last k : ℕ) → last ≤ max64 → ((k ≡ suc m → ⊥) ⊎ (max64 < last)) → (k ≡ suc m → ⊥)
  is-other last k le (inl h) = h
  is-other last k le (inr h) = absurd (omega arith)

  -- the numbers of a call, where nothing of this one is left
  others : (c : Call) (d : Done) (l : Ledger) → not (is_new c) ≡ true → last_of (post_all (events_at c d) l) ≤ max64 → Holds Other other-lasts l → Told c l d → is_in (suc m) (numbers_in d) ≡ false
  others c d l e f h (inl p) =
      let ms = events_at c d in
      ap (is_in (suc m)) p
      ∙ not_in (suc m) (numbers_of ms l) (every-imp (Other (last_of (post_all ms l))) (λ k. k ≡ suc m → ⊥) (λ k x. is-other (last_of (post_all ms l)) k f x.0) (numbers_of ms l) (events-shown Other other-lasts ms l (call-none-made (is_refused d.answer) c d.trace e) h))
  others c d l e f h (inr p) = zeros-none m (numbers_in d) p.0

  shown-behind : (b : ℕ) (c : Call) (s : Store) (l : Ledger) → not (is_new c) ≡ true → Agree s l → Known l → Told c l (call c s) → Behind b l
      → effects_with (suc m) (outcomes_in (call c s).answer) ≡ shown_at (act m b) c s l
  shown-behind b c s l e a h t (inl q) = shown-same b c s l a h t q
  shown-behind b c s l e a h t (inr q) = shown-zero b c s l a h t (others c (call c s) l e (fits_after c s l a h) q t)

  all-behind : (b : ℕ) (s : Store) (l : Ledger) (cs : List Call) → all (λ c. not (is_new c)) cs ≡ true → Agree s l → Known l → suc m ≤ last_of l → Behind b l
      → effects_shown (suc m) (lines cs (answers s cs)) ≡ shown_over (act m b) s l cs
  unfolding answers shown_over post_call
  all-behind b s l [] e a h le q = refl
  all-behind b s l (c ∷ cs) e a h le q =
      let d = call c s in
      let k = and_l (not (is_new c)) _ e in
      let f = follows c s l a in
      let g = last-events (events_at c d) l (call-none-made (is_refused d.answer) c d.trace k) in
      ap₂ ◌+◌ (shown-behind b c s l k a h (told c l d f.shown) q)
      (all-behind b d.store (post_all (events_at c d) l) cs (and_r (not (is_new c)) _ e) f.agree (known-after c s l k a h) (omega arith)
      (stays-behind b (is_refused d.answer) c d.trace l k le q))

  -- UP TO ITS FIRST OUTCOME: the budget is that of the last load
  given-now : (c : Call) (d : Done) (l : Ledger) → not (is_new c) ≡ true → Known l → Told c l d → is_in (suc m) (numbers_in d) ≡ true → suc m ≤ last_of (post_all (events_at c d) l)
  given-now c d l e h (inl p) t =
      let ms = events_at c d in
      in-below (suc m) (last_of (post_all ms l)) (numbers_of ms l) (events-shown Given given-lasts ms l (call-none-made (is_refused d.answer) c d.trace e) h.given) (sym (ap (is_in (suc m)) p) ∙ t)
  given-now c d l e h (inr p) t = absurd (false≢true (sym (zeros-none m (numbers_in d) p.0) ∙ t))

  budget-now : (b : ℕ) (c : Call) (s : Store) (l : Ledger) → Agree s l → Told c l (call c s) → is_in (suc m) (numbers_in (call c s)) ≡ true → LoadedWith s.loaded b → l.budget ≡ b
  budget-now b c s l a p t (inr q) = a.budget ∙ q
  budget-now b c s l a p t (inl q) =
      let z = unset c (call c s) l (subst (λ o. Conforms c o (call c s)) q (call-conforms c s)) p in
      absurd (false≢true (sym (zeros-none m (numbers_in (call c s)) z) ∙ t))

  all_shown : (b : ℕ) (s : Store) (l : Ledger) (cs : List Call) → all (λ c. not (is_new c)) cs ≡ true → Agree s l → Known l → LoadedWith s.loaded b
      → effects_shown (suc m) (lines cs (answers s cs)) ≡ shown_over (act m (budget_for (suc m) b (lines cs (answers s cs)))) s l cs
  unfolding answers shown_over post_call
  all_shown b s l [] e a h q = refl
  all_shown b s l (c ∷ cs) e a h q =
      let d = call c s in
      let k = and_l (not (is_new c)) _ e in
      let f = follows c s l a in
      let w = told c l d f.shown in
      let rest = and_r (not (is_new c)) _ e in
      let l' = post_all (events_at c d) l in
      let b' = budget_after_call (is_refused d.answer) c b in
      let budget = budget_for (suc m) b' (lines cs (answers d.store cs)) in
      let xs = lines (c ∷ cs) (answers s (c ∷ cs)) in
      let with-budget = λ (z : ℕ). effects_shown (suc m) xs ≡ shown_over (act m z) s l (c ∷ cs) in
      by (is_in (suc m) (numbers_in d))
      (λ t.
      let eb = budget-now b c s l a w t q in
      let le = given-now c d l k h w t in
      subst with-budget (sym (ap (λ z. cond z b budget) t))
      (ap₂ ◌+◌ (shown-same b c s l a h w eb) (all-behind b d.store l' cs rest f.agree (known-after c s l k a h) le (first-behind b (is_refused d.answer) c d.trace l k le eb))))
      (λ t.
      let o = subst (λ x. LoadedWith x b') (sym (call-leaves c s)) (loads-with (is_refused d.answer) c s.loaded b k q) in
      subst with-budget (sym (ap (λ z. cond z b budget) t)) (ap₂ ◌+◌ (shown-zero _ c s l a h w t) (all_shown b' d.store l' cs rest f.agree (known-after c s l k a h) o)))

-- FROM A STORE MADE NEW --------------------------------------------------------------------------------------------------------------------
fresh-sound : (t : ℕ) → Sound (fresh t)
unfolding fresh
fresh-sound t = record { ok = refl; few = zero-le; known = refl; below = refl; distinct = refl; given = refl }

fresh-known : (t : ℕ) → Known (start_ledger (fresh t))
unfolding fresh start_ledger
fresh-known t = record { tied = record { postings = tt; due = tt; payer = refl; count = refl }; given = record { postings = tt; due = tt; payer = zero-le }; fits = zero-le }

fresh-bounded : (t : ℕ) (cs : List Call) (n : ℕ) → all (λ c. not (is_new c)) cs ≡ true → 1 ≤ n
    → effects_shown n (lines cs (answers (fresh t) cs)) ≤ bound (budget_for n 0 (lines cs (answers (fresh t) cs)))
fresh-bounded t cs zero e le = absurd (omega arith)
fresh-bounded t cs (suc m) e le =
    let b = budget_for (suc m) 0 (lines cs (answers (fresh t) cs)) in
    let p = all_shown m 0 (fresh t) (start_ledger (fresh t)) cs e (starts (fresh t) (fresh-sound t)) (fresh-known t) (unfold fresh in inl refl) in
    let q = shown-bounded (fresh t) (fresh-sound t) cs (act m b) in
    subst (λ x. x ≤ bound b) (sym p) q

-- the log of a list of calls, the first of which makes the store new and no other does
pub log-holds : (s : Store) (t : ℕ) (cs : List Call) → all (λ c. not (is_new c)) cs ≡ true → LogHolds (lines (new t ∷ cs) (answers s (new t ∷ cs)))
unfolding answers call
log-holds s t cs e =
    let g = no_gaps (fresh t) (start_ledger (fresh t)) cs e (starts (fresh t) (fresh-sound t)) (fresh-known t) in
    record {
      bounded = λ n le. let h = fresh-bounded t cs n e le in omega arith;
      no_gap = unfold fresh start_ledger in g.1.gapless;
    }
