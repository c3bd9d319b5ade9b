-- Every call keeps the store rules. What concerns the sequence numbers is shown of the ledger's ages and carried over to them.
use mathlib.Core.Path.{◌≡◌, refl, sym, ◌∙◌, ap}
use Prim.Native.Nat.{ℕ, ◌+◌}
use native.Mathlib.Omega.{arith}
use mathlib.Core.Bool.{Bool, true}
use mathlib.Core.List.{List, [], ◌∷◌}
use Rattle.std.specs.Prelude.{None}
use lib.Dec.{ltb, eqb}
use lib.ListN.{length}
use Rattle.model.specs.Lists.{all}
use Rattle.model.specs.Outcome.{plain, disables, defers, started, resumed, aborted, paid}
use Rattle.model.specs.declared.Pending.{Pending}
use Rattle.model.specs.State.{Store}
use Rattle.model.specs.Calls.{Call, call}
use Rattle.ledger.proofs.Sound.{Sound}
use Rattle.ledger.specs.Ledger.{Event, made, cleared, disabled, ticked, ran, traced, Posting, Standing, Ledger, struck, staying, accept, post_report, post_item, post, post_all, events_of, entry_of, is_refused, start_ledger}
use Rattle.ledger.proofs.Distinct.{distinct_by, distinct-keep, distinct_snoc, all_map, distinct-map}
use Rattle.ledger.proofs.Simulation.{Aged, aged_pending, aged_posting}
use Rattle.ledger.proofs.TickSimulation.{ltb-shift}
use Rattle.ledger.proofs.History.{Agree, follows, starts}
use Rattle.ledger.proofs.EffectBound.{call_ok}
use Rattle.ledger.proofs.Resumptions.{below, below-posts, sound-below}
use Rattle.ledger.proofs.ListLaws.{by}

abbrev age_of : Posting → ℕ
age_of h = h.age

distinct-accept : (h : Posting) (s : Standing) → h.age ≡ s.next → all (λ (x : Posting). ltb x.age s.next) s.postings ≡ true
    → distinct_by age_of s.postings ≡ true → distinct_by age_of (accept h s).postings ≡ true
unfolding accept
distinct-accept h s e b d =
    by (eqb (length s.postings) 32) (λ t. rw t d) (λ f. rw f (distinct_snoc age_of s.postings h (rw e b) d))

distinct-post : (m : Event) (l : Ledger) → below l ≡ true → distinct_by age_of l.standing.postings ≡ true → distinct_by age_of (post m l).standing.postings ≡ true
unfolding post post_item post_report struck staying
distinct-post made l b d = refl
distinct-post (cleared x) l b d = refl
distinct-post (disabled q) l b d = distinct-keep age_of _ l.standing.postings d
distinct-post (ticked t) l b d = distinct-keep age_of _ l.standing.postings d
distinct-post (ran t) l b d = d
distinct-post (traced (started r)) l b d = d
distinct-post (traced (resumed c)) l b d = d
distinct-post (traced (aborted r)) l b d = d
distinct-post (traced (paid x plain g)) l b d = d
distinct-post (traced (paid x (disables q) g)) l b d = distinct-keep age_of _ l.standing.postings d
distinct-post (traced (paid x (defers w ms sp) g)) l b d = distinct-accept _ l.standing refl b d

distinct-posts : (ms : List Event) (l : Ledger) → below l ≡ true → distinct_by age_of l.standing.postings ≡ true → distinct_by age_of (post_all ms l).standing.postings ≡ true
distinct-posts [] l b d = d
distinct-posts (m ∷ ms) l b d = distinct-posts ms (post m l) (below-posts (m ∷ []) l b) (distinct-post m l b d)

-- FROM AGES TO SEQUENCE NUMBERS, AND BACK -----------------------------------------------------------------------------------------------------
abbrev aged_age : Aged → ℕ
aged_age a = a.age

pub numbers-kept : (s : Store) (l : Ledger) → Agree s l → below l ≡ true → distinct_by age_of l.standing.postings ≡ true
    → (all (λ (c : Pending). ltb c.seq s.vol.next) s.vol.pending ≡ true) × (distinct_by (λ (c : Pending). c.seq) s.vol.pending ≡ true)
numbers-kept s l a b d =
    let n = s.vol.next + a.k in
    let p : Aged → Bool = λ x. ltb x.age n in (
      sym (all_map (aged_pending a.k) p (λ (c : Pending). ltb c.seq s.vol.next) (λ c. ltb-shift a.k c.seq s.vol.next) s.vol.pending)
          ∙ ap (all p) a.sim.same
          ∙ all_map (aged_posting a.j) p (λ (h : Posting). ltb h.age l.standing.next)
          (λ h. ap (λ z. ltb (h.age + a.j) z) a.sim.nexts ∙ ltb-shift a.j h.age l.standing.next) l.standing.postings
          ∙ b,
      sym (distinct-map (aged_pending a.k) aged_age (λ (c : Pending). c.seq) a.k (λ c. refl) s.vol.pending)
          ∙ ap (distinct_by aged_age) a.sim.same
          ∙ distinct-map (aged_posting a.j) aged_age age_of a.j (λ h. refl) l.standing.postings
          ∙ d,
    )

start-distinct : (s : Store) → Sound s → distinct_by age_of (start_ledger s).standing.postings ≡ true
unfolding start_ledger
start-distinct s g =
    distinct-map (λ (c : Pending). record { entry = entry_of c; age = c.seq; number = c.number; origin = None }) age_of (λ (c : Pending). c.seq) 0 (λ c. omega arith) s.vol.pending
    ∙ g.distinct

-- the store rules hold after every call
pub call-sound : (c : Call) (s : Store) → Sound s → Sound (call c s).store
call-sound c s g =
    let a = starts s g in
    let f = follows c s (start_ledger s) a in
    let ms = events_of (is_refused (call c s).answer) c (call c s).trace in
    let b = sound-below s g in
    let n = numbers-kept (call c s).store (post_all ms (start_ledger s)) f.agree (below-posts ms (start_ledger s) b) (distinct-posts ms (start_ledger s) b (start-distinct s g)) in
    record { ok = call_ok c s g; few = f.agree.sim.few; known = f.agree.sim.known; below = n.0; distinct = n.1; given = f.agree.sim.given }
