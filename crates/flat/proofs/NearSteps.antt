-- No step of a rule leads further than its list is long. Assumes nothing.
use Prim.Native.Nat.{ℕ, zero, suc, ◌+◌, ◌≤◌}
use native.Mathlib.Omega.{arith}
use mathlib.Core.Path.{◌≡◌, refl, sym, ◌∙◌}
use mathlib.Core.Bool.{Bool, true, false, ◌&&◌, false≢true}
use mathlib.Core.List.{List, [], ◌∷◌, ◌++◌}
use lib.Dec.{leb}
use lib.ListN.{length, length-append, length-map}
use Rattle.std.specs.Prelude.{slice_get}
use borrow.Author.Tests.{le-leb, leb-true}
use Rattle.std.proofs.lemmas.Bool.{and_from, and_parts}
use Rattle.model.specs.Flat.{Flattened, no_steps, again, within_after, within_repeat, copies, flatten_after, flatten_repeat, flatten_branch, flatten_rule, body_in, list_in}
use Rattle.model.specs.Lists.{all}
use Rattle.model.specs.Steps.{FlatStep, steps_of}
use Rattle.model.specs.declared.FlattenCtx.{FlattenCtx}
use Rattle.model.specs.declared.Step.{Step}
use Rattle.model.proofs.Bools.{all_append}
use Rattle.model.proofs.TestLaws.{by}
use Rattle.flat.proofs.Counts.{short_bodies, longer}
use Rattle.flat.proofs.EachRule.{of-rule}
use Rattle.flat.proofs.Induction.{Closed}
use Rattle.flat.specs.Near.{reach}

-- so far leads a step at most
abbrev pub reaches : ℕ → Step → Bool
reaches k s = leb (reach s) k

-- a step of an own list, and the steps of its body
abbrev within : ℕ → FlatStep → Bool
within k x = reaches k x.step && all (reaches k) x.body

-- FLATTENING ----------------------------------------------------------------------------------------------------------------------------
-- within an after no step has a body
record Near (c : FlattenCtx) (f : Flattened) : Type 0 where
  bare : c.in_after ≡ true → short_bodies 0 f.steps ≡ true
  near : (k : ℕ) → length f.steps ≤ k → short_bodies k f.steps ≡ true → all (within k) f.steps ≡ true

near_none : (c : FlattenCtx) → Near c no_steps
near_none c = record { bare = λ t. refl; near = λ k h s. refl }

-- a step that leads to the next
near-one : (c : FlattenCtx) (f : Flattened) (x : FlatStep) → f.steps ≡ x ∷ [] → x.body ≡ [] → reach x.step ≡ 0 → Near c f
near-one c f x e b r =
    record {
      bare = λ t. rw (e, b);
      near = λ k h s. let l : leb (reach x.step) k ≡ true = le-leb (reach x.step) k (omega (arith, r)) in rw (e, b, l);
    }

short-parts : (k : ℕ) (xs ys : List FlatStep) → short_bodies k (xs ++ ys) ≡ true → (short_bodies k xs ≡ true) × (short_bodies k ys ≡ true)
short-parts k [] ys h = (refl, h)
short-parts k (x ∷ xs) ys h =
    let p = and_parts (leb (length x.body) k) (short_bodies k (xs ++ ys)) h in
    let q = short-parts k xs ys p.1 in
    (and_from _ _ p.0 q.0, q.1)

near-append : (c : FlattenCtx) (a b f : Flattened) → f.steps ≡ a.steps ++ b.steps → Near c a → Near c b → Near c f
near-append c a b f e p q =
    record {
      bare = λ t. rw e (all_append (λ (x : FlatStep). leb (length x.body) 0) a.steps b.steps (p.bare t) (q.bare t));
      near = λ k h s.
          let l : length (a.steps ++ b.steps) ≤ k = rw e at h in
          let g = short-parts k a.steps b.steps (rw e at s) in
          let m = length-append a.steps b.steps in
          rw e (all_append (within k) a.steps b.steps (p.near k (omega arith) g.0) (q.near k (omega arith) g.1));
    }

near-copies : (c : FlattenCtx) (t : ℕ) (b : Flattened) (n : ℕ) → Near c b → Near c (copies t b n)
near-copies c zero b n p = near_none c
near-copies c (suc t) b n p =
    let k = n + length b.steps in
    by (leb k 256)
    (λ e. rw (e, copies) (near-append c b (copies t (again b) k) _ refl p (near-copies c t (again b) k (record { bare = p.bare; near = p.near }))))
    (λ e. rw (e, copies) (near-one c _ _ refl refl refl))

near-repeat : (c : FlattenCtx) (t : ℕ) (b : Flattened) (n : ℕ) → Near (within_repeat c) b → Near c (flatten_repeat t b n)
near-repeat c t b n p =
    let q = near-copies c t b n (record { bare = p.bare; near = p.near }) in
    record { bare = q.bare; near = q.near }

-- the steps of a list, its bodies left out
own-near : (k : ℕ) (xs : List FlatStep) → all (within k) xs ≡ true → all (reaches k) (steps_of xs) ≡ true
own-near k [] h = refl
own-near k (x ∷ xs) h =
    let p = and_parts (within k x) (all (within k) xs) h in
    and_from _ _ (and_parts (reaches k x.step) (all (reaches k) x.body) p.0).0 (own-near k xs p.1)

near-after : (c : FlattenCtx) (ms m : ℕ) (b : Flattened) → c.in_after ≡ false → Near (within_after c) b → Near c (flatten_after ms m b)
near-after c ms m b e p =
    record {
      bare = λ t. absurd (false≢true (sym e ∙ t));
      near = λ k h s.
          let l : leb 0 k ≡ true = le-leb 0 k (omega arith) in
          let g = leb-true (length (steps_of b.steps)) k (and_parts (leb (length (steps_of b.steps)) k) true s).0 in
          let n : length b.steps ≤ k = omega (arith, g, length-map b.steps (λ (x : FlatStep). x.step)) in
          rw (l, own-near k b.steps (p.near k n (longer 0 k b.steps (omega arith) (p.bare refl))));
    }

near-branch : (c : FlattenCtx) (q : ℕ) (y e : Flattened) → Near c y → Near c e → Near c (flatten_branch q y e)
near-branch c q y e p r =
    let m = length-append y.steps e.steps in
    let s = near-append c y e (record { steps = y.steps ++ e.steps; rows = []; bodies = []; taken = 0 }) refl p r in
    record {
      bare = s.bare;
      near = λ k h g.
          let l : leb (length y.steps + length e.steps) k ≡ true = le-leb (length y.steps + length e.steps) k (omega arith) in
          let o : length (y.steps ++ e.steps) ≤ k = omega arith in
          rw (l, s.near k o (and_parts (leb 0 k) (short_bodies k (y.steps ++ e.steps)) g).1);
    }

abbrev NearAt : ℕ → FlattenCtx → ℕ → ℕ → Flattened → Type 0
NearAt d c n m f = Near c f

near-closed : Closed NearAt NearAt
near-closed =
    record {
      nil = λ d c n m. near_none c;
      full = λ d c n m. near-one c _ _ refl refl refl;
      more = λ d c n m a b l p q. near-append c a b _ refl p q;
      plain = λ d c n m i. near-one c _ _ refl refl refl;
      waits = λ d c n m ms. near-one c _ _ refl refl refl;
      fails = λ d c n m. near-one c _ _ refl refl refl;
      afters = λ d c n m ms b e p. near-after c ms m b e p;
      calls = λ d c n m f p. p;
      repeats = λ d c n m t b e p. near-repeat c t b n p;
      branches = λ d c n m q y e t p r. near-branch c q y e (record { bare = p.bare; near = p.near }) (record { bare = r.bare; near = r.near });
    }

-- EVERY LIST OF A RULE --------------------------------------------------------------------------------------------------------------------
body_near : (k : ℕ) (xs : List FlatStep) (p : ℕ) → all (within k) xs ≡ true → all (reaches k) (body_in (slice_get xs p)) ≡ true
body_near k [] p h = refl
body_near k (x ∷ xs) zero h = (and_parts (reaches k x.step) (all (reaches k) x.body) (and_parts (within k x) (all (within k) xs) h).0).1
body_near k (x ∷ xs) (suc p) h = body_near k xs p (and_parts (within k x) (all (within k) xs) h).1

list-near : (k : ℕ) (xs : List FlatStep) (n : ℕ) → all (within k) xs ≡ true → all (reaches k) (list_in xs n) ≡ true
unfolding list_in
list-near k xs zero h = own-near k xs h
list-near k xs (suc p) h = body_near k xs p h

pub rule-near : (img : List ℕ) (i k : ℕ) → length (flatten_rule img i).steps ≤ k → short_bodies k (flatten_rule img i).steps ≡ true
    → (n : ℕ) → all (reaches k) (list_in (flatten_rule img i).steps n) ≡ true
rule-near img i k h s n = list-near k (flatten_rule img i).steps n ((of-rule NearAt NearAt near-closed img i).near k h s)
