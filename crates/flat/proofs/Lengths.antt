-- How long flat lists get: "no list passes 256 + D + 4 steps", D the call depth limit; and what stands in an after has no bodies of its own.
use mathlib.Core.Path.{◌≡◌, refl, sym, ◌∙◌}
use mathlib.Core.Bool.{Bool, true, false, false≢true}
use mathlib.Core.List.{List, []}
use Prim.Native.Nat.{ℕ, zero, suc, ◌+◌, ◌≤◌, ◌<◌}
use native.Mathlib.Omega.{arith}
use borrow.Author.Tests.{leb-true}
use lib.Dec.{leb}
use lib.ListN.{length, length-append}
use Rattle.model.specs.declared.FlattenCtx.{FlattenCtx}
use Rattle.model.specs.Flat.{Flattened, again, within_after, within_conditional, copies, flatten_branch}
use Rattle.model.proofs.TestLaws.{by}
use Rattle.flat.specs.Outcome.{list_at}
use Rattle.flat.proofs.Induction.{Closed, of-table}

-- how many steps a list has behind an action, inside a conditional or not, with d calls left
abbrev pub most : Bool → ℕ → ℕ
most true d = 257 + d
most false d = 259 + d

pub most-le : (u : Bool) (d : ℕ) → (257 + d ≤ most u d) × (most u d ≤ 259 + d)
most-le true d = (omega arith, omega arith)
most-le false d = (omega arith, omega arith)

most-suc : (u : Bool) (d : ℕ) → most u (suc d) ≡ suc (most u d)
most-suc true d = omega arith
most-suc false d = omega arith

-- copies stop at 256 steps, and then one Fail may follow
pub copies_length : (t : ℕ) (b : Flattened) (n : ℕ) → n ≤ 256 → n + length (copies t b n).steps ≤ 257
copies_length zero b n h = omega arith
copies_length (suc t) b n h =
    let k = n + length b.steps in
    by (leb k 256)
    (λ e. rw (e, copies) (omega (arith, copies_length t (again b) k (leb-true k 256 e), length-append b.steps (copies t (again b) k).steps)))
    (λ e. rw (e, copies) (omega arith))

-- THE LENGTHS OF ACTIONS AND LISTS ----------------------------------------------------------------------------------------------------
abbrev pub OfAction : ℕ → FlattenCtx → ℕ → ℕ → Flattened → Type 0
OfAction d c n m f = n < 256 → n + length f.steps ≤ most c.in_conditional d

abbrev pub OfList : ℕ → FlattenCtx → ℕ → ℕ → Flattened → Type 0
OfList d c n m f = (k : ℕ) → suc n ≤ k → suc (most c.in_conditional d) ≤ k → n + length f.steps ≤ k

branch-length : (d : ℕ) (c : FlattenCtx) (n m q : ℕ) (y e : Flattened) → c.in_conditional ≡ false
    → OfList d (within_conditional c) (suc n) m y → OfList d (within_conditional c) (suc n + length y.steps) (m + length y.bodies) e
    → OfAction d c n m (flatten_branch q y e)
branch-length d c n m q y e t h k g =
    let a : suc n + length y.steps ≤ 258 + d = h (258 + d) (omega arith) (omega arith) in
    let b : suc n + length y.steps + length e.steps ≤ 259 + d = k (259 + d) (omega arith) (omega arith) in
    rw t (omega (arith, length-append y.steps e.steps))

pub lengths : Closed OfAction OfList
lengths =
    record {
      nil = λ d c n m k a b. omega arith;
      full = λ d c n m k a b. omega arith;
      more = λ d c n m a b l h k j u v. omega (arith, k j (omega (arith, h l)) v, length-append a.steps b.steps);
      plain = λ d c n m i l. omega (arith, most-le c.in_conditional d);
      waits = λ d c n m ms l. omega (arith, most-le c.in_conditional d);
      fails = λ d c n m l. omega (arith, most-le c.in_conditional d);
      afters = λ d c n m ms b e h l. omega (arith, most-le c.in_conditional d);
      calls = λ d c n m f h l.
          rw (most-suc c.in_conditional d) (h (suc (most c.in_conditional d)) (omega (arith, most-le c.in_conditional d)) (omega arith));
      repeats = λ d c n m t b e h l. omega (arith, copies_length t b n (omega arith), most-le c.in_conditional d);
      branches = branch-length;
    }

-- "no list passes 256 + D + 4 steps"
pub list_length : (acts blocks : List ℕ) (d first count : ℕ) (c : FlattenCtx) (m : ℕ) → length (list_at acts blocks d first count c 0 m).steps ≤ 260 + d
list_length acts blocks d first count c m =
    let h = of-table OfAction OfList lengths acts blocks d first count c 0 m in
    omega (arith, h (260 + d) (omega arith) (omega (arith, most-le c.in_conditional d)))

-- NO BODIES WITHIN AN AFTER -----------------------------------------------------------------------------------------------------------
abbrev Bodiless : ℕ → FlattenCtx → ℕ → ℕ → Flattened → Type 0
Bodiless d c n m f = c.in_after ≡ true → f.bodies ≡ []

pub copies-none : (t : ℕ) (b : Flattened) (n : ℕ) → b.bodies ≡ [] → (copies t b n).bodies ≡ []
copies-none zero b n e = refl
copies-none (suc t) b n e =
    let k = n + length b.steps in by (leb k 256) (λ q. rw (q, copies, e) (copies-none t (again b) k refl)) (λ q. rw (q, copies))

bodiless : Closed Bodiless Bodiless
bodiless =
    record {
      nil = λ d c n m t. refl;
      full = λ d c n m t. refl;
      more = λ d c n m a b l h k t. rw (h t) (k t);
      plain = λ d c n m i t. refl;
      waits = λ d c n m ms t. refl;
      fails = λ d c n m t. refl;
      afters = λ d c n m ms b e h t. absurd (false≢true (sym e ∙ t));
      calls = λ d c n m f h. h;
      repeats = λ d c n m j b e h t. copies-none j b n (h t);
      branches = λ d c n m q y e u h k t. rw (h t) (k t);
    }

pub none_within : (acts blocks : List ℕ) (d first count : ℕ) (c : FlattenCtx) (n m : ℕ) → (list_at acts blocks d first count (within_after c) n m).bodies ≡ []
none_within acts blocks d first count c n m = of-table Bodiless Bodiless bodiless acts blocks d first count (within_after c) n m refl
