-- How many steps lists and sets have: "no list passes 256 + D + 4 steps", D the call depth limit; and an accepted set is stored in at most 2,048.
use mathlib.Core.Path.{◌≡◌, refl}
use mathlib.Core.Bool.{Bool, true, false}
use mathlib.Core.List.{List, [], ◌∷◌, ◌++◌}
use Prim.Native.Nat.{ℕ, zero, suc, ◌+◌, ◌≤◌}
use native.Mathlib.Omega.{arith}
use borrow.Author.Tests.{le-leb, leb-true, ltb-false}
use lib.Dec.{leb, ltb}
use lib.ListN.{length, length-map}
use Rattle.std.proofs.lemmas.Bool.{and_parts, or_parts}
use Rattle.model.specs.declared.Step.TheVariants as step
use Rattle.model.specs.declared.FlattenCtx.{FlattenCtx}
use Rattle.model.specs.Lists.{all}
use Rattle.model.specs.Steps.{FlatStep, steps_of}
use Rattle.model.specs.Image.{call_depth, repeat_limit}
use Rattle.model.specs.Flat.{Flattened, again, within_after, copies, flatten_after, flatten_rule, flatten_rules, steps_in, taken_in, too_many_steps}
use Rattle.model.proofs.Bools as bools
use Rattle.model.proofs.TestLaws.{by}
use Rattle.flat.specs.Load.{rule_context, stored}
use Rattle.flat.proofs.Induction.{Closed}
use Rattle.flat.proofs.Lengths.{OfAction, OfList, lengths, most-le}
use Rattle.flat.proofs.EachRule.{of-rule}
use Rattle.flat.proofs.RuleLists.{stored-count}

-- HOW LONG LISTS GET --------------------------------------------------------------------------------------------------------------------
-- bodies have at most k steps
abbrev pub short_bodies : ℕ → List FlatStep → Bool
short_bodies k = all (λ (x : FlatStep). leb (length x.body) k)

pub longer : (j k : ℕ) (xs : List FlatStep) → j ≤ k → short_bodies j xs ≡ true → short_bodies k xs ≡ true
longer j k [] l h = refl
longer j k (x ∷ xs) l h =
    let b = and_parts (leb (length x.body) j) (short_bodies j xs) h in
    let e = leb-true (length x.body) j b.0 in
    rw (le-leb (length x.body) k (omega arith)) (longer j k xs l b.1)

least : (k : ℕ) → leb 0 k ≡ true
least k = le-leb 0 k (omega arith)

short-one : (d : ℕ) (x : FlatStep) → length x.body ≤ 260 + d → short_bodies (260 + d) (x ∷ []) ≡ true
short-one d x h = rw (le-leb (length x.body) (260 + d) h)

short-append : (k : ℕ) (xs ys : List FlatStep) → short_bodies k xs ≡ true → short_bodies k ys ≡ true → short_bodies k (xs ++ ys) ≡ true
short-append k xs ys h g = bools.all_append (λ (x : FlatStep). leb (length x.body) k) xs ys h g

short-copies : (k t n : ℕ) (b : Flattened) → short_bodies k b.steps ≡ true → short_bodies k (copies t b n).steps ≡ true
short-copies k zero n b h = refl
short-copies k (suc t) n b h =
    by (leb (n + length b.steps) 256)
    (λ e. rw (e, copies) (short-append k b.steps (copies t (again b) (n + length b.steps)).steps h (short-copies k t (n + length b.steps) (again b) h)))
    (λ e. rw (e, copies, least k))

abbrev ShortAction : ℕ → FlattenCtx → ℕ → ℕ → Flattened → Type 0
ShortAction d c n m f = OfAction d c n m f × (short_bodies (260 + d) f.steps ≡ true)

abbrev ShortList : ℕ → FlattenCtx → ℕ → ℕ → Flattened → Type 0
ShortList d c n m f = OfList d c n m f × (short_bodies (260 + d) f.steps ≡ true)

short-after : (d : ℕ) (c : FlattenCtx) (n m ms : ℕ) (b : Flattened) → OfList d (within_after c) 0 m b → short_bodies (260 + d) (flatten_after ms m b).steps ≡ true
short-after d c n m ms b h =
    let l : length b.steps ≤ 260 + d = omega (arith, h (260 + d) (omega arith) (omega (arith, most-le c.in_conditional d))) in
    short-one d (record { step = step.After ms; body = steps_of b.steps }) (omega (arith, length-map b.steps (λ (x : FlatStep). x.step)))

short-closed : Closed ShortAction ShortList
short-closed =
    record {
      nil = λ d c n m. (lengths.nil d c n m, refl);
      full = λ d c n m. (lengths.full d c n m, rw (least (260 + d)));
      more = λ d c n m a b l h k. (lengths.more d c n m a b l h.0 k.0, short-append (260 + d) a.steps b.steps h.1 k.1);
      plain = λ d c n m i. (lengths.plain d c n m i, rw (least (260 + d)));
      waits = λ d c n m ms. (lengths.waits d c n m ms, rw (least (260 + d)));
      fails = λ d c n m. (lengths.fails d c n m, rw (least (260 + d)));
      afters = λ d c n m ms b e h. (lengths.afters d c n m ms b e h.0, short-after d c n m ms b h.0);
      calls = λ d c n m f h. (lengths.calls d c n m f h.0, longer (260 + d) (260 + suc d) f.steps (omega arith) h.1);
      repeats = λ d c n m t b e h. (lengths.repeats d c n m t b e h.0, short-copies (260 + d) t n b h.1);
      branches = λ d c n m q y e z h k. (
        lengths.branches d c n m q y e z h.0 k.0,
        rw (least (260 + d)) (short-append (260 + d) y.steps e.steps h.1 k.1),
      );
    }

shorts : (img : List ℕ) (i : ℕ) → ShortList (call_depth img) (rule_context (repeat_limit img)) 0 0 (flatten_rule img i)
shorts img i = of-rule ShortAction ShortList short-closed img i

-- a rule's own list, and the bodies of its afters
pub rule-counted : (img : List ℕ) (i : ℕ) → length (flatten_rule img i).steps ≤ 256 + call_depth img + 4
rule-counted img i = omega (arith, (shorts img i).0 (260 + call_depth img) (omega arith) (omega arith))

pub rule-short-bodies : (img : List ℕ) (i : ℕ) → short_bodies (256 + call_depth img + 4) (flatten_rule img i).steps ≡ true
rule-short-bodies img i =
    let e : 256 + call_depth img + 4 ≡ 260 + call_depth img = omega arith in rw e (shorts img i).1

-- AN ACCEPTED SET -------------------------------------------------------------------------------------------------------------------
module _ (fs : List Flattened) (h : too_many_steps fs ≡ false) where
  pub few-steps : steps_in fs ≤ 2048
  unfolding too_many_steps
  few-steps = ltb-false 2048 (steps_in fs) (or_parts (ltb 2048 (steps_in fs)) (ltb 65536 (taken_in fs)) h).0

  pub few-taken : taken_in fs ≤ 65536
  unfolding too_many_steps
  few-taken = ltb-false 65536 (taken_in fs) (or_parts (ltb 2048 (steps_in fs)) (ltb 65536 (taken_in fs)) h).1

pub few-stored : (img : List ℕ) → too_many_steps (flatten_rules img) ≡ false → length (stored (flatten_rules img)) ≤ 2048
few-stored img h = omega (arith, few-steps (flatten_rules img) h, stored-count (flatten_rules img))
