-- Flattening of actions without lists of their own, where there are no blocks: a step for each, so that 16 refuses no short list. Assumes nothing.
use mathlib.Core.Path.{◌≡◌, refl, sym, ap, ◌∙◌}
use mathlib.Core.Bool.{Bool, true, false, false≢true}
use mathlib.Core.List.{List, [], ◌∷◌, ◌++◌}
use Prim.Native.Nat.{ℕ, zero, suc, ◌+◌, ◌-◌, ◌*◌, ◌/◌, ◌≤◌, ◌<◌}
use native.Mathlib.Omega.{arith}
use borrow.Author.Tests.{ltb-false, le-ltb}
use lib.Dec.{leb, ltb}
use lib.ListN.{length, take, get_or, length-append}
use Rattle.model.specs.declared.Record.{Record}
use Rattle.model.specs.declared.FlowAction.{FlowAction}
use Rattle.model.specs.declared.FlowAction.TheVariants.{Wait, After, Call, Repeat, Conditional, Plain}
use Rattle.model.specs.declared.FlattenCtx.{FlattenCtx}
use Rattle.model.specs.Rules.{record_in, flow_of}
use Rattle.model.specs.Flat.{Row, Flattened, Flattening, flatten_list, flatten_action, flattenings_from, block_named, flatten_call, flattenings, too_many_steps}
use Rattle.model.specs.ShortLists.{is_plain}
use Rattle.short_lists.proofs.Blocks.{by}

-- an action that holds a list
abbrev nests : FlowAction → Bool
nests (Wait ms) = false
nests (After ms f k) = true
nests (Call b) = false
nests (Repeat t f k) = true
nests (Conditional q yf yk ef ek) = true
nests Plain = false

module _ (r : Record) (h : is_plain r.kind ≡ true) where
  flow-at : (x : ℕ) → r.kind ≡ x + 23 → nests (get_or (Wait r.a ∷ After r.a r.b r.c ∷ Call r.a ∷ Repeat r.a r.b r.c ∷ Conditional r.a r.b r.c r.d r.e ∷ []) x Plain) ≡ false
  unfolding is_plain
  flow-at zero e = refl
  flow-at (suc zero) e = absurd (false≢true (rw e at h))
  flow-at (suc (suc zero)) e = refl
  flow-at (suc (suc (suc zero))) e = absurd (false≢true (rw e at h))
  flow-at (suc (suc (suc (suc zero)))) e = absurd (false≢true (rw e at h))
  flow-at (suc (suc (suc (suc (suc x))))) e = refl

  flow-nests : nests (flow_of r) ≡ false
  unfolding flow_of
  flow-nests =
      by (ltb r.kind 23)
      (λ e. rw e)
      (λ e. let l : 23 ≤ r.kind = ltb-false r.kind 23 e in rw e (flow-at (r.kind - 23) (omega arith)))

-- what gives a step and no body, and takes no action
record Single (g : Flattening) : Type 0 where
  rows : (c : FlattenCtx) (n m : ℕ) → length (g c n m).rows ≡ 1
  bodies : (c : FlattenCtx) (n m : ℕ) → (g c n m).bodies ≡ []
  taken : (c : FlattenCtx) (n m : ℕ) → (g c n m).taken ≡ 0

module _ (acts : List ℕ) where
  -- no block has a name: Fail
  call-single : (d b : ℕ) → Single (flatten_call acts [] d b)
  unfolding flatten_call block_named
  call-single zero b = record { rows = λ c n m. refl; bodies = λ c n m. refl; taken = λ c n m. refl }
  call-single (suc d) b = record { rows = λ c n m. refl; bodies = λ c n m. refl; taken = λ c n m. refl }

  action-single : (d i : ℕ) (behind : List Flattening) (f : FlowAction) → nests f ≡ false → Single (flatten_action (flatten_call acts [] d) i behind f)
  action-single d i behind (Wait ms) e = record { rows = λ c n m. refl; bodies = λ c n m. refl; taken = λ c n m. refl }
  action-single d i behind (After ms f k) e = absurd (false≢true (sym e))
  action-single d i behind (Call b) e =
      let s = call-single d b in
      record { rows = s.rows; bodies = s.bodies; taken = s.taken }
  action-single d i behind (Repeat t f k) e = absurd (false≢true (sym e))
  action-single d i behind (Conditional q yf yk ef ek) e = absurd (false≢true (sym e))
  action-single d i behind Plain e = record { rows = λ c n m. refl; bodies = λ c n m. refl; taken = λ c n m. refl }

abbrev Singles : List Flattening → Type 0
Singles [] = Unit {0}
Singles (g ∷ gs) = Single g × Singles gs

some-taken : (k : ℕ) (gs : List Flattening) → Singles gs → Singles (take k gs)
some-taken zero gs s = tt
some-taken (suc k) [] s = tt
some-taken (suc k) (g ∷ gs) s = (s.0, some-taken k gs s.1)

length_taken : (k : ℕ) (gs : List Flattening) → length (take k gs) ≤ k
length_taken zero gs = omega arith
length_taken (suc k) [] = omega arith
length_taken (suc k) (g ∷ gs) = omega (arith, length_taken k gs)

-- what so many of them give
record Few (k : ℕ) (f : Flattened) : Type 0 where
  rows : length f.rows ≤ k
  bodies : f.bodies ≡ []
  taken : f.taken ≤ k

few-steps : (gs : List Flattening) → Singles gs → (c : FlattenCtx) (n m : ℕ) → Few (length gs) (flatten_list gs c n m)
few-steps [] s c n m = record { rows = omega arith; bodies = refl; taken = omega arith }
few-steps (g ∷ gs) s c n m =
    let a = g c n m in
    let b = few-steps gs s.1 c (n + length a.steps) (m + length a.bodies) in
    by (leb 256 n)
    (λ e. rw (e, flatten_list) (record { rows = omega arith; bodies = refl; taken = omega arith }))
    (λ e.
    rw (e, flatten_list)
    (record {
      rows = rw (length-append) (omega (arith, s.0.rows c n m, b.rows));
      bodies = ap (λ (x : List Row). x ++ (flatten_list gs c (n + length a.steps) (m + length a.bodies)).bodies) (s.0.bodies c n m) ∙ b.bodies;
      taken = omega (arith, s.0.taken c n m, b.taken);
    }))

module _ (acts : List ℕ) (d : ℕ) where
  from-single : (k i : ℕ) → ((j : ℕ) → i ≤ j → j < i + k → is_plain (get_or acts (j * 8) 0) ≡ true) → Singles (flattenings_from acts [] (flatten_call acts [] d) k i)
  from-single zero i h = tt
  from-single (suc k) i h = (
    action-single acts d i (flattenings_from acts [] (flatten_call acts [] d) k (suc i)) (flow_of (record_in acts i)) (flow-nests (record_in acts i) (h i (omega arith) (omega arith))),
    from-single k (suc i) (λ j a b. h j (omega arith) (omega arith)),
  )

  -- 16
  pub few-enough : (count : ℕ) → count ≤ 3 → ((j : ℕ) → j < length acts / 8 → is_plain (get_or acts (j * 8) 0) ≡ true) → (c : FlattenCtx)
      → too_many_steps (flatten_list (take count (flattenings acts [] d)) c 0 0 ∷ []) ≡ false
  unfolding too_many_steps flattenings
  few-enough count small h c =
      let gs = take count (flattenings acts [] d) in
      let s = some-taken count (flattenings acts [] d) (from-single (length acts / 8) 0 (λ j a b. h j (omega arith))) in
      let x = few-steps gs s c 0 0 in
      let l : length gs ≤ count = length_taken count (flattenings acts [] d) in
      let f = flatten_list gs c 0 0 in
      let a : length (f.bodies ++ f.rows) + 0 ≤ 2048 = rw x.bodies (omega (arith, x.rows)) in
      let b : f.taken + 0 ≤ 65536 = omega (arith, x.taken) in
      rw (le-ltb 2048 (length (f.bodies ++ f.rows) + 0) a, le-ltb 65536 (f.taken + 0) b)
