-- Shared and unshared flattening side by side, whatever bodies stand before each: equal steps, equally many rows, as many actions taken; the shared bodies
-- are no more than the unshared; and the unshared form stores what document 01 counts.
use mathlib.Core.Path.{◌≡◌, refl, sym, ap, ap₂}
use mathlib.Core.List.{List, [], ◌∷◌, ◌++◌}
use Rattle.std.specs.Prelude.{Option, None, Some}
use Prim.Native.Nat.{ℕ, zero, suc, ◌+◌, ◌-◌, ◌/◌, ◌≤◌}
use native.Mathlib.Omega.{arith}
use lib.Dec.{leb}
use lib.ListN.{length, take, drop, length-append, length-map}
use Rattle.model.specs.declared.Record.{Record}
use Rattle.model.specs.declared.FlowAction.{FlowAction}
use Rattle.model.specs.declared.FlowAction.TheVariants.{Wait, After, Call, Repeat, Conditional, Plain}
use Rattle.model.specs.declared.Step.{Step}
use Rattle.model.specs.declared.Step.TheVariants as step
use Rattle.model.specs.declared.FlattenCtx.{FlattenCtx}
use Rattle.model.specs.Image.{word_at, table_of, call_depth}
use Rattle.model.specs.Rows.{rules, blocks, actions}
use Rattle.model.specs.Rules.{record_in, flow_of}
use Rattle.model.specs.Steps.{FlatStep, steps_of}
use Rattle.model.specs.Flat.{Flattened, no_steps, one_step, append, again, within_after, within_repeat, within_conditional, Flattening, flatten_list, flatten_after, flatten_branch, repeat_fails, block_named, flatten_block, every_copy, copies, flatten_repeat, flatten_action, flattenings_from, flatten_call, flattenings, flatten_rule}
use Rattle.ledger.proofs.ListLaws.{by}
use Rattle.ledger.proofs.Shapes.{every_copy-append}
use Rattle.sharing.specs.Unshared as unshared

-- a shared and an unshared flattening
pub record Same (x y : Flattened) : Type 0 where
  pub steps : x.steps ≡ y.steps
  pub rows : length x.rows ≡ length y.rows
  pub own : length y.rows ≡ length y.steps
  pub bodies : length x.bodies ≤ length y.bodies
  pub counted : length y.rows + length y.bodies ≡ every_copy y.steps
  pub taken : x.taken ≡ y.taken

same_none : Same no_steps no_steps
same_none = record { steps = refl; rows = refl; own = refl; bodies = omega arith; counted = refl; taken = refl }

same-one : (s : Step) → Same (one_step s) (one_step s)
same-one s = record { steps = refl; rows = refl; own = refl; bodies = omega arith; counted = refl; taken = refl }

same-append : (x y z w : Flattened) → Same x y → Same z w → Same (append x z) (append y w)
same-append x y z w h g =
    let rx = length-append x.rows z.rows in
    let ry = length-append y.rows w.rows in
    let bx = length-append x.bodies z.bodies in
    let by = length-append y.bodies w.bodies in
    record {
      steps = ap₂ (λ (a b : List FlatStep). a ++ b) h.steps g.steps;
      rows = omega (arith, rx, ry, h.rows, g.rows);
      own = omega (arith, ry, length-append y.steps w.steps, h.own, g.own);
      bodies = omega (arith, bx, by, h.bodies, g.bodies);
      counted = omega (arith, ry, by, every_copy-append y.steps w.steps, h.counted, g.counted);
      taken = ap₂ ◌+◌ h.taken g.taken;
    }

-- the action of a list is counted
one-taken : (x y : Flattened) → Same x y
    → Same (record { steps = x.steps; rows = x.rows; bodies = x.bodies; taken = suc x.taken }) (record { steps = y.steps; rows = y.rows; bodies = y.bodies; taken = suc y.taken })
one-taken x y h = record { steps = h.steps; rows = h.rows; own = h.own; bodies = h.bodies; counted = h.counted; taken = ap suc h.taken }

same_after : (ms m k : ℕ) (x y : Flattened) → Same x y → Same (flatten_after ms m x) (flatten_after ms k y)
same_after ms m k x y h =
    record {
      steps = ap (λ (xs : List FlatStep). record { step = step.After ms; body = steps_of xs } ∷ []) h.steps;
      rows = refl;
      own = refl;
      bodies = omega (arith, h.rows);
      counted = omega (arith, h.own, length-map y.steps (λ (s : FlatStep). s.step));
      taken = h.taken;
    }

same_branch : (q : ℕ) (x y z w : Flattened) → Same x y → Same z w → Same (flatten_branch q x z) (flatten_branch q y w)
same_branch q x y z w h g =
    let s = same-append x y z w h g in
    record {
      steps =
          ap₂ (λ (a b : List FlatStep). record { step = step.Branch q (length a) (length b); body = [] } ∷ (a ++ b)) h.steps g.steps;
      rows = ap suc s.rows;
      own = ap suc s.own;
      bodies = s.bodies;
      counted = omega (arith, s.counted);
      taken = s.taken;
    }

-- COPIES ----------------------------------------------------------------------------------------------------------------------------
-- a later copy: its bodies are those of the first
same-again : (x y : Flattened) → Same x y → Same (again x) y
same-again x y h = record { steps = h.steps; rows = h.rows; own = h.own; bodies = omega arith; counted = h.counted; taken = h.taken }

same-copies : (t n m : ℕ) (x : Flattened) (body : ℕ → Flattened) → ((k : ℕ) → Same x (body k)) → Same (copies t x n) (unshared.copies t body n m)
same-copies zero n m x body h = same_none
same-copies (suc t) n m x body h =
    let e : length (body m).steps ≡ length x.steps = ap length (sym (h m).steps) in
    by (leb (n + length x.steps) 256)
    (λ fits.
    rw (e, fits, copies, unshared.copies)
    (same-append x (body m) (copies t (again x) (n + length x.steps)) (unshared.copies t body (n + length (body m).steps) (m + length (body m).bodies)) (h m)
    (rw e (same-copies t (n + length x.steps) (m + length (body m).bodies) (again x) body (λ k. same-again x (body k) (h k))))))
    (λ over. rw (e, over, copies, unshared.copies) (same-one step.Fail))

same-repeat : (t n m : ℕ) (x : Flattened) (body : ℕ → Flattened) → ((k : ℕ) → Same x (body k)) → Same (flatten_repeat t x n) (unshared.flatten_repeat t body n m)
same-repeat t n m x body h =
    let s = same-copies t n m x body h in
    record { steps = s.steps; rows = s.rows; own = s.own; bodies = s.bodies; counted = s.counted; taken = (h m).taken }

-- LISTS -----------------------------------------------------------------------------------------------------------------------------
abbrev Alike : Flattening → Flattening → Type 0
Alike f g = (c : FlattenCtx) (n m k : ℕ) → Same (f c n m) (g c n k)

abbrev AllAlike : List Flattening → List Flattening → Type 0
AllAlike [] [] = Unit {0}
AllAlike [] (g ∷ gs) = ⊥
AllAlike (f ∷ fs) [] = ⊥
AllAlike (f ∷ fs) (g ∷ gs) = Alike f g × AllAlike fs gs

alike-take : (k : ℕ) (fs gs : List Flattening) → AllAlike fs gs → AllAlike (take k fs) (take k gs)
alike-take zero fs gs h = tt
alike-take (suc k) [] [] h = tt
alike-take (suc k) [] (g ∷ gs) h = h
alike-take (suc k) (f ∷ fs) [] h = h
alike-take (suc k) (f ∷ fs) (g ∷ gs) h = (h.0, alike-take k fs gs h.1)

alike-drop : (k : ℕ) (fs gs : List Flattening) → AllAlike fs gs → AllAlike (drop k fs) (drop k gs)
alike-drop zero fs gs h = h
alike-drop (suc k) [] [] h = tt
alike-drop (suc k) [] (g ∷ gs) h = absurd h
alike-drop (suc k) (f ∷ fs) [] h = absurd h
alike-drop (suc k) (f ∷ fs) (g ∷ gs) h = alike-drop k fs gs h.1

alike-list : (fs gs : List Flattening) → AllAlike fs gs → Alike (flatten_list fs) (flatten_list gs)
alike-list [] [] h c n m k = same_none
alike-list [] (g ∷ gs) h c n m k = absurd h
alike-list (f ∷ fs) [] h c n m k = absurd h
alike-list (f ∷ fs) (g ∷ gs) h c n m k =
    let one = h.0 c n m k in
    let e : length (g c n k).steps ≡ length (f c n m).steps = ap length (sym one.steps) in
    by (leb 256 n)
    (λ cut. rw (cut, flatten_list) (same-one step.Fail))
    (λ room.
    rw (room, e, flatten_list)
    (same-append (record { steps = (f c n m).steps; rows = (f c n m).rows; bodies = (f c n m).bodies; taken = suc (f c n m).taken })
    (record { steps = (g c n k).steps; rows = (g c n k).rows; bodies = (g c n k).bodies; taken = suc (g c n k).taken })
    (flatten_list fs c (n + length (f c n m).steps) (m + length (f c n m).bodies))
    (flatten_list gs c (n + length (f c n m).steps) (k + length (g c n k).bodies))
    (one-taken (f c n m) (g c n k) one)
    (alike-list fs gs h.1 c (n + length (f c n m).steps) (m + length (f c n m).bodies) (k + length (g c n k).bodies))))

alike-part : (k i : ℕ) (fs gs : List Flattening) → AllAlike fs gs → Alike (flatten_list (take k (drop i fs))) (flatten_list (take k (drop i gs)))
alike-part k i fs gs h = alike-list (take k (drop i fs)) (take k (drop i gs)) (alike-take k (drop i fs) (drop i gs) (alike-drop i fs gs h))

-- ACTIONS ---------------------------------------------------------------------------------------------------------------------------
module _ (f g : ℕ → Flattening) (i : ℕ) (fs gs : List Flattening) (h : AllAlike fs gs) where
  alike-after : (ms j l : ℕ) → Alike (flatten_action f i fs (After ms j l)) (unshared.flatten_action g i gs (After ms j l))
  alike-after ms j l c n m k =
      by c.in_after
      (λ e. rw (e, flatten_action, unshared.flatten_action) (same-one step.Fail))
      (λ e.
      rw (e, flatten_action, unshared.flatten_action)
      (same_after ms m k (flatten_list (take l (drop (j - suc i) fs)) (within_after c) 0 m) (flatten_list (take l (drop (j - suc i) gs)) (within_after c) 0 k)
      (alike-part l (j - suc i) fs gs h (within_after c) 0 m k)))

  alike-repeat : (t j l : ℕ) → Alike (flatten_action f i fs (Repeat t j l)) (unshared.flatten_action g i gs (Repeat t j l))
  alike-repeat t j l c n m k =
      by (repeat_fails c t)
      (λ e. rw (e, flatten_action, unshared.flatten_action) (same-one step.Fail))
      (λ e.
      rw (e, flatten_action, unshared.flatten_action)
      (same-repeat t n k (flatten_list (take l (drop (j - suc i) fs)) (within_repeat c) 0 m) (flatten_list (take l (drop (j - suc i) gs)) (within_repeat c) 0)
      (λ p. alike-part l (j - suc i) fs gs h (within_repeat c) 0 m p)))

  alike-branch : (q yf yk ef ek : ℕ) → Alike (flatten_action f i fs (Conditional q yf yk ef ek)) (unshared.flatten_action g i gs (Conditional q yf yk ef ek))
  alike-branch q yf yk ef ek c n m k =
      let x = flatten_list (take yk (drop (yf - suc i) fs)) (within_conditional c) (suc n) m in
      let y = flatten_list (take yk (drop (yf - suc i) gs)) (within_conditional c) (suc n) k in
      let s = alike-part yk (yf - suc i) fs gs h (within_conditional c) (suc n) m k in
      let e : length y.steps ≡ length x.steps = ap length (sym s.steps) in
      by c.in_conditional
      (λ no. rw (no, flatten_action, unshared.flatten_action) (same-one step.Fail))
      (λ ok.
      rw (ok, flatten_action, unshared.flatten_action)
      (same_branch q x y
      (flatten_list (take ek (drop (ef - suc i) fs)) (within_conditional c) (suc n + length x.steps) (m + length x.bodies))
      (flatten_list (take ek (drop (ef - suc i) gs)) (within_conditional c) (suc n + length y.steps) (k + length y.bodies))
      s
      (rw e (alike-part ek (ef - suc i) fs gs h (within_conditional c) (suc n + length x.steps) (m + length x.bodies) (k + length y.bodies)))))

  alike-action : ((b : ℕ) → Alike (f b) (g b)) → (a : FlowAction) → Alike (flatten_action f i fs a) (unshared.flatten_action g i gs a)
  alike-action s Plain c n m k = same-one (step.Primitive i)
  alike-action s (Wait ms) c n m k = same-one (step.Wait ms)
  alike-action s (After ms j l) c n m k = alike-after ms j l c n m k
  alike-action s (Call b) c n m k = s b c n m k
  alike-action s (Repeat t j l) c n m k = alike-repeat t j l c n m k
  alike-action s (Conditional q yf yk ef ek) c n m k = alike-branch q yf yk ef ek c n m k

-- RULES -----------------------------------------------------------------------------------------------------------------------------
module _ (acts blks : List ℕ) where
  alike_from : (f g : ℕ → Flattening) → ((b : ℕ) → Alike (f b) (g b)) → (k i : ℕ) → AllAlike (flattenings_from acts blks f k i) (unshared.flattenings_from acts blks g k i)
  alike_from f g s zero i = tt
  alike_from f g s (suc k) i =
      let behind = alike_from f g s k (suc i) in
      (alike-action f g i (flattenings_from acts blks f k (suc i)) (unshared.flattenings_from acts blks g k (suc i)) behind s (flow_of (record_in acts i)), behind)

  alike-block : (b : Option Record) (fs gs : List Flattening) → AllAlike fs gs → Alike (flatten_block acts blks b fs) (flatten_block acts blks b gs)
  alike-block None fs gs h c n m k = same-one step.Fail
  alike-block (Some r) fs gs h c n m k = alike-part r.b r.a fs gs h c n m k

  alike-call : (d b : ℕ) → Alike (flatten_call acts blks d b) (unshared.flatten_call acts blks d b)
  unfolding flatten_call unshared.flatten_call
  alike-call zero b c n m k = same-one step.Fail
  alike-call (suc d) b c n m k =
      alike-block (block_named acts blks b) (flattenings_from acts blks (flatten_call acts blks d) (length acts / 8) 0) (unshared.flattenings_from acts blks (unshared.flatten_call acts blks d) (length acts / 8) 0)
      (alike_from (flatten_call acts blks d) (unshared.flatten_call acts blks d) (alike-call d) (length acts / 8) 0) c n m k

  alike_all : (d : ℕ) → AllAlike (flattenings acts blks d) (unshared.flattenings acts blks d)
  unfolding flattenings unshared.flattenings
  alike_all d = alike_from (flatten_call acts blks d) (unshared.flatten_call acts blks d) (alike-call d) (length acts / 8) 0

-- rule i of an image
pub rule-same : (img : List ℕ) (i : ℕ) → Same (flatten_rule img i) (unshared.flatten_rule img i)
unfolding flatten_rule unshared.flatten_rule
rule-same img i =
    alike-part (word_at img rules i 9) (word_at img rules i 8) (flattenings (table_of img actions) (table_of img blocks) (call_depth img))
    (unshared.flattenings (table_of img actions) (table_of img blocks) (call_depth img)) (alike_all (table_of img actions) (table_of img blocks) (call_depth img)) _ 0 0 0
