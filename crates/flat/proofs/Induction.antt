-- Induction over flattening: what holds of each form, if it holds of its lists, holds of every list of the action table.
use mathlib.Core.Path.{◌≡◌, sym, subst}
use mathlib.Core.Bool.{true, false}
use mathlib.Core.List.{List, [], ◌∷◌}
use Rattle.std.specs.Prelude.{Option, None, Some}
use Prim.Native.Nat.{ℕ, zero, suc, ◌+◌, ◌-◌, ◌/◌, ◌<◌}
use lib.Dec.{leb}
use lib.ListN.{length, take, drop}
use borrow.Author.Tests.{leb-false}
use Rattle.model.specs.declared.Record.{Record}
use Rattle.model.specs.declared.FlowAction.{FlowAction}
use Rattle.model.specs.declared.FlowAction.TheVariants.{Wait, After, Call, Repeat, Conditional, Plain}
use Rattle.model.specs.declared.FlattenCtx.{FlattenCtx}
use Rattle.model.specs.declared.Step.TheVariants as step
use Rattle.model.specs.Rules.{record_in, flow_of}
use Rattle.model.specs.Flat.{Flattened, Flattening, no_steps, one_step, append, within_after, within_repeat, within_conditional, flatten_list, flatten_after, flatten_repeat, repeat_fails, flatten_branch, flatten_action, flattenings_from, block_named, flatten_block, flatten_call, flattenings}
use Rattle.model.proofs.TestLaws.{by}
use Rattle.flat.specs.Outcome.{list_at}

-- of what a list adds: calls left, where it stands, how many steps the list around it has and how many the bodies
abbrev pub Of : Type 1
Of = ℕ → FlattenCtx → ℕ → ℕ → Flattened → Type 0

-- A holds of what an action adds, L of what a list adds
pub record Closed (A L : Of) : Type 0 where
  pub nil : (d : ℕ) (c : FlattenCtx) (n m : ℕ) → L d c n m no_steps
  pub full : (d : ℕ) (c : FlattenCtx) (n m : ℕ) → L d c n m (one_step step.Fail)
  pub more : (d : ℕ) (c : FlattenCtx) (n m : ℕ) (a b : Flattened) → n < 256 → A d c n m a → L d c (n + length a.steps) (m + length a.bodies) b
      → L d c n m (append (record { steps = a.steps; rows = a.rows; bodies = a.bodies; taken = suc a.taken }) b)
  pub plain : (d : ℕ) (c : FlattenCtx) (n m i : ℕ) → A d c n m (one_step (step.Primitive i))
  pub waits : (d : ℕ) (c : FlattenCtx) (n m ms : ℕ) → A d c n m (one_step (step.Wait ms))
  pub fails : (d : ℕ) (c : FlattenCtx) (n m : ℕ) → A d c n m (one_step step.Fail)
  pub afters : (d : ℕ) (c : FlattenCtx) (n m ms : ℕ) (b : Flattened) → c.in_after ≡ false → L d (within_after c) 0 m b → A d c n m (flatten_after ms m b)
  pub calls : (d : ℕ) (c : FlattenCtx) (n m : ℕ) (f : Flattened) → L d c n m f → A (suc d) c n m f
  pub repeats : (d : ℕ) (c : FlattenCtx) (n m t : ℕ) (b : Flattened) → repeat_fails c t ≡ false → L d (within_repeat c) 0 m b → A d c n m (flatten_repeat t b n)
  pub branches : (d : ℕ) (c : FlattenCtx) (n m q : ℕ) (y e : Flattened) → c.in_conditional ≡ false
      → L d (within_conditional c) (suc n) m y → L d (within_conditional c) (suc n + length y.steps) (m + length y.bodies) e → A d c n m (flatten_branch q y e)

module _ (A L : Of) (h : Closed A L) where
  -- with d calls left
  abbrev Action : ℕ → Flattening → Type 0
  Action d x = (c : FlattenCtx) (n m : ℕ) → A d c n m (x c n m)

  abbrev Actions : ℕ → List Flattening → Type 0
  Actions d [] = Unit {0}
  Actions d (x ∷ xs) = Action d x × Actions d xs

  some-taken : (d k : ℕ) (xs : List Flattening) → Actions d xs → Actions d (take k xs)
  some-taken d zero xs g = tt
  some-taken d (suc k) [] g = tt
  some-taken d (suc k) (x ∷ xs) g = (g.0, some-taken d k xs g.1)

  some-dropped : (d k : ℕ) (xs : List Flattening) → Actions d xs → Actions d (drop k xs)
  some-dropped d zero xs g = g
  some-dropped d (suc k) [] g = tt
  some-dropped d (suc k) (x ∷ xs) g = some-dropped d k xs g.1

  of-list : (d : ℕ) (xs : List Flattening) → Actions d xs → (c : FlattenCtx) (n m : ℕ) → L d c n m (flatten_list xs c n m)
  of-list d [] g c n m = h.nil d c n m
  of-list d (x ∷ xs) g c n m =
      let a = x c n m in
      by (leb 256 n)
      (λ e. rw (e, flatten_list) (h.full d c n m))
      (λ e.
      rw (e, flatten_list)
      (h.more d c n m a (flatten_list xs c (n + length a.steps) (m + length a.bodies)) (leb-false 256 n e) (g.0 c n m)
      (of-list d xs g.1 c (n + length a.steps) (m + length a.bodies))))

  of_part : (d k f : ℕ) (xs : List Flattening) → Actions d xs → (c : FlattenCtx) (n m : ℕ) → L d c n m (flatten_list (take k (drop f xs)) c n m)
  of_part d k f xs g = of-list d (take k (drop f xs)) (some-taken d k (drop f xs) (some-dropped d f xs g))

  module _ (d : ℕ) (call : ℕ → Flattening) (i : ℕ) (behind : List Flattening) (g : Actions d behind) where
    -- the three forms that hold lists
    module _ (c : FlattenCtx) (n m : ℕ) where
      after-fails : (ms f k : ℕ) → c.in_after ≡ true → flatten_action call i behind (After ms f k) c n m ≡ one_step step.Fail
      after-fails ms f k e = rw (e, flatten_action)

      after_is : (ms f k : ℕ) → c.in_after ≡ false
          → flatten_action call i behind (After ms f k) c n m ≡ flatten_after ms m (flatten_list (take k (drop (f - suc i) behind)) (within_after c) 0 m)
      after_is ms f k e = rw (e, flatten_action)

      of-after : (ms f k : ℕ) → A d c n m (flatten_action call i behind (After ms f k) c n m)
      of-after ms f k =
          by c.in_after
          (λ e. subst (A d c n m) (sym (after-fails ms f k e)) (h.fails d c n m))
          (λ e.
          subst (A d c n m) (sym (after_is ms f k e))
          (h.afters d c n m ms (flatten_list (take k (drop (f - suc i) behind)) (within_after c) 0 m) e (of_part d k (f - suc i) behind g (within_after c) 0 m)))

      of-repeat : (t f k : ℕ) → A d c n m (flatten_action call i behind (Repeat t f k) c n m)
      of-repeat t f k =
          by (repeat_fails c t)
          (λ e. rw (e, flatten_action) (h.fails d c n m))
          (λ e.
          rw (e, flatten_action)
          (h.repeats d c n m t (flatten_list (take k (drop (f - suc i) behind)) (within_repeat c) 0 m) e (of_part d k (f - suc i) behind g (within_repeat c) 0 m)))

      branch-fails : (q yf yk ef ek : ℕ) → c.in_conditional ≡ true → flatten_action call i behind (Conditional q yf yk ef ek) c n m ≡ one_step step.Fail
      branch-fails q yf yk ef ek e = rw (e, flatten_action)

      branch-is : (q yf yk ef ek : ℕ) → c.in_conditional ≡ false
          → flatten_action call i behind (Conditional q yf yk ef ek) c n m
          ≡ (let y = flatten_list (take yk (drop (yf - suc i) behind)) (within_conditional c) (suc n) m in
          flatten_branch q y
          (flatten_list (take ek (drop (ef - suc i) behind)) (within_conditional c) (suc n + length y.steps) (m + length y.bodies)))
      branch-is q yf yk ef ek e = rw (e, flatten_action)

      of-branch : (q yf yk ef ek : ℕ) → A d c n m (flatten_action call i behind (Conditional q yf yk ef ek) c n m)
      of-branch q yf yk ef ek =
          let y = flatten_list (take yk (drop (yf - suc i) behind)) (within_conditional c) (suc n) m in
          by c.in_conditional
          (λ e. subst (A d c n m) (sym (branch-fails q yf yk ef ek e)) (h.fails d c n m))
          (λ e.
          subst (A d c n m) (sym (branch-is q yf yk ef ek e))
          (h.branches d c n m q y (flatten_list (take ek (drop (ef - suc i) behind)) (within_conditional c) (suc n + length y.steps) (m + length y.bodies)) e
          (of_part d yk (yf - suc i) behind g (within_conditional c) (suc n) m)
          (of_part d ek (ef - suc i) behind g (within_conditional c) (suc n + length y.steps) (m + length y.bodies))))

    of-action : ((b : ℕ) → Action d (call b)) → (a : FlowAction) → Action d (flatten_action call i behind a)
    of-action k (Wait ms) c n m = h.waits d c n m ms
    of-action k (After ms f l) c n m = of-after c n m ms f l
    of-action k (Call b) c n m = k b c n m
    of-action k (Repeat t f l) c n m = of-repeat c n m t f l
    of-action k (Conditional q yf yk ef ek) c n m = of-branch c n m q yf yk ef ek
    of-action k Plain c n m = h.plain d c n m i

  module _ (acts blks : List ℕ) where
    of-records : (d : ℕ) (call : ℕ → Flattening) → ((b : ℕ) → Action d (call b)) → (k i : ℕ) → Actions d (flattenings_from acts blks call k i)
    of-records d call g zero i = tt
    of-records d call g (suc k) i =
        let behind = of-records d call g k (suc i) in
        (of-action d call i (flattenings_from acts blks call k (suc i)) behind g (flow_of (record_in acts i)), behind)

    of-block : (d : ℕ) (r : Option Record) (t : List Flattening) → Actions d t → Action (suc d) (flatten_block acts blks r t)
    of-block d None t g c n m = h.fails (suc d) c n m
    of-block d (Some r) t g c n m = h.calls d c n m (flatten_list (take r.b (drop r.a t)) c n m) (of_part d r.b r.a t g c n m)

    of-call : (d b : ℕ) → Action d (flatten_call acts blks d b)
    unfolding flatten_call
    of-call zero b c n m = h.fails 0 c n m
    of-call (suc d) b c n m =
        of-block d (block_named acts blks b) (flattenings_from acts blks (flatten_call acts blks d) (length acts / 8) 0)
        (of-records d (flatten_call acts blks d) (of-call d) (length acts / 8) 0) c n m

    of-flattenings : (d : ℕ) → Actions d (flattenings acts blks d)
    unfolding flattenings
    of-flattenings d = of-records d (flatten_call acts blks d) (of-call d) (length acts / 8) 0

    -- a list of the action table
    pub of-table : (d first count : ℕ) (c : FlattenCtx) (n m : ℕ) → L d c n m (list_at acts blks d first count c n m)
    of-table d first count = of_part d count first (flattenings acts blks d) (of-flattenings d)
