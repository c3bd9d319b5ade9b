-- At most 12 lists are open at once: the rule's own, 8 calls, and one of each kind of nested list. The bound on the stack of every call
-- rests on it (docs/PERFORMANCE.md). The falling number: calls left, and kinds of nested list that may still open.
use mathlib.Core.Path.{◌≡◌, refl, sym, subst}
use mathlib.Core.Bool.{Bool, true, false}
use mathlib.Core.List.{List, [], ◌∷◌}
use Rattle.std.specs.Prelude.{Option, None, Some}
use Prim.Native.Nat.{ℕ, zero, suc, ◌+◌, ◌-◌, ◌/◌, ◌≤◌}
use native.Mathlib.Omega.{arith}
use lib.Dec.{leb}
use lib.ListN.{length, take, drop}
use borrow.Author.Tests.{leb-true}
use Rattle.std.proofs.lemmas.Bool.{and_parts}
use Rattle.model.specs.declared.Record.{Record}
use Rattle.model.specs.declared.FlowAction.{FlowAction}
use Rattle.model.specs.declared.FlowAction.TheVariants.{Wait, After, Call, Repeat, Conditional, Plain}
use Rattle.model.specs.declared.FlattenCtx.{FlattenCtx}
use Rattle.model.specs.Rows.{rules, blocks, actions}
use Rattle.model.specs.Rules.{record_in, flow_of}
use Rattle.model.specs.Image.{word_at, table_of, trailer, call_depth, repeat_limit, limit_fits, limits_fit}
use Rattle.model.specs.Flat.{Flattening, within_after, within_repeat, within_conditional, flatten_list, repeat_fails, flattenings_from, block_named, flatten_call, flattenings}
use Rattle.model.proofs.Bools.{every-at}
use Rattle.model.proofs.TestLaws.{by}
use Rattle.flat.specs.Load.{rule_context}
use Rattle.flat.specs.OpenLists.{Opening, greater, open_list, open_part, open_action, openings_from, open_block, open_call, openings, open_lists}
use Rattle.flat.proofs.Definition.{repeats-outside}

greater-le : (a b k : ℕ) → a ≤ k → b ≤ k → greater a b ≤ k
unfolding greater
greater-le a b k h j = by (leb a b) (λ e. rw e j) (λ e. rw e h)

-- the kinds of nested list that may still open: each gives Fail inside itself, through calls too
abbrev shut : Bool → ℕ
shut true = 0
shut false = 1

abbrev kinds : FlattenCtx → ℕ
kinds c = shut c.in_after + shut c.in_repeat + shut c.in_conditional

kinds-after : (c : FlattenCtx) → c.in_after ≡ false → suc (kinds (within_after c)) ≡ kinds c
kinds-after c h = rw h (omega arith)

kinds-repeat : (c : FlattenCtx) (t : ℕ) → repeat_fails c t ≡ false → suc (kinds (within_repeat c)) ≡ kinds c
kinds-repeat c t h = rw (repeats-outside c t h) (omega arith)

kinds-conditional : (c : FlattenCtx) → c.in_conditional ≡ false → suc (kinds (within_conditional c)) ≡ kinds c
kinds-conditional c h = rw h (omega arith)

-- with d calls left, an action opens at most d lists of blocks and one of each kind that may still open
abbrev Few : ℕ → Opening → Type 0
Few d o = (c : FlattenCtx) (n m : ℕ) → o c n m ≤ d + kinds c

abbrev AllFew : ℕ → List Opening → Type 0
AllFew d [] = Unit {0}
AllFew d (o ∷ os) = Few d o × AllFew d os

few-taken : (d k : ℕ) (os : List Opening) → AllFew d os → AllFew d (take k os)
few-taken d zero os g = tt
few-taken d (suc k) [] g = tt
few-taken d (suc k) (o ∷ os) g = (g.0, few-taken d k os g.1)

few-dropped : (d k : ℕ) (os : List Opening) → AllFew d os → AllFew d (drop k os)
few-dropped d zero os g = g
few-dropped d (suc k) [] g = tt
few-dropped d (suc k) (o ∷ os) g = few-dropped d k os g.1

few-in-list : (d : ℕ) (gs : List Flattening) (os : List Opening) → AllFew d os → (c : FlattenCtx) (n m : ℕ) → open_list gs os c n m ≤ suc (d + kinds c)
few-in-list d [] os h c n m = omega arith
few-in-list d (g ∷ gs) [] h c n m = omega arith
few-in-list d (g ∷ gs) (o ∷ os) h c n m =
    by (leb 256 n)
    (λ e. rw (e, open_list) (omega arith))
    (λ e.
    let n' = n + length (g c n m).steps in
    let m' = m + length (g c n m).bodies in
    let own = h.0 c n m in
    rw (e, open_list) (greater-le (suc (o c n m)) (open_list gs os c n' m') (suc (d + kinds c)) (omega (arith, own)) (few-in-list d gs os h.1 c n' m')))

few-in-part : (d f k : ℕ) (gs : List Flattening) (os : List Opening) → AllFew d os → (c : FlattenCtx) (n m : ℕ) → open_part f k gs os c n m ≤ suc (d + kinds c)
few-in-part d f k gs os g = few-in-list d (take k (drop f gs)) (take k (drop f os)) (few-taken d k (drop f os) (few-dropped d f os g))

module _ (d : ℕ) (call : ℕ → Opening) (i : ℕ) (gs : List Flattening) (os : List Opening) (g : AllFew d os) where
  few-in-after : (t f k : ℕ) → Few d (open_action call i gs os (After t f k))
  few-in-after t f k c n m =
      by c.in_after
      (λ e. rw (e, open_action) (omega arith))
      (λ e. rw (e, open_action) (omega (arith, few-in-part d (f - suc i) k gs os g (within_after c) 0 m, kinds-after c e)))

  few-in-repeat : (t f k : ℕ) → Few d (open_action call i gs os (Repeat t f k))
  few-in-repeat t f k c n m =
      by (repeat_fails c t)
      (λ e. rw (e, open_action) (omega arith))
      (λ e. rw (e, open_action) (omega (arith, few-in-part d (f - suc i) k gs os g (within_repeat c) 0 m, kinds-repeat c t e)))

  branch-is : (q yf yk ef ek : ℕ) (c : FlattenCtx) (n m : ℕ) → c.in_conditional ≡ false
      → open_action call i gs os (Conditional q yf yk ef ek) c n m
      ≡ (let y = flatten_list (take yk (drop (yf - suc i) gs)) (within_conditional c) (suc n) m in
      greater (open_part (yf - suc i) yk gs os (within_conditional c) (suc n) m)
      (open_part (ef - suc i) ek gs os (within_conditional c) (suc n + length y.steps) (m + length y.bodies)))
  branch-is q yf yk ef ek c n m e = rw (e, open_action)

  few-in-conditional : (q yf yk ef ek : ℕ) → Few d (open_action call i gs os (Conditional q yf yk ef ek))
  few-in-conditional q yf yk ef ek c n m =
      let w = within_conditional c in
      let y = flatten_list (take yk (drop (yf - suc i) gs)) w (suc n) m in
      let n' = suc n + length y.steps in
      let m' = m + length y.bodies in
      by c.in_conditional
      (λ e. rw (e, open_action) (omega arith))
      (λ e.
      subst (λ (x : ℕ). x ≤ d + kinds c) (sym (branch-is q yf yk ef ek c n m e))
      (greater-le (open_part (yf - suc i) yk gs os w (suc n) m) (open_part (ef - suc i) ek gs os w n' m') (d + kinds c)
      (omega (arith, few-in-part d (yf - suc i) yk gs os g w (suc n) m, kinds-conditional c e))
      (omega (arith, few-in-part d (ef - suc i) ek gs os g w n' m', kinds-conditional c e))))

  few-in-action : ((b : ℕ) → Few d (call b)) → (a : FlowAction) → Few d (open_action call i gs os a)
  few-in-action k Plain c n m = omega arith
  few-in-action k (Wait t) c n m = omega arith
  few-in-action k (After t f l) c n m = few-in-after t f l c n m
  few-in-action k (Call b) c n m = k b c n m
  few-in-action k (Repeat t f l) c n m = few-in-repeat t f l c n m
  few-in-action k (Conditional q yf yk ef ek) c n m = few-in-conditional q yf yk ef ek c n m

module _ (acts blks : List ℕ) where
  few-in-records : (d : ℕ) (call : ℕ → Flattening) (opened : ℕ → Opening) → ((b : ℕ) → Few d (opened b)) → (k i : ℕ)
      → AllFew d (openings_from acts blks call opened k i)
  few-in-records d call opened g zero i = tt
  few-in-records d call opened g (suc k) i =
      let behind = few-in-records d call opened g k (suc i) in
      (few-in-action d opened i (flattenings_from acts blks call k (suc i)) (openings_from acts blks call opened k (suc i)) behind g (flow_of (record_in acts i)), behind)

  few-in-block : (d : ℕ) (r : Option Record) (gs : List Flattening) (os : List Opening) → AllFew d os → Few (suc d) (open_block acts blks r gs os)
  few-in-block d None gs os g c n m = omega arith
  few-in-block d (Some r) gs os g c n m = omega (arith, few-in-part d r.a r.b gs os g c n m)

  few-in-call : (d b : ℕ) → Few d (open_call acts blks d b)
  unfolding open_call
  few-in-call zero b c n m = omega arith
  few-in-call (suc d) b c n m =
      few-in-block d (block_named acts blks b) (flattenings acts blks d)
      (openings_from acts blks (flatten_call acts blks d) (open_call acts blks d) (length acts / 8) 0)
      (few-in-records d (flatten_call acts blks d) (open_call acts blks d) (few-in-call d) (length acts / 8) 0) c n m

  few-in-all : (d : ℕ) → AllFew d (openings acts blks d)
  unfolding openings
  few-in-all d = few-in-records d (flatten_call acts blks d) (open_call acts blks d) (few-in-call d) (length acts / 8) 0

module _ (img : List ℕ) where
  pub open-bound : (i : ℕ) → open_lists img i ≤ call_depth img + 4
  unfolding open_lists
  open-bound i =
      let acts = table_of img actions in
      let blks = table_of img blocks in
      omega (
        arith,
        few-in-part (call_depth img) (word_at img rules i 8) (word_at img rules i 9) (flattenings acts blks (call_depth img)) (openings acts blks (call_depth img))
            (few-in-all acts blks (call_depth img)) (rule_context (repeat_limit img)) 0 0,
      )

  -- an image whose limits pass 11 has a call depth of at most 8
  call-depth : limits_fit img ≡ true → call_depth img ≤ 8
  unfolding limits_fit
  call-depth h = leb-true (trailer img 1) 8 (and_parts (leb 0 (trailer img 1)) (leb (trailer img 1) 8) (every-at (limit_fits img) 5 1 h (omega arith))).1

  pub at-most-twelve : limits_fit img ≡ true → (i : ℕ) → open_lists img i ≤ 12
  at-most-twelve h i = omega (arith, open-bound i, call-depth h)

-- Twelve are reached: an After has a Repeat, which has a Conditional, which has a Call of a block that calls itself.
abbrev nested_actions : List ℕ
nested_actions =
    24 ∷ 1 ∷ 1 ∷ 1 ∷ 0 ∷ 0 ∷ 0 ∷ 0 ∷
    26 ∷ 1 ∷ 2 ∷ 1 ∷ 0 ∷ 0 ∷ 0 ∷ 0 ∷
    27 ∷ 0 ∷ 3 ∷ 1 ∷ 3 ∷ 0 ∷ 0 ∷ 0 ∷
    25 ∷ 1 ∷ 0 ∷ 0 ∷ 0 ∷ 0 ∷ 0 ∷ 0 ∷ []

abbrev self_calling : List ℕ
self_calling = 1 ∷ 3 ∷ 1 ∷ 0 ∷ 0 ∷ 0 ∷ 0 ∷ 0 ∷ []

pub twelve-reached : open_part 0 1 (flattenings nested_actions self_calling 8) (openings nested_actions self_calling 8) (rule_context 1) 0 0 ≡ 12
unfolding greater open_call openings flow_of block_named flatten_call flattenings
twelve-reached = refl
