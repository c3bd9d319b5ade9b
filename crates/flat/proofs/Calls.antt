-- Calls, and actions as their records say them.
use mathlib.Core.Path.{◌≡◌, refl}
use mathlib.Core.Bool.{Bool}
use mathlib.Core.List.{List, [], ◌∷◌}
use Rattle.std.specs.Prelude.{None, Some}
use Prim.Native.Nat.{ℕ, ◌+◌, ◌-◌, ◌/◌, ◌≤◌}
use native.Mathlib.Omega.{arith}
use lib.ListN.{length}
use Rattle.model.specs.declared.Record.{Record}
use Rattle.model.specs.declared.FlattenCtx.{FlattenCtx}
use Rattle.model.specs.declared.FlowAction.{FlowAction}
use Rattle.model.specs.declared.Step.{Step}
use Rattle.model.specs.declared.Step.TheVariants as step
use Rattle.model.specs.Flat.{row_of, Flattened, one_step, flatten_call, block_named}
use Rattle.std.specs.Prelude.{Result, Ok}
use Rattle.model.specs.declared.Refusal.{Refusal}
use Rattle.flat.specs.Words.{row_words}
use Rattle.flat.specs.declared.Done.{Done}
use Rattle.flat.specs.Outcome.{so_far, Put, Wrote, ListOut, ActOut, list_at, form_at, action_at, action_in}
use Rattle.flat.proofs.Starts.{Begun}
use Rattle.flat.proofs.Definition.{call_none, call-more}
use Rattle.flat.proofs.Outcomes.{wrote_one}

-- an action is what its record says
module _ {acts blocks calls : List ℕ} {scratch d : ℕ} {c : FlattenCtx} {n m a : ℕ} (start : Begun acts blocks calls scratch d c n m a) (i : ℕ) (same : Bool) (seen list bodies : List ℕ) where
  abbrev Acts : Flattened → List ℕ → List ℕ → Result Done Refusal → Type 0
  Acts f l b r = ActOut f (so_far n m a same) seen list bodies l b r

  pub one-act : (x : FlowAction) (s : Step) {l : List ℕ} → action_in acts i ≡ x → form_at acts blocks d i x c n m ≡ one_step s → Put list n (row_words (row_of s 0 0)) l
      → Acts (action_at acts blocks d i c n m) l bodies (Ok (record { n = n + 1; m = m; left = a; same = same }))
  one-act x s e f p = rw (e, f) (wrote_one s (omega arith) p)

-- blocks are looked up in their table alone
same_block : (acts blocks : List ℕ) (b : ℕ) → block_named acts blocks b ≡ block_named [] blocks b
unfolding block_named
same_block acts blocks b = refl

module _ {acts blocks calls : List ℕ} {scratch d : ℕ} {c : FlattenCtx} {n m a : ℕ} (start : Begun acts blocks calls scratch d c n m a) (b : ℕ) where
  abbrev called : Flattened
  called = flatten_call acts blocks d b c n m

  pub call-zero : {same : Bool} {seen list bodies l : List ℕ} → d ≡ 0 → Put list n (4 ∷ 0 ∷ 0 ∷ 0 ∷ []) l → Wrote 1 0 called (so_far n m a same) seen list bodies l bodies (so_far (n + 1) m a same)
  call-zero h p = rw (call_none acts blocks d b c n m h) (wrote_one step.Fail (omega arith) p)

  module _ (h : d ≡ 0 → ⊥) where
    pub call-unknown : {same : Bool} {seen list bodies l : List ℕ} → block_named [] blocks b ≡ None → Put list n (4 ∷ 0 ∷ 0 ∷ 0 ∷ []) l
        → Wrote 1 0 called (so_far n m a same) seen list bodies l bodies (so_far (n + 1) m a same)
    call-unknown e p = rw (call-more acts blocks d b c n m h, same_block acts blocks b, e) (wrote_one step.Fail (omega arith) p)

    pub call_known : (same : Bool) (seen list bodies l b' : List ℕ) (x : Result Done Refusal) (r : Record) → block_named [] blocks b ≡ Some r
        → ListOut (list_at acts blocks (d - 1) r.a r.b c n m) (so_far n m a same) seen list bodies l b' x → ListOut called (so_far n m a same) seen list bodies l b' x
    call_known same seen list bodies l b' x r e z = rw (call-more acts blocks d b c n m h, same_block acts blocks b, e) z

  pub call-inside : {r : Record} → block_named [] blocks b ≡ Some r → r.a + r.b ≤ length acts / 8
  call-inside e = rw (same_block acts blocks b, e) at (start.tables.found b)
