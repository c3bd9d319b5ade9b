-- What a nested call requires, from what the call around it requires.
use mathlib.Core.Path.{◌≡◌, refl, sym, ap, ◌∙◌}
use mathlib.Core.Bool.{false, true≢false}
use mathlib.Core.List.{List, []}
use Prim.Native.Nat.{ℕ, ◌+◌, ◌*◌, ◌-◌, ◌/◌, ◌<◌, ◌≤◌}
use native.Mathlib.Omega.{arith}
use lib.ListN.{length, get_or}
use Rattle.model.specs.declared.FlattenCtx.{FlattenCtx}
use Rattle.model.specs.declared.FlowAction.TheVariants.{Call}
use Rattle.model.specs.Flat.{within_after, within_repeat, within_conditional, block_named}
use Rattle.flat.specs.declared.Source.{Source}
use Rattle.flat.specs.Outcome.{Tables, Start, Resolved, action_in, block_at, called_in}

-- what each function of the cycle goes by: what it requires, and what is known of the tables
pub record Begun (acts blocks calls : List ℕ) (scratch d : ℕ) (ctx : FlattenCtx) (n m allowed : ℕ) : Type 0 where
  pub tables : Tables acts blocks
  pub resolved : Resolved acts blocks calls (length acts / 8)
  pub calls-long : length acts / 8 ≤ length calls
  pub depth_le : d ≤ 8
  pub room : ctx.in_after ≡ false → 1072 ≤ scratch
  pub limit-lt : ctx.limit < 256
  pub allowed-le : allowed ≤ 65536
  pub listed_le : n ≤ 4294967295
  pub stored-le : m + 257 * allowed ≤ 4294967295

-- the tables are those of what is flattened
pub begun : (t : Source) {scratch d : ℕ} {c : FlattenCtx} {n m a : ℕ} → Start scratch d c n m a → Begun t.acts.now t.blocks.now t.calls.now scratch d c n m a
begun t s =
    record {
      tables = t.checked.tables;
      resolved = t.resolved;
      calls-long = t.calls_len;
      depth_le = s.depth_le;
      room = s.room;
      limit-lt = s.limit-lt;
      allowed-le = s.allowed-le;
      listed_le = s.listed_le;
      stored-le = s.stored-le;
    }

module _ {acts blocks calls : List ℕ} {scratch d : ℕ} {c : FlattenCtx} {n m a : ℕ} (s : Begun acts blocks calls scratch d c n m a) where
  start : {scratch' d' : ℕ} {c' : FlattenCtx} {n' m' a' : ℕ} → d' ≤ d → c'.limit ≡ c.limit → (c'.in_after ≡ false → 1072 ≤ scratch') → n' ≤ 4294967295
      → a' ≤ a → m' + 257 * a' ≤ m + 257 * a → Start scratch' d' c' n' m' a'
  start hd e room hn ha hm =
      record {
        depth_le = omega (arith, s.depth_le);
        room = room;
        limit-lt = omega (arith, s.limit-lt);
        allowed-le = omega (arith, s.allowed-le);
        listed_le = hn;
        stored-le = omega (arith, s.stored-le);
      }

  -- an after's body: in an after no scratch is used
  pub start-after : {scratch' : ℕ} {c' : FlattenCtx} → c' ≡ within_after c → Start scratch' d c' 0 m a
  start-after e =
      start (omega arith) (ap (λ (x : FlattenCtx). x.limit) e) (λ f. absurd (true≢false (sym (ap (λ (x : FlattenCtx). x.in_after) e) ∙ f))) (omega arith) (omega arith)
      (omega arith)

  pub start-repeat : {c' : FlattenCtx} → c' ≡ within_repeat c → Start scratch d c' 0 m a
  start-repeat e =
      start (omega arith) (ap (λ (x : FlattenCtx). x.limit) e) (λ f. s.room (sym (ap (λ (x : FlattenCtx). x.in_after) e) ∙ f)) (omega arith) (omega arith)
      (omega arith)

  -- an action of a list, and a region of a conditional, behind what was written before
  module _ {scratch' n' m' a' : ℕ} (es : scratch' ≡ scratch) (hn : n' ≤ 4294967295) (ha : a' ≤ a) (hm : m' + 257 * a' ≤ m + 257 * a) where
    pub start-next : Start scratch' d c n' m' a'
    start-next = start (omega arith) refl (λ f. omega (arith, s.room f)) hn ha hm

    pub start-region : {c' : FlattenCtx} → c' ≡ within_conditional c → Start scratch' d c' n' m' a'
    start-region e =
        start (omega arith) (ap (λ (x : FlattenCtx). x.limit) e) (λ f. omega (arith, s.room (sym (ap (λ (x : FlattenCtx). x.in_after) e) ∙ f))) hn ha hm

  -- a block, with one call less left
  pub start-call : Start scratch (d - 1) c n m a
  start-call = start (omega arith) refl s.room s.listed_le (omega arith) (omega arith)

  -- what was looked up
  module _ {i : ℕ} (h : i < length acts / 8) where
    pub call-number : (i < length calls) × (get_or calls i 0 ≤ length blocks / 8)
    unfolding Resolved
    call-number = (omega (arith, s.calls-long), (s.resolved i h).0)

    pub call-found : (b : ℕ) → action_in acts i ≡ Call b → block_at blocks (get_or calls i 0) ≡ block_named [] blocks b
    unfolding Resolved
    call-found b e = (s.resolved i h).1 ∙ ap (called_in blocks) e
