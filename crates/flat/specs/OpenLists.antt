-- How many lists flattening has open at once, which is what its stack grows with: form by form along the definition of flattening
-- (crates/model/specs/Flat.antt), whose own numbers of steps decide how far a list is taken.
use Rattle.std.specs.Prelude.{true, false, cond, List, [], ◌∷◌, ℕ, zero, suc, ◌+◌, ◌-◌, ◌/◌, leb, length, take, drop}
use Rattle.std.specs.Prelude.{Option, None, Some}
use Rattle.model.specs.declared.Record.{Record}
use Rattle.model.specs.declared.FlowAction.{FlowAction}
use Rattle.model.specs.declared.FlowAction.TheVariants.{Wait, After, Call, Repeat, Conditional, Plain}
use Rattle.model.specs.declared.FlattenCtx.{FlattenCtx}
use Rattle.model.specs.Rows.{rules, blocks, actions}
use Rattle.model.specs.Rules.{record_in, flow_of}
use Rattle.model.specs.Image.{word_at, table_of, call_depth, repeat_limit}
use Rattle.model.specs.Flat.{Flattening, within_after, within_repeat, within_conditional, flatten_list, repeat_fails, flattenings_from, block_named, flatten_call, flattenings}
use Rattle.flat.specs.Load.{rule_context}

-- how many lists an action opens, one inside the other, given where it stands, how many steps the list around it has, and how many the
-- rule's bodies
abbrev pub Opening : Type 0
Opening = FlattenCtx → ℕ → ℕ → ℕ

unfoldable pub greater : ℕ → ℕ → ℕ
greater a b = cond (leb a b) b a

-- a list itself, and the most that one of its actions opens: "a list at 256 or more steps .. ends". What each action adds to the steps
-- stands in the first list, what it opens in the second
abbrev pub open_list : List Flattening → List Opening → Opening
open_list [] os c n m = 1
open_list (g ∷ gs) [] c n m = 1
open_list (g ∷ gs) (o ∷ os) c n m =
    elim (leb 256 n) [
      | true ↦ 1
      | false ↦
          let a = g c n m in
          greater (suc (o c n m)) (open_list gs os c (n + length a.steps) (m + length a.bodies))
    ]

-- k records, f records behind
abbrev pub open_part : ℕ → ℕ → List Flattening → List Opening → Opening
open_part f k gs os = open_list (take k (drop f gs)) (take k (drop f os))

-- an After's or a Repeat's body, the two regions of a Conditional one after the other, the list of a called block
abbrev pub open_action : (ℕ → Opening) → ℕ → List Flattening → List Opening → FlowAction → Opening
open_action call i gs os Plain c n m = 0
open_action call i gs os (Wait t) c n m = 0
open_action call i gs os (After t f k) c n m =
    elim c.in_after [
      | true ↦ 0
      | false ↦ open_part (f - suc i) k gs os (within_after c) 0 m
    ]
open_action call i gs os (Call b) c n m = call b c n m
open_action call i gs os (Repeat t f k) c n m =
    elim (repeat_fails c t) [
      | true ↦ 0
      | false ↦ open_part (f - suc i) k gs os (within_repeat c) 0 m
    ]
open_action call i gs os (Conditional q yf yk ef ek) c n m =
    elim c.in_conditional [
      | true ↦ 0
      | false ↦
          let y = flatten_list (take yk (drop (yf - suc i) gs)) (within_conditional c) (suc n) m in
          greater (open_part (yf - suc i) yk gs os (within_conditional c) (suc n) m)
          (open_part (ef - suc i) ek gs os (within_conditional c) (suc n + length y.steps) (m + length y.bodies))
    ]

-- over the words of the action table and of the block table
module _ (acts blks : List ℕ) where
  abbrev pub openings_from : (ℕ → Flattening) → (ℕ → Opening) → ℕ → ℕ → List Opening
  openings_from call opened zero i = []
  openings_from call opened (suc k) i =
      let behind = openings_from call opened k (suc i) in
      open_action opened i (flattenings_from acts blks call k (suc i)) behind (flow_of (record_in acts i)) ∷ behind

  abbrev pub open_block : Option Record → List Flattening → List Opening → Opening
  open_block None gs os c n m = 0
  open_block (Some r) gs os c n m = open_part r.a r.b gs os c n m

  unfoldable pub open_call : ℕ → ℕ → Opening
  open_call zero b c n m = 0
  open_call (suc d) b c n m =
      open_block (block_named acts blks b) (flattenings acts blks d) (openings_from (flatten_call acts blks d) (open_call d) (length acts / 8) 0) c n m

  unfoldable pub openings : ℕ → List Opening
  openings d = openings_from (flatten_call acts blks d) (open_call d) (length acts / 8) 0

-- while rule i's list is flattened
unfoldable pub open_lists : List ℕ → ℕ → ℕ
open_lists img i =
    let acts = table_of img actions in
    let blks = table_of img blocks in
    open_part (word_at img rules i 8) (word_at img rules i 9) (flattenings acts blks (call_depth img)) (openings acts blks (call_depth img))
    (rule_context (repeat_limit img)) 0 0
