-- Flattening without sharing: as `Flat`, but every copy that a Repeat makes is written out with bodies of its own, which its afters name. It is
-- the flattening of document 01, "bodies of afters counted in every copy": what it stores is what document 01 counts.
use Rattle.std.specs.Prelude.{true, false, List, [], ◌∷◌, map, ℕ, zero, suc, ◌+◌, ◌-◌, ◌/◌, leb, length, take, drop}
use Rattle.model.specs.Image.{word_at, table_of, call_depth, repeat_limit}
use Rattle.model.specs.Rows.{rules, blocks, actions}
use Rattle.model.specs.declared.FlowAction.{FlowAction}
use Rattle.model.specs.declared.FlowAction.TheVariants.{Wait, After, Call, Repeat, Conditional, Plain}
use Rattle.model.specs.Rules.{record_in, flow_of, rule_indices}
use Rattle.model.specs.declared.Step.TheVariants as step
use Rattle.model.specs.Flat.{Flattened, no_steps, one_step, append, within_after, within_repeat, within_conditional, Flattening, flatten_list, flatten_after, repeat_fails, flatten_branch, block_named, flatten_block}

-- a copy behind n steps and m steps of bodies is the body there, with its own bodies; where one does not fit there is a Fail, and no body
abbrev pub copies : ℕ → (ℕ → Flattened) → ℕ → ℕ → Flattened
copies zero body n m = no_steps
copies (suc t) body n m =
    elim (leb (n + length (body m).steps) 256) [
      | true ↦ append (body m) (copies t body (n + length (body m).steps) (m + length (body m).bodies))
      | false ↦ one_step step.Fail
    ]

-- the actions taken are those of one copy, as in `Flat`: the body is flattened once and then copied
abbrev pub flatten_repeat : ℕ → (ℕ → Flattened) → ℕ → ℕ → Flattened
flatten_repeat t body n m =
    let r = copies t body n m in
    record r { taken = (body m).taken }

abbrev pub flatten_action : (ℕ → Flattening) → ℕ → List Flattening → FlowAction → Flattening
flatten_action call i behind Plain c n m = one_step (step.Primitive i)
flatten_action call i behind (Wait ms) c n m = one_step (step.Wait ms)
flatten_action call i behind (After ms f k) c n m =
    elim c.in_after [
      | true ↦ one_step step.Fail
      | false ↦ flatten_after ms m (flatten_list (take k (drop (f - suc i) behind)) (within_after c) 0 m)
    ]
flatten_action call i behind (Call b) c n m = call b c n m
flatten_action call i behind (Repeat t f k) c n m =
    elim (repeat_fails c t) [
      | true ↦ one_step step.Fail
      | false ↦ flatten_repeat t (flatten_list (take k (drop (f - suc i) behind)) (within_repeat c) 0) n m
    ]
flatten_action call i behind (Conditional q yf yk ef ek) c n m =
    elim c.in_conditional [
      | true ↦ one_step step.Fail
      | false ↦
          let y = flatten_list (take yk (drop (yf - suc i) behind)) (within_conditional c) (suc n) m in
          flatten_branch q y
          (flatten_list (take ek (drop (ef - suc i) behind)) (within_conditional c) (suc n + length y.steps) (m + length y.bodies))
    ]

module _ (acts blks : List ℕ) where
  abbrev pub flattenings_from : (ℕ → Flattening) → ℕ → ℕ → List Flattening
  flattenings_from call zero i = []
  flattenings_from call (suc k) i =
      let behind = flattenings_from call k (suc i) in
      flatten_action call i behind (flow_of (record_in acts i)) ∷ behind

  unfoldable pub flatten_call : ℕ → ℕ → Flattening
  flatten_call zero b c n m = one_step step.Fail
  flatten_call (suc d) b c n m = flatten_block acts blks (block_named acts blks b) (flattenings_from (flatten_call d) (length acts / 8) 0) c n m

  unfoldable pub flattenings : ℕ → List Flattening
  flattenings d = flattenings_from (flatten_call d) (length acts / 8) 0

unfoldable pub flatten_rule : List ℕ → ℕ → Flattened
flatten_rule img i =
    let acts = table_of img actions in
    let blks = table_of img blocks in
    flatten_list (take (word_at img rules i 9) (drop (word_at img rules i 8) (flattenings acts blks (call_depth img))))
    (record { limit = repeat_limit img; in_repeat = false; in_conditional = false; in_after = false }) 0 0

unfoldable pub flatten_rules : List ℕ → List Flattened
flatten_rules img = map (flatten_rule img) (rule_indices img)
