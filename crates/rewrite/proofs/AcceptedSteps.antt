-- (a), sixth part: 16 follows from the tree. Flattening over the tree adds as many steps, rows and bodies as flattening the image, and takes as
-- many actions: the numbers of the records that differ are in the steps alone.
-- More than 400 lines, as one file: its lemmas serve the laws `few-actions` and `steps-follow`, and nothing else.
use mathlib.Core.Path.{◌≡◌, refl, sym, ap, ap₂, ◌∙◌, subst}
use mathlib.Core.Logic.{◌⊎◌, inl, inr}
use mathlib.Core.Bool.{Bool, true, false, cond, ◌||◌}
use mathlib.Core.List.{List, [], ◌∷◌, map}
use Rattle.std.specs.Prelude.{Option, Some}
use Prim.Native.Nat.{ℕ, zero, suc, ◌+◌, ◌-◌, ◌*◌, ◌/◌, ◌<◌, ◌≤◌}
use native.Mathlib.Nat.{add-zero, zero-add, sub-zero, sub_self, eq-or-lt_of_le}
use native.Mathlib.Omega.{arith}
use lib.Dec.{eqb, leb, ltb}
use lib.ListN.{length, get_or, take, drop, length-append}
use borrow.Author.Tests.{ltb-false}
use Rattle.model.specs.declared.Record.{Record}
use Rattle.model.specs.declared.FlowAction.{FlowAction}
use Rattle.model.specs.declared.FlowAction.TheVariants.{Wait, After, Call, Repeat, Conditional, Plain}
use Rattle.model.specs.declared.Step.{Step}
use Rattle.model.specs.declared.Step.TheVariants as step
use Rattle.model.specs.declared.FlattenCtx.{FlattenCtx}
use Rattle.model.specs.Lists.{find, up_from}
use Rattle.model.specs.Rows.{rules, blocks, conditions, actions, field_of}
use Rattle.model.specs.Image.{width_of, first_of, size_of, word_at, table_of, call_depth, repeat_limit}
use Rattle.model.specs.Rules as model-rules
use Rattle.model.specs.Rules.{record_in, flow_of}
use Rattle.model.specs.Flat.{Flattened, Flattening, one_step, append, again, copies, within_after, within_repeat, within_conditional, flatten_list, flatten_after, flatten_repeat, repeat_fails, flatten_branch, flatten_action, flattenings_from, block_named, flatten_block, flatten_call, flattenings, flatten_rule, flatten_rules, part_of, steps_in, taken_in, too_many_steps}
use Rattle.flat.specs.Outcome.{Behind, NestedIn}
use Rattle.flat.specs.Load.{Checked, rule_context}
use Rattle.model.proofs.TestLaws.{by}
use Rattle.flat.proofs.Checked as checked
use Rattle.model.specs.Tree.{Records, record-of, Cells, end, word, mention, Tree, cells_of, fields_of, record_at, list_of, records_of, lists_of, tree_of}
use Rattle.model.specs.Tree as tree
use Rattle.rewrite.proofs.Fields.{first-cell}
use Rattle.rewrite.proofs.AcceptedRange.{Fits, need, Within, within-next, all-within}
use Rattle.rewrite.proofs.AcceptedFields.{fields-well}

-- EQUALLY MUCH ----------------------------------------------------------------------------------------------------------------------------
pub record Equal (x y : Flattened) : Type 0 where
  pub steps : length x.steps ≡ length y.steps
  pub rows : length x.rows ≡ length y.rows
  pub bodies : length x.bodies ≡ length y.bodies
  pub taken : x.taken ≡ y.taken

equal-one : (s r : Step) → Equal (one_step s) (one_step r)
equal-one s r = record { steps = refl; rows = refl; bodies = refl; taken = refl }

abbrev one_taken : Flattened → Flattened
one_taken x = record { steps = x.steps; rows = x.rows; bodies = x.bodies; taken = suc x.taken }

equal-append : (x y z w : Flattened) → Equal x y → Equal z w → Equal (append x z) (append y w)
equal-append x y z w h g =
    record {
      steps = length-append x.steps z.steps ∙ ap₂ ◌+◌ h.steps g.steps ∙ sym (length-append y.steps w.steps);
      rows = length-append x.rows z.rows ∙ ap₂ ◌+◌ h.rows g.rows ∙ sym (length-append y.rows w.rows);
      bodies = length-append x.bodies z.bodies ∙ ap₂ ◌+◌ h.bodies g.bodies ∙ sym (length-append y.bodies w.bodies);
      taken = ap₂ ◌+◌ h.taken g.taken;
    }

equal-taken : (x y : Flattened) → Equal x y → Equal (one_taken x) (one_taken y)
equal-taken x y h = record { steps = h.steps; rows = h.rows; bodies = h.bodies; taken = ap suc h.taken }

equal-after : (a b m : ℕ) (x y : Flattened) → Equal x y → Equal (flatten_after a m x) (flatten_after b m y)
equal-after a b m x y h = record { steps = refl; rows = refl; bodies = h.rows; taken = h.taken }

equal-again : (x y : Flattened) → Equal x y → Equal (again x) (again y)
equal-again x y h = record { steps = h.steps; rows = h.rows; bodies = refl; taken = h.taken }

equal-copies : (t n : ℕ) (x y : Flattened) → Equal x y → Equal (copies t x n) (copies t y n)
equal-copies zero n x y h = record { steps = refl; rows = refl; bodies = refl; taken = refl }
equal-copies (suc t) n x y h =
    let e : length y.steps ≡ length x.steps = sym h.steps in
    by (leb (n + length x.steps) 256)
    (λ fits.
    rw (e, fits, copies)
    (equal-append x y (copies t (again x) (n + length x.steps)) (copies t (again y) (n + length y.steps)) h
    (rw e (equal-copies t (n + length x.steps) (again x) (again y) (equal-again x y h)))))
    (λ over. rw (e, over, copies) (equal-one step.Fail step.Fail))

equal-repeat : (t n : ℕ) (x y : Flattened) → Equal x y → Equal (flatten_repeat t x n) (flatten_repeat t y n)
equal-repeat t n x y h =
    let s = equal-copies t n x y h in record { steps = s.steps; rows = s.rows; bodies = s.bodies; taken = h.taken }

equal-branch : (a b : ℕ) (x y z w : Flattened) → Equal x y → Equal z w → Equal (flatten_branch a x z) (flatten_branch b y w)
equal-branch a b x y z w h g =
    let s = equal-append x y z w h g in record { steps = ap suc s.steps; rows = ap suc s.rows; bodies = s.bodies; taken = s.taken }

-- LISTS -----------------------------------------------------------------------------------------------------------------------------------
abbrev pub Alike : Flattening → Flattening → Type 0
Alike f g = (c : FlattenCtx) (n m : ℕ) → Equal (f c n m) (g c n m)

abbrev AllAlike : List Flattening → List Flattening → Type 0
AllAlike [] [] = Unit {0}
AllAlike [] (g ∷ gs) = ⊥
AllAlike (f ∷ fs) [] = ⊥
AllAlike (f ∷ fs) (g ∷ gs) = Alike f g × AllAlike fs gs

alike-list : (fs gs : List Flattening) → AllAlike fs gs → Alike (flatten_list fs) (flatten_list gs)
alike-list [] [] h c n m = record { steps = refl; rows = refl; bodies = refl; taken = refl }
alike-list [] (g ∷ gs) h c n m = absurd h
alike-list (f ∷ fs) [] h c n m = absurd h
alike-list (f ∷ fs) (g ∷ gs) h c n m =
    let x = f c n m in
    let y = g c n m in
    let one = h.0 c n m in
    let e : length y.steps ≡ length x.steps = sym one.steps in
    let b : length y.bodies ≡ length x.bodies = sym one.bodies in
    by (leb 256 n)
    (λ cut. rw (cut, flatten_list) (equal-one step.Fail step.Fail))
    (λ room.
    rw (room, e, b, flatten_list)
    (equal-append (one_taken x) (one_taken y) (flatten_list fs c (n + length x.steps) (m + length x.bodies)) (flatten_list gs c (n + length x.steps) (m + length x.bodies))
    (equal-taken x y one) (alike-list fs gs h.1 c (n + length x.steps) (m + length x.bodies))))

-- FLATTENING A TREE -----------------------------------------------------------------------------------------------------------------------
abbrev fail : Flattening
fail c n m = one_step step.Fail

abbrev plainly : Flattening
plainly c n m = one_step (step.Primitive 0)

abbrev waiting : Flattening
waiting c n m = one_step (step.Wait 0)

abbrev afterwards : List Flattening → Flattening
afterwards xs c n m =
    elim c.in_after [
      | true ↦ one_step step.Fail
      | false ↦ flatten_after 0 m (flatten_list xs (within_after c) 0 m)
    ]

abbrev repeated : ℕ → List Flattening → Flattening
repeated t xs c n m =
    elim (repeat_fails c t) [
      | true ↦ one_step step.Fail
      | false ↦ flatten_repeat t (flatten_list xs (within_repeat c) 0 m) n
    ]

abbrev branching : List Flattening → List Flattening → Flattening
branching ys es c n m =
    elim c.in_conditional [
      | true ↦ one_step step.Fail
      | false ↦
          let y = flatten_list ys (within_conditional c) (suc n) m in
          flatten_branch 0 y (flatten_list es (within_conditional c) (suc n + length y.steps) (m + length y.bodies))
    ]

-- the words of a row, without its mentions
abbrev words_in : Cells → List ℕ
words_in end = []
words_in (word w cs) = w ∷ words_in cs
words_in (mention t rs cs) = words_in cs

module _ (call : ℕ → Flattening) where
  -- from the kind of an action, the word behind it, and the lists that it mentions
  abbrev form_of : ℕ → ℕ → List (List Flattening) → Flattening
  form_of kind a ls =
      cond (ltb kind 23) plainly
      (get_or (waiting ∷ afterwards (get_or ls 0 []) ∷ call a ∷ repeated a (get_or ls 0 []) ∷ branching (get_or ls 1 []) (get_or ls 2 []) ∷ []) (kind - 23) plainly)

  unfoldable mutual
    actions_in : Records → List Flattening
    actions_in tree.none = []
    actions_in (record-of cs rs) = form_of (get_or (words_in cs) 0 0) (get_or (words_in cs) 1 0) (lists_in cs) ∷ actions_in rs

    lists_in : Cells → List (List Flattening)
    lists_in end = []
    lists_in (word w cs) = lists_in cs
    lists_in (mention t rs cs) = actions_in rs ∷ lists_in cs

  -- the first block of a name
  unfoldable block_in : ℕ → Records → Flattening
  block_in name tree.none = fail
  block_in name (record-of cs rs) = cond (eqb (get_or (words_in cs) 0 0) name) (flatten_list (get_or (lists_in cs) 0 [])) (block_in name rs)

  unfoldable rules_in : FlattenCtx → Records → List Flattened
  rules_in c tree.none = []
  rules_in c (record-of cs rs) = flatten_list (get_or (lists_in cs) 2 []) c 0 0 ∷ rules_in c rs

-- with so many calls left
unfoldable call_in : Records → ℕ → ℕ → Flattening
call_in bs zero name = fail
call_in bs (suc d) name = block_in (call_in bs d) name bs

-- the list that a row mentions as number k
abbrev mention_in : Cells → ℕ → Records
mention_in end k = tree.none
mention_in (word w cs) k = mention_in cs k
mention_in (mention t rs cs) zero = rs
mention_in (mention t rs cs) (suc k) = mention_in cs k

-- 16 of a tree
pub too_many_in : Tree → Bool
too_many_in x =
    too_many_steps (rules_in (call_in (mention_in x.lists 1) (get_or x.limits 1 0)) (rule_context (get_or x.limits 2 0)) (mention_in x.lists 0))

-- AN IMAGE THAT PASSED --------------------------------------------------------------------------------------------------------------------
module _ (img : List ℕ) (passed : Checked img) (good : (t i : ℕ) → t < 8 → i < size_of img t → Fits img t i) where
  abbrev at : ℕ → ℕ → ℕ → ℕ
  at = word_at img

  abbrev acts : List ℕ
  acts = table_of img actions

  abbrev blks : List ℕ
  blks = table_of img blocks

  abbrev size : ℕ
  size = size_of img actions

  acts-length : length acts ≡ first_of img 5 - first_of img 4
  unfolding width_of
  acts-length = checked.table-length img actions 8 refl (checked.table-end img passed 4 (omega arith)) (checked.table-order img passed 4 (omega arith))

  blks-length : length blks ≡ first_of img 2 - first_of img 1
  unfolding width_of
  blks-length = checked.table-length img blocks 8 refl (checked.table-end img passed 1 (omega arith)) (checked.table-order img passed 1 (omega arith))

  acts-size : length acts / 8 ≡ size
  unfolding size_of width_of
  acts-size = ap (λ n. n / 8) acts-length

  blks-size : length blks / 8 ≡ size_of img blocks
  unfolding size_of width_of
  blks-size = ap (λ n. n / 8) blks-length

  pub few-actions : size ≤ 512
  few-actions = omega (arith, acts-size, acts-length, checked.table-end img passed 4 (omega arith), checked.short img passed)

  action-word : (i j : ℕ) → i < size → j < 8 → get_or acts (i * 8 + j) 0 ≡ at actions i j
  unfolding width_of
  action-word i j h l =
      checked.table-word img actions 8 refl (checked.table-end img passed 4 (omega arith)) (checked.table-order img passed 4 (omega arith)) i j (omega (arith, acts-size, acts-length))

  block-word : (i j : ℕ) → i < size_of img blocks → j < 8 → get_or blks (i * 8 + j) 0 ≡ at blocks i j
  unfolding width_of
  block-word i j h l =
      checked.table-word img blocks 8 refl (checked.table-end img passed 1 (omega arith)) (checked.table-order img passed 1 (omega arith)) i j (omega (arith, blks-size, blks-length))

  record-is : (table : List ℕ) (t i : ℕ) → ((j : ℕ) → j < 8 → get_or table (i * 8 + j) 0 ≡ at t i j) → record_in table i ≡ model-rules.record_of img t i
  record-is table t i word-is =
      let kind : get_or table (i * 8) 0 ≡ at t i 0 = ap (λ n. get_or table n 0) (sym (add-zero (i * 8))) ∙ word-is 0 (omega arith) in
      rw (kind, word-is 1 (omega arith), word-is 2 (omega arith), word-is 3 (omega arith), word-is 4 (omega arith), word-is 5 (omega arith)) refl

  -- THE ACTION TABLE ------------------------------------------------------------------------------------------------------------------------
  module _ (call call' : ℕ → Flattening) (same : (b : ℕ) → Alike (call b) (call' b)) where
    none-alike : (depth j : ℕ) → AllAlike [] (actions_in call' (records_of at depth actions j 0))
    unfolding records_of list_of actions_in
    none-alike zero j = tt
    none-alike (suc depth) j = tt

    -- record i, where `fs` is what the records behind it give
    module _ (i depth : ℕ) (here : i < size) (deep : need size actions i ≤ suc depth) (fs : List Flattening)
        (rest : (j k : ℕ) → suc i ≤ j → Within img depth actions j k → AllAlike (take k (drop (j - suc i) fs)) (actions_in call' (records_of at depth actions j k))) where
      abbrev w : ℕ → ℕ
      w = at actions i

      abbrev cells : Cells
      cells = record_at at (records_of at depth) actions i

      abbrev below : ℕ → ℕ → List Flattening
      below j k = actions_in call' (records_of at depth actions j k)

      nested-alike : (j k : ℕ) → Behind size i j k → AllAlike (take k (drop (j - suc i) fs)) (below j k)
      nested-alike j zero b = none-alike depth j
      nested-alike j (suc k) b =
          rest j (suc k) (b.behind (omega arith))
          (record { table = omega arith; inside = b.inside; deep = λ l. omega (arith, b.behind (omega arith)) })

      after-alike : (ms j k : ℕ) → Behind size i j k → Alike (flatten_action call i fs (After ms j k)) (afterwards (below j k))
      after-alike ms j k b c n m =
          by c.in_after
          (λ e. rw (e, flatten_action, afterwards) (equal-one step.Fail step.Fail))
          (λ e.
          rw (e, flatten_action, afterwards)
          (equal-after ms 0 m (flatten_list (take k (drop (j - suc i) fs)) (within_after c) 0 m) (flatten_list (below j k) (within_after c) 0 m)
          (alike-list (take k (drop (j - suc i) fs)) (below j k) (nested-alike j k b) (within_after c) 0 m)))

      repeat-alike : (t j k : ℕ) → Behind size i j k → Alike (flatten_action call i fs (Repeat t j k)) (repeated t (below j k))
      repeat-alike t j k b c n m =
          by (repeat_fails c t)
          (λ e. rw (e, flatten_action, repeated) (equal-one step.Fail step.Fail))
          (λ e.
          rw (e, flatten_action, repeated)
          (equal-repeat t n (flatten_list (take k (drop (j - suc i) fs)) (within_repeat c) 0 m) (flatten_list (below j k) (within_repeat c) 0 m)
          (alike-list (take k (drop (j - suc i) fs)) (below j k) (nested-alike j k b) (within_repeat c) 0 m)))

      branch-alike : (q yf yk ef ek : ℕ) → Behind size i yf yk × Behind size i ef ek
          → Alike (flatten_action call i fs (Conditional q yf yk ef ek)) (branching (below yf yk) (below ef ek))
      branch-alike q yf yk ef ek b c n m =
          let x = flatten_list (take yk (drop (yf - suc i) fs)) (within_conditional c) (suc n) m in
          let y = flatten_list (below yf yk) (within_conditional c) (suc n) m in
          let s = alike-list (take yk (drop (yf - suc i) fs)) (below yf yk) (nested-alike yf yk b.0) (within_conditional c) (suc n) m in
          let e : length y.steps ≡ length x.steps = sym s.steps in
          let g : length y.bodies ≡ length x.bodies = sym s.bodies in
          by c.in_conditional
          (λ no. rw (no, flatten_action, branching) (equal-one step.Fail step.Fail))
          (λ ok.
          rw (ok, flatten_action, branching)
          (equal-branch q 0 x y
          (flatten_list (take ek (drop (ef - suc i) fs)) (within_conditional c) (suc n + length x.steps) (m + length x.bodies))
          (flatten_list (below ef ek) (within_conditional c) (suc n + length y.steps) (m + length y.bodies))
          s
          (rw (e, g)
          (alike-list (take ek (drop (ef - suc i) fs)) (below ef ek) (nested-alike ef ek b.1) (within_conditional c) (suc n + length x.steps) (m + length x.bodies)))))

      -- what the cells of the record say
      kind-word : get_or (words_in cells) 0 0 ≡ w 0
      unfolding record_at
      kind-word = ap (λ cs. get_or (words_in cs) 0 0) (first-cell (records_of at depth) actions w)

      abbrev cells_as : ℕ → Cells
      cells_as kind = cells_of (records_of at depth) (fields_of actions kind (w 1)) w

      after-lists : w 0 ≡ 24 → lists_in call' cells ≡ below (w 2) (w 3) ∷ []
      unfolding record_at fields_of field_of width_of cells_of actions_in
      after-lists e = ap (λ kind. lists_in call' (cells_as kind)) e

      call-word : w 0 ≡ 25 → get_or (words_in cells) 1 0 ≡ w 1
      unfolding record_at fields_of field_of width_of cells_of
      call-word e = ap (λ kind. get_or (words_in (cells_as kind)) 1 0) e

      repeat-word : w 0 ≡ 26 → get_or (words_in cells) 1 0 ≡ w 1
      unfolding record_at fields_of field_of width_of cells_of
      repeat-word e = ap (λ kind. get_or (words_in (cells_as kind)) 1 0) e

      repeat-lists : w 0 ≡ 26 → lists_in call' cells ≡ below (w 2) (w 3) ∷ []
      unfolding record_at fields_of field_of width_of cells_of actions_in
      repeat-lists e = ap (λ kind. lists_in call' (cells_as kind)) e

      branch-lists : w 0 ≡ 27 → lists_in call' cells ≡ actions_in call' (records_of at depth conditions (w 1) 1) ∷ (below (w 2) (w 3) ∷ (below (w 4) (w 5) ∷ []))
      unfolding record_at fields_of field_of width_of cells_of actions_in
      branch-lists e = ap (λ kind. lists_in call' (cells_as kind)) e

      abbrev flow : Bool → ℕ → FlowAction
      flow b k =
          cond b Plain
          (get_or (Wait (w 1) ∷ After (w 1) (w 2) (w 3) ∷ Call (w 1) ∷ Repeat (w 1) (w 2) (w 3) ∷ Conditional (w 1) (w 2) (w 3) (w 4) (w 5) ∷ []) k Plain)

      abbrev form : ℕ → List (List Flattening) → Bool → ℕ → Flattening
      form a ls b k =
          cond b plainly (get_or (waiting ∷ afterwards (get_or ls 0 []) ∷ call' a ∷ repeated a (get_or ls 0 []) ∷ branching (get_or ls 1 []) (get_or ls 2 []) ∷ []) k plainly)

      kind-alike : (b : Bool) (k : ℕ) → ltb (w 0) 23 ≡ b → w 0 - 23 ≡ k → NestedIn size i (flow b k)
          → Alike (flatten_action call i fs (flow b k)) (form (get_or (words_in cells) 1 0) (lists_in call' cells) b k)
      kind-alike true k e f h = λ c n m. equal-one (step.Primitive i) (step.Primitive 0)
      kind-alike false zero e f h = λ c n m. equal-one (step.Wait (w 1)) (step.Wait 0)
      kind-alike false (suc zero) e f h =
          let kind : w 0 ≡ 24 = omega (arith, ltb-false (w 0) 23 e) in
          subst (λ (ls : List (List Flattening)). Alike (flatten_action call i fs (flow false 1)) (afterwards (get_or ls 0 []))) (sym (after-lists kind)) (after-alike (w 1) (w 2) (w 3) h)
      kind-alike false (suc (suc zero)) e f h =
          let kind : w 0 ≡ 25 = omega (arith, ltb-false (w 0) 23 e) in
          subst (λ a. Alike (call (w 1)) (call' a)) (sym (call-word kind)) (same (w 1))
      kind-alike false (suc (suc (suc zero))) e f h =
          let kind : w 0 ≡ 26 = omega (arith, ltb-false (w 0) 23 e) in
          subst (λ a. Alike (flatten_action call i fs (flow false 3)) (repeated a (get_or (lists_in call' cells) 0 []))) (sym (repeat-word kind))
          (subst (λ (ls : List (List Flattening)). Alike (flatten_action call i fs (flow false 3)) (repeated (w 1) (get_or ls 0 []))) (sym (repeat-lists kind)) (repeat-alike (w 1) (w 2) (w 3) h))
      kind-alike false (suc (suc (suc (suc zero)))) e f h =
          let kind : w 0 ≡ 27 = omega (arith, ltb-false (w 0) 23 e) in
          subst (λ (ls : List (List Flattening)). Alike (flatten_action call i fs (flow false 4)) (branching (get_or ls 1 []) (get_or ls 2 []))) (sym (branch-lists kind))
          (branch-alike (w 1) (w 2) (w 3) (w 4) (w 5) h)
      kind-alike false (suc (suc (suc (suc (suc k))))) e f h = λ c n m. equal-one (step.Primitive i) (step.Primitive 0)

      record-alike : Alike (flatten_action call i fs (flow_of (record_in acts i))) (form_of call' (get_or (words_in cells) 0 0) (get_or (words_in cells) 1 0) (lists_in call' cells))
      unfolding flow_of
      record-alike =
          let is : record_in acts i ≡ model-rules.record_of img actions i = record-is acts actions i (λ j l. action-word i j here l) in
          let l : i < length acts / 8 = omega (arith, acts-size) in
          let nested : NestedIn size i (flow_of (model-rules.record_of img actions i)) =
          subst (λ (r : Record). NestedIn size i (flow_of r)) is (subst (λ n. NestedIn n i (flow_of (record_in acts i))) acts-size ((checked.checked-tables img passed).tables.nested i l)) in
          subst (λ (r : Record). Alike (flatten_action call i fs (flow_of r)) (form_of call' (get_or (words_in cells) 0 0) (get_or (words_in cells) 1 0) (lists_in call' cells))) (sym is)
          (subst (λ kind. Alike (flatten_action call i fs (flow_of (model-rules.record_of img actions i))) (form_of call' kind (get_or (words_in cells) 1 0) (lists_in call' cells))) (sym kind-word)
          (kind-alike (ltb (w 0) 23) (w 0 - 23) refl refl nested))

    -- the records from i on
    abbrev Behinds : ℕ → List Flattening → Type 0
    Behinds i fs =
        (depth j k : ℕ) → i ≤ j → Within img depth actions j k → AllAlike (take k (drop (j - i) fs)) (actions_in call' (records_of at depth actions j k))

    one-more : (i depth j k : ℕ) (fs : List Flattening) → Behinds (suc i) fs → Within img (suc depth) actions j (suc k) → (i ≡ j) ⊎ (i < j)
        → AllAlike (take (suc k) (drop (j - i) (flatten_action call i fs (flow_of (record_in acts i)) ∷ fs))) (actions_in call' (records_of at (suc depth) actions j (suc k)))
    unfolding records_of list_of actions_in
    one-more i depth j k fs rest h (inl e) =
        let xs = flatten_action call i fs (flow_of (record_in acts i)) ∷ fs in
        let g : Within img (suc depth) actions i (suc k) = subst (λ x. Within img (suc depth) actions x (suc k)) (sym e) h in
        let here : i < size = omega (arith, g.inside) in
        let tail : AllAlike (take k fs) (actions_in call' (records_of at (suc depth) actions (suc i) k)) =
        subst (λ z. AllAlike (take k (drop z fs)) (actions_in call' (records_of at (suc depth) actions (suc i) k))) (sub_self (suc i))
        (rest (suc depth) (suc i) k (omega arith) (within-next img (suc depth) actions i k g)) in
        subst (λ x. AllAlike (take (suc k) (drop (x - i) xs)) (actions_in call' (records_of at (suc depth) actions x (suc k)))) e
        (subst (λ z. AllAlike (take (suc k) (drop z xs)) (actions_in call' (records_of at (suc depth) actions i (suc k)))) (sym (sub_self i))
        (record-alike i depth here (g.deep (omega arith)) fs (rest depth), tail))
    one-more i depth j k fs rest h (inr l) =
        let xs = flatten_action call i fs (flow_of (record_in acts i)) ∷ fs in
        let e : suc (j - suc i) ≡ j - i = omega arith in
        subst (λ z. AllAlike (take (suc k) (drop z xs)) (actions_in call' (records_of at (suc depth) actions j (suc k)))) e (rest (suc depth) j (suc k) l h)

    none-more : (i : ℕ) → i + 0 ≡ size → Behinds i []
    none-more i e depth j zero g h = none-alike depth j
    none-more i e depth j (suc k) g h = absurd (omega (arith, h.inside))

    some-more : (i : ℕ) (fs : List Flattening) → Behinds (suc i) fs → Behinds i (flatten_action call i fs (flow_of (record_in acts i)) ∷ fs)
    some-more i fs rest depth j zero g h = none-alike depth j
    some-more i fs rest zero j (suc k) g h = absurd (omega (arith, h.deep (omega arith)))
    some-more i fs rest (suc depth) j (suc k) g h = one-more i depth j k fs rest h (eq-or-lt_of_le g)

    from-alike : (r i : ℕ) → i + r ≡ size → Behinds i (flattenings_from acts blks call r i)
    from-alike zero i e = none-more i e
    from-alike (suc r) i e = some-more i (flattenings_from acts blks call r (suc i)) (from-alike r (suc i) (omega (arith, e)))

    -- a list of a rule or a block
    table-alike : (depth j k : ℕ) → Within img depth actions j k
        → Alike (flatten_list (take k (drop j (flattenings_from acts blks call (length acts / 8) 0)))) (flatten_list (actions_in call' (records_of at depth actions j k)))
    table-alike depth j k h =
        let all = from-alike (length acts / 8) 0 (zero-add (length acts / 8) ∙ acts-size) depth j k (omega arith) h in
        alike-list (take k (drop j (flattenings_from acts blks call (length acts / 8) 0))) (actions_in call' (records_of at depth actions j k))
        (subst (λ z. AllAlike (take k (drop z (flattenings_from acts blks call (length acts / 8) 0))) (actions_in call' (records_of at depth actions j k))) (sub-zero j) all)

    -- BLOCKS --------------------------------------------------------------------------------------------------------------------------------
    abbrev block : ℕ → Cells
    block i = record_at at (records_of at 599) blocks i

    block-name : (i : ℕ) → get_or (words_in (block i)) 0 0 ≡ at blocks i 0
    unfolding record_at
    block-name i = ap (λ cs. get_or (words_in cs) 0 0) (first-cell (records_of at 599) blocks (at blocks i))

    block-list : (i : ℕ) → get_or (lists_in call' (block i)) 0 [] ≡ actions_in call' (records_of at 599 actions (at blocks i 1) (at blocks i 2))
    unfolding record_at fields_of field_of width_of cells_of actions_in
    block-list i = refl

    block-within : (i : ℕ) → i < size_of img blocks → Within img 599 actions (at blocks i 1) (at blocks i 2)
    unfolding fields_of field_of width_of
    block-within i l =
        (all-within img 599 blocks i l (omega (arith, few-actions)) (fields_of blocks (at blocks i 0) (at blocks i 1)) (at blocks i)
        (fields-well blocks (at blocks i 0) (at blocks i 1) (omega arith)) (good blocks i (omega arith) l)).0

    abbrev whole : List Flattening
    whole = flattenings_from acts blks call (length acts / 8) 0

    block-alike : (i : ℕ) → i < size_of img blocks → Alike (flatten_block acts blks (Some (model-rules.record_of img blocks i)) whole) (flatten_list (get_or (lists_in call' (block i)) 0 []))
    block-alike i l =
        subst (λ (xs : List Flattening). Alike (flatten_block acts blks (Some (model-rules.record_of img blocks i)) whole) (flatten_list xs)) (sym (block-list i))
        (table-alike 599 (at blocks i 1) (at blocks i 2) (block-within i l))

    either-alike : (b : Bool) (r : Record) (o : Option Record) (f g : Flattening) → Alike (flatten_block acts blks (Some r) whole) f → Alike (flatten_block acts blks o whole) g
        → Alike (flatten_block acts blks (cond b (Some r) o) whole) (cond b f g)
    either-alike true r o f g x y = x
    either-alike false r o f g x y = y

    blocks-alike : (name k i : ℕ) → i + k ≤ size_of img blocks
        → Alike (flatten_block acts blks (find (λ (r : Record). eqb r.kind name) (map (record_in blks) (up_from i k))) whole) (block_in call' name (list_of at (records_of at 599) blocks i k))
    unfolding list_of block_in
    blocks-alike name zero i h = λ c n m. equal-one step.Fail step.Fail
    blocks-alike name (suc k) i h =
        let l : i < size_of img blocks = omega arith in
        let o = find (λ (r : Record). eqb r.kind name) (map (record_in blks) (up_from (suc i) k)) in
        let g = block_in call' name (list_of at (records_of at 599) blocks (suc i) k) in
        let f = flatten_list (get_or (lists_in call' (block i)) 0 []) in
        subst (λ (r : Record). Alike (flatten_block acts blks (cond (eqb r.kind name) (Some r) o) whole) (cond (eqb (get_or (words_in (block i)) 0 0) name) f g))
        (sym (record-is blks blocks i (λ j m. block-word i j l m)))
        (subst (λ x. Alike (flatten_block acts blks (cond (eqb (at blocks i 0) name) (Some (model-rules.record_of img blocks i)) o) whole) (cond (eqb x name) f g)) (sym (block-name i))
        (either-alike (eqb (at blocks i 0) name) (model-rules.record_of img blocks i) o f g (block-alike i l) (blocks-alike name k (suc i) (omega arith))))

    -- RULES ---------------------------------------------------------------------------------------------------------------------------------
    abbrev rule : ℕ → Cells
    rule i = record_at at (records_of at 599) rules i

    rule-list : (i : ℕ) → get_or (lists_in call' (rule i)) 2 [] ≡ actions_in call' (records_of at 599 actions (at rules i 8) (at rules i 9))
    unfolding record_at fields_of field_of width_of cells_of actions_in
    rule-list i = refl

    rule-within : (i : ℕ) → i < size_of img rules → Within img 599 actions (at rules i 8) (at rules i 9)
    unfolding fields_of field_of width_of
    rule-within i l =
        (all-within img 599 rules i l (omega (arith, few-actions)) (fields_of rules (at rules i 0) (at rules i 1)) (at rules i)
        (fields-well rules (at rules i 0) (at rules i 1) (omega arith)) (good rules i (omega arith) l)).1.1.0

    rule-alike : (i : ℕ) → i < size_of img rules → Alike (flatten_list (take (at rules i 9) (drop (at rules i 8) whole))) (flatten_list (get_or (lists_in call' (rule i)) 2 []))
    rule-alike i l =
        subst (λ (xs : List Flattening). Alike (flatten_list (take (at rules i 9) (drop (at rules i 8) whole))) (flatten_list xs)) (sym (rule-list i))
        (table-alike 599 (at rules i 8) (at rules i 9) (rule-within i l))

  -- ALL RULES -------------------------------------------------------------------------------------------------------------------------------
  abbrev block_tree : Records
  block_tree = list_of at (records_of at 599) blocks 0 (size_of img blocks)

  call-alike : (d b : ℕ) → Alike (flatten_call acts blks d b) (call_in block_tree d b)
  unfolding flatten_call call_in block_named
  call-alike zero b = λ c n m. equal-one step.Fail step.Fail
  call-alike (suc d) b =
      subst
      (λ k. Alike (flatten_block acts blks (find (λ (r : Record). eqb r.kind b) (map (record_in blks) (up_from 0 k))) (flattenings_from acts blks (flatten_call acts blks d) (length acts / 8) 0))
      (block_in (call_in block_tree d) b block_tree))
      (sym blks-size)
      (blocks-alike (flatten_call acts blks d) (call_in block_tree d) (call-alike d) b (size_of img blocks) 0 (omega arith))

  abbrev calls : ℕ → Flattening
  calls = call_in block_tree (call_depth img)

  abbrev context : FlattenCtx
  context = rule_context (repeat_limit img)

  rule-equal : (i : ℕ) → i < size_of img rules → Equal (flatten_rule img i) (flatten_list (get_or (lists_in calls (record_at at (records_of at 599) rules i)) 2 []) context 0 0)
  unfolding flatten_rule flattenings
  rule-equal i l = rule-alike (flatten_call acts blks (call_depth img)) calls (call-alike (call_depth img)) i l context 0 0

  parts-equal : (x y : Flattened) → Equal x y → length (part_of x) ≡ length (part_of y)
  parts-equal x y h = length-append x.bodies x.rows ∙ ap₂ ◌+◌ h.bodies h.rows ∙ sym (length-append y.bodies y.rows)

  rules-equal : (k i : ℕ) → i + k ≤ size_of img rules
      → (steps_in (map (flatten_rule img) (up_from i k)) ≡ steps_in (rules_in calls context (list_of at (records_of at 599) rules i k)))
      × (taken_in (map (flatten_rule img) (up_from i k)) ≡ taken_in (rules_in calls context (list_of at (records_of at 599) rules i k)))
  unfolding list_of rules_in
  rules-equal zero i h = (refl, refl)
  rules-equal (suc k) i h =
      let e = rule-equal i (omega arith) in
      let r = rules-equal k (suc i) (omega arith) in
      (ap₂ ◌+◌ (parts-equal (flatten_rule img i) (flatten_list (get_or (lists_in calls (record_at at (records_of at 599) rules i)) 2 []) context 0 0) e) r.0, ap₂ ◌+◌ e.taken r.1)

  pub steps-follow : too_many_steps (flatten_rules img) ≡ too_many_in (tree_of img)
  unfolding flatten_rules too_many_steps too_many_in tree_of lists_of records_of
  steps-follow = let r = rules-equal (size_of img rules) 0 (omega arith) in ap₂ (λ a b. ltb 2048 a || ltb 65536 b) r.0 r.1
