-- The sizes of the rules' lists, as flattening writes them, and the numbers made of them.
use mathlib.Core.Path.{◌≡◌, sym, ◌∙◌, ap, subst}
use Prim.Native.Nat.{ℕ, zero, suc, ◌+◌, ◌-◌, ◌*◌, min, max, ◌≤◌, ◌<◌}
use native.Mathlib.Omega.{arith}
use mathlib.Core.Bool.{true, false, not}
use mathlib.Core.List.{List, [], ◌++◌, map}
use lib.ListN.{length, get_or, replicate}
use lib.Dec.{eqb}
use borrow.Author.Tests.{not-true, eq-eqb, ne_eqb}
use Rattle.model.proofs.Bools.{not-refused}
use Rattle.model.specs.Field.{unless}
use Rattle.model.specs.Lists.{total, up_from}
use Rattle.model.specs.Image.{budget, size_of, few_enough}
use Rattle.model.specs.Rows.{rules}
use Rattle.model.specs.Codec.{words_of}
use Rattle.model.specs.Parts.{list_row}
use Rattle.model.specs.Store.{list_rows}
use Rattle.model.specs.Flat.{flatten_rule, flatten_rules, too_many_steps}
use Rattle.model.specs.Load.{image_refusal}
use Rattle.std.specs.Prelude.{Ok, Err}
use Rattle.model.specs.declared.Refusal.{Refusal}
use Rattle.model.specs.Refusals.{refusal_code}
use Rattle.model.proofs.RefusalLaws.{refusal-some}
use Rattle.model.proofs.TestLaws.{total-same}
use Rattle.model.specs.Asked.{declined, shown_result}
use Rattle.image.specs.Accepted.{Accepted}
use Rattle.image.proofs.Accepted.{budget-fits, rules-few}
use Rattle.flat.specs.Load.{list_part}
use Rattle.flat.proofs.FlatPart.{rules-length}
use Rattle.flat.proofs.Counts.{few-steps}
use Rattle.load.proofs.Laws.{tables-pass}
use Rattle.room.specs.declared.Needed.{Needed}
use Rattle.room.specs.declared.Sums.{Sums}
use Rattle.room.specs.Room.{starts_of, own_steps, body_steps, effects_of_start, longest, outcomes_needed, effects_needed}
use Rattle.room.specs.Needed.{room_for, numbers, Needs, begin_in, size_in, steps_before, Summed, Listed}
use Rattle.room.proofs.Most.{most-outcomes, most-effects}

-- THE ROWS --------------------------------------------------------------------------------------------------------------------------
module _ (img : List ℕ) where
  abbrev part_steps : ℕ → ℕ
  part_steps i = body_steps img i + own_steps img i

  abbrev rows_from : ℕ → ℕ → ℕ → List ℕ
  rows_from s n k = words_of list_row (list_rows k (map (flatten_rule img) (up_from s n)))

  -- the steps of the i rules from rule s on
  abbrev steps_from : ℕ → ℕ → ℕ
  steps_from s i = total i (λ k. part_steps (s + k))

  steps_first : (s i : ℕ) → part_steps s + steps_from (suc s) i ≡ steps_from s (suc i)
  unfolding total
  steps_first s zero = let q : s + 0 ≡ s = omega arith in let a = ap part_steps q in omega arith
  steps_first s (suc i) =
      let q : suc s + i ≡ s + suc i = omega arith in
      let a = ap part_steps q in
      let b = steps_first s i in
      omega arith

  size-at : (s n k i : ℕ) (rest : List ℕ) → i < n → get_or (rows_from s n k ++ rest) (i * 2 + 1) 0 ≡ own_steps img (s + i)
  unfolding words_of own_steps
  size-at s zero k i rest h = absurd (omega arith)
  size-at s (suc n) k zero rest h = let q : s + 0 ≡ s = omega arith in rw q
  size-at s (suc n) k (suc i) rest h =
      let q : suc i * 2 + 1 ≡ suc (suc (i * 2 + 1)) = omega arith in
      let p : suc s + i ≡ s + suc i = omega arith in
      rw q (size-at (suc s) n _ i rest (omega arith) ∙ ap (λ j. length (flatten_rule img j).rows) p)

  begin-at : (s n k i : ℕ) (rest : List ℕ) → i < n → get_or (rows_from s n k ++ rest) (i * 2) 0 ≡ k + steps_from s i + body_steps img (s + i)
  unfolding words_of total own_steps body_steps
  begin-at s zero k i rest h = absurd (omega arith)
  begin-at s (suc n) k zero rest h =
      let q : s + 0 ≡ s = omega arith in
      let a = ap (λ j. length (flatten_rule img j).bodies) q in
      omega arith
  begin-at s (suc n) k (suc i) rest h =
      let q : suc i * 2 ≡ suc (suc (i * 2)) = omega arith in
      let p : suc s + i ≡ s + suc i = omega arith in
      let a = begin-at (suc s) n (k + length (flatten_rule img s).bodies + length (flatten_rule img s).rows) i rest (omega arith) in
      let b = ap (λ j. length (flatten_rule img j).bodies) p in
      let c : part_steps s + steps_from (suc s) i ≡ steps_from s (suc i) = unfold total in (steps_first s i) in
      rw q (a ∙ omega arith)

sizes-stored : (img lists rest : List ℕ) → lists ≡ list_part (flatten_rules img) ++ rest → (i : ℕ) → i < size_of img rules → size_in lists i ≡ own_steps img i
unfolding flatten_rules
sizes-stored img lists rest e i h =
    let q : 0 + i ≡ i = omega arith in
    ap (λ l. size_in l i) e ∙ size-at img 0 (size_of img rules) 0 i rest h ∙ ap (own_steps img) q

begins-stored : (img lists rest : List ℕ) → lists ≡ list_part (flatten_rules img) ++ rest → (i : ℕ) → i < size_of img rules → begin_in lists i ≡ steps_before img i + body_steps img i
unfolding flatten_rules
begins-stored img lists rest e i h =
    let q : 0 + i ≡ i = omega arith in
    let a = begin-at img 0 (size_of img rules) 0 i rest h in
    let b = total-same i (λ k. part_steps img (0 + k)) (part_steps img) (λ k. ap (part_steps img) (zero-sum k)) in
    let c = ap (body_steps img) q in
    ap (λ l. begin_in l i) e ∙ a ∙ omega arith
  where
    zero-sum : (k : ℕ) → 0 + k ≡ k
    zero-sum k = omega arith

-- 16 and 17 passed
passed : (img : List ℕ) → 0 ≡ unless (not (too_many_steps (flatten_rules img))) 16 (unless (few_enough img) 17 0)
    → (too_many_steps (flatten_rules img) ≡ false) × (few_enough img ≡ true)
passed img e =
    let (a, r) = not-refused (not (too_many_steps (flatten_rules img))) 15 _ (sym e) in
    let (b, _) = not-refused (few_enough img) 16 _ r in
    (not-true (too_many_steps (flatten_rules img)) a, b)

pub listed : (img lists : List ℕ) → Accepted img → 0 ≡ unless (not (too_many_steps (flatten_rules img))) 16 (unless (few_enough img) 17 0) → length lists ≡ 128
    → (length (flatten_rules img) * 2 ≤ length lists → lists ≡ list_part (flatten_rules img) ++ replicate (length lists - length (flatten_rules img) * 2) 0) → Listed img lists
listed img lists ok e len p =
    let (over, f) = passed img e in
    let c = rules-length img in
    let d = rules-few img f in
    record { image = ok; few = f; steps = few-steps (flatten_rules img) over; begins = begins-stored img lists _ (p (omega arith)); sizes = sizes-stored img lists _ (p (omega arith)) }

-- THE NUMBERS -----------------------------------------------------------------------------------------------------------------------
pub record Known (img : List ℕ) (b : ℕ) (s : Sums) : Type 0 where
  pub outcomes : 32 + s.starts ≡ outcomes_needed img
  pub effects : max (min b s.longest) (32 * min (b - 1) s.longest + s.effects) ≡ effects_needed img
  pub few-outcomes : 32 + s.starts ≤ 1184
  pub few-effects : s.effects ≤ 59360
  pub within : max (min b s.longest) (32 * min (b - 1) s.longest + s.effects) ≤ 59360

pub budget-of : (img lists : List ℕ) → Listed img lists → (1 ≤ budget img) × (budget img ≤ 256)
budget-of img lists h = budget-fits img h.image.passes

pub few-of : (img lists : List ℕ) → Listed img lists → size_of img rules ≤ 64
few-of img lists h = rules-few img h.few

outcomes-are : (img : List ℕ) (x : ℕ) → x ≡ total (size_of img rules) (starts_of img) → 32 + x ≡ outcomes_needed img
unfolding outcomes_needed
outcomes-are img x e = ap (λ t. 32 + t) e

effects-are : (img : List ℕ) (l x : ℕ) → l ≡ longest img → x ≡ total (size_of img rules) (λ i. starts_of img i * effects_of_start img i)
    → max (min (budget img) l) (32 * min (budget img - 1) l + x) ≡ effects_needed img
unfolding effects_needed
effects-are img l x el ex = rw (el, ex)

known-with : (img lists : List ℕ) (s : Sums) → Listed img lists → Summed img s → Known img (budget img) s
known-with img lists s h k =
    let b = budget-of img lists h in
    let a = outcomes-are img s.starts k.starts in
    let f = effects-are img s.longest s.effects k.longest k.effects in
    let m = most-outcomes img h.few b.1 h.steps in
    let q = most-effects img h.few b.1 h.steps in
    record { outcomes = a; effects = f; few-outcomes = omega arith; few-effects = omega arith; within = omega arith }

pub known : (img lists : List ℕ) (b : ℕ) (s : Sums) → Listed img lists → b ≡ budget img → Summed img s → Known img b s
known img lists b s h e k = subst (λ n. Known img n s) (sym e) (known-with img lists s h k)

pub room-made : (img : List ℕ) (b : ℕ) (r : Needed) (s : Sums) → Known img b s → r.outcomes ≡ 32 + s.starts
    → r.effects ≡ max (min b s.longest) (32 * min (b - 1) s.longest + s.effects) → Needs img r
room-made img b r s k ex ey = record { outcomes = ex ∙ k.outcomes; effects = ey ∙ k.effects }

-- THE ANSWERS -----------------------------------------------------------------------------------------------------------------------
pub refused-is : (img : List ℕ) (refusal : Refusal) → refusal_code refusal ≡ image_refusal img → shown_result numbers (Err refusal) [] ≡ room_for img
unfolding shown_result room_for declined
refused-is img refusal e =
    let b : eqb (image_refusal img) 0 ≡ false = ne_eqb (image_refusal img) 0 (λ z. refusal-some refusal (e ∙ z)) in
    rw b (ap (λ k. record { number = k; values = []; lent = [] }) e)

pub room-is : (img : List ℕ) (r : Needed) → Needs img r → 0 ≡ image_refusal img → shown_result numbers (Ok r) [] ≡ room_for img
unfolding shown_result room_for
room-is img r h e =
    let b : eqb (image_refusal img) 0 ≡ true = eq-eqb (image_refusal img) 0 (sym e) in
    rw (b, h.outcomes, h.effects)

module _ (img : List ℕ) (ok : Accepted img) where
  pub late-refused : (refusal : Refusal) → refusal_code refusal ≡ unless (not (too_many_steps (flatten_rules img))) 16 (unless (few_enough img) 17 0)
      → shown_result numbers (Err refusal) [] ≡ room_for img
  late-refused refusal e = refused-is img refusal (tables-pass img (refusal_code refusal) ok.passes e)

  pub needed-is : (r : Needed) → 0 ≡ unless (not (too_many_steps (flatten_rules img))) 16 (unless (few_enough img) 17 0) → Needs img r
      → shown_result numbers (Ok r) [] ≡ room_for img
  needed-is r e k = room-is img r k (tables-pass img 0 ok.passes e)
