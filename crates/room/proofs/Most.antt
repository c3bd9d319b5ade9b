-- No accepted image needs more than 1,184 outcomes and 59,360 effects.
use mathlib.Core.Path.{◌≡◌, refl, ◌∙◌}
use Prim.Native.Nat.{ℕ, ◌+◌, ◌-◌, ◌*◌, min, ◌≤◌}
use native.Mathlib.Omega.{arith}
use native.Mathlib.Nat.{mul-le-mul_left, mul-le-mul_right}
use mathlib.Core.Bool.{true}
use mathlib.Core.List.{List, [], ◌∷◌, map}
use lib.ListN.{length-append}
use Rattle.model.specs.Lists.{all, total}
use Rattle.model.specs.Image as image
use Rattle.model.specs.Image.{budget, size_of, few_enough}
use Rattle.model.specs.Rows.{rules}
use Rattle.model.specs.declared.Trigger.{Trigger}
use Rattle.model.specs.declared.Trigger.TheVariants.{TimerFires, Every, AtTime, AtSolar, Other}
use Rattle.model.specs.Rules.{triggers_of, rule_indices}
use Rattle.model.specs.Load.{image_refusal}
use Rattle.model.specs.Flat.{flatten_rule, flatten_rules, steps_in}
use Rattle.model.proofs.TestLaws.{total-same}
use Rattle.image.proofs.Accepted.{rules-few, slots-few}
use Rattle.ledger.proofs.SumLaws.{sum_of}
use Rattle.ledger.proofs.LoadRules.{slot_counts, rule-count}
use Rattle.ledger.proofs.FlatShapes.{is_word}
use Rattle.ledger.proofs.Accepted.{Accepted, accepts, budget-range}
use Rattle.ledger.proofs.SetRules.{few-steps}
use Rattle.room.specs.Room.{count, is_every_trigger, starts_by, starts_of, own_steps, effects_of_start, longest, outcomes_needed, effects_needed}
use Rattle.room.specs.Enough.{Room}
use Rattle.room.proofs.SumLaws.{sum-from, total_mono, total-linear}

everys : (ts : List Trigger) → count is_every_trigger ts ≡ slot_counts ts
everys [] = refl
everys (TimerFires t ∷ ts) = let a = everys ts in omega arith
everys (Every ms ∷ ts) = let a = everys ts in omega arith
everys (AtTime h m days ∷ ts) = let a = everys ts in omega arith
everys (AtSolar event offset ∷ ts) = let a = everys ts in omega arith
everys (Other ∷ ts) = let a = everys ts in omega arith

starts-few : (ts : List Trigger) → starts_by ts ≤ 17 + count is_every_trigger ts
unfolding starts_by
starts-few ts = omega arith

-- so many starts of at most b and at most s effects
product : (n k b s : ℕ) → n ≤ 17 + k → b ≤ 256 → n * min b s ≤ 17 * s + 256 * k
product n k b s h l =
    let e = min b s in
    let x = mul-le-mul_right e h in
    let le : e ≤ 256 = omega arith in
    let y = mul-le-mul_left k le in
    let z : e ≤ s = omega arith in
    omega arith

module _ (img : List ℕ) (few : few_enough img ≡ true) (b : budget img ≤ 256) (steps : steps_in (flatten_rules img) ≤ 2048) where
  slots : total (size_of img rules) (λ i. count is_every_trigger (triggers_of img i)) ≤ 64
  slots =
      let a = total-same (size_of img rules) (λ i. count is_every_trigger (triggers_of img i)) (image.slots_of img) (λ i. everys (triggers_of img i) ∙ rule-count img i) in
      let c = slots-few img few in
      omega arith

  steps-sum : (is : List ℕ) → sum_of (own_steps img) is ≤ steps_in (map (flatten_rule img) is)
  unfolding own_steps
  steps-sum [] = omega arith
  steps-sum (i ∷ is) = let a = steps-sum is in let b = length-append (flatten_rule img i).bodies (flatten_rule img i).rows in omega arith

  all-steps : total (size_of img rules) (own_steps img) ≤ 2048
  unfolding flatten_rules
  all-steps = let a = steps-sum (rule_indices img) in let c = sum-from (own_steps img) (size_of img rules) in omega arith

  pub most-outcomes : outcomes_needed img ≤ 1184
  unfolding outcomes_needed
  most-outcomes =
      let n = size_of img rules in
      let k : ℕ → ℕ = λ i. count is_every_trigger (triggers_of img i) in
      let a = total_mono n (starts_of img) (λ i. 17 + 1 * k i + 0 * k i) (λ i. let s = starts-few (triggers_of img i) in omega arith) in
      let c = total-linear n 17 1 0 k k in
      let d = slots in
      let r = rules-few img few in
      omega arith

  pub most-effects : effects_needed img ≤ 59360
  unfolding effects_needed
  most-effects =
      let n = size_of img rules in
      let k : ℕ → ℕ = λ i. count is_every_trigger (triggers_of img i) in
      let a = total_mono n (λ i. starts_of img i * effects_of_start img i) (λ i. 0 + 17 * own_steps img i + 256 * k i)
      (λ i. let p = product (starts_of img i) (k i) (budget img) (own_steps img i) (starts-few (triggers_of img i)) b in omega arith) in
      let c = total-linear n 0 17 256 (own_steps img) k in
      let d = slots in
      let s = all-steps in
      let x : min (budget img - 1) (longest img) ≤ 255 = omega arith in
      let y : min (budget img) (longest img) ≤ 256 = omega arith in
      omega arith

-- of every image that load accepts
pub most : (img : List ℕ) → Accepted img → (outcomes_needed img ≤ 1184) × (effects_needed img ≤ 59360)
most img ok =
    let b = budget-range img ok in
    (most-outcomes img ok.few b.1 (few-steps img ok), most-effects img ok.few b.1 (few-steps img ok))

-- so who lends that much may load every image
pub most-room : (img : List ℕ) → all is_word img ≡ true → image_refusal img ≡ 0 → Room 1184 59360 img
most-room img w e = let m = most img (accepts img w e) in record { outcomes = m.0; effects = m.1 }
