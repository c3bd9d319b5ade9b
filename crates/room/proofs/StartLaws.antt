-- How often a tick starts each rule: summed over the timers that fire, over the Every slots, and over the rules with a wall trigger.
use mathlib.Core.Path.{◌≡◌, refl, sym, ◌∙◌, ap, ap₂, subst}
use Prim.Native.Nat.{ℕ, suc, ◌+◌, ◌*◌, min, ◌≤◌}
use native.Mathlib.Omega.{arith}
use native.Mathlib.Nat.{mul-le-mul_right}
use mathlib.Core.Bool.{Bool, true, cond, not, false≢true}
use mathlib.Core.List.{List, [], ◌∷◌, map}
use Rattle.std.specs.Prelude.{Some}
use lib.Dec.{leb, eqb}
use borrow.Author.Tests.{eqb-true}
use Rattle.model.specs.Lists.{any, all, keep, to_list, sort, flatten}
use Rattle.model.specs.declared.Trigger.{Trigger}
use Rattle.model.specs.declared.Trigger.TheVariants.{TimerFires, Every as EveryMs, AtTime, AtSolar, Other}
use Rattle.model.specs.Rules.{name_of, triggers_of, name_order, rule_named}
use Rattle.model.specs.declared.NamedTimer.{NamedTimer}
use Rattle.model.specs.declared.EverySlot.{EverySlot}
use Rattle.model.specs.State.{Env, Rest}
use Rattle.model.specs.Slots.{slots_from, rebuild_every}
use Rattle.model.specs.Store.{distinct, same_slots}
use Rattle.model.specs.Wheel.{fires_on, due_timers, timer_before, rules_on_timer, timers_due, every_due}
use Rattle.ledger.proofs.ListLaws.{by, and_l, and_r, Every}
use Rattle.ledger.proofs.SumLaws.{sum_of, sum-sort, sum-keep, sum-flatten}
use Rattle.ledger.proofs.RestRules.{TimersOk, SlotsOk}
use Rattle.room.specs.Room.{count, is_timer_trigger, is_every_trigger}
use Rattle.room.proofs.SumLaws.{sum_mono, sum_same, count-length, count-or, count_none, sum-swap}

everywhere : {A : Type 0} (P : A → Type 0) (xs : List A) → ((x : A) → P x) → Every P xs
everywhere P [] h = tt
everywhere P (x ∷ xs) h = (h x, everywhere P xs h)

every-imply : {A : Type 0} (P Q : A → Type 0) (xs : List A) → ((x : A) → P x → Q x) → Every P xs → Every Q xs
every-imply P Q [] h k = tt
every-imply P Q (x ∷ xs) h k = (h x k.0, every-imply P Q xs h k.1)

-- TIMERS --------------------------------------------------------------------------------------------------------------------------
-- of timers of distinct names at most one has this name
none_named : (n : ℕ) (ts : List NamedTimer) → all (λ m. not (eqb n m)) (map (λ (t : NamedTimer). t.name) ts) ≡ true → count (λ (t : NamedTimer). eqb n t.name) ts ≡ 0
none_named n [] h = refl
none_named n (t ∷ ts) h =
    by (eqb n t.name)
    (λ y. absurd (false≢true (sym (ap not y) ∙ and_l (not (eqb n t.name)) _ h)))
    (λ f. let a = none_named n ts (and_r (not (eqb n t.name)) _ h) in rw f (omega arith))

one-named : (n : ℕ) (ts : List NamedTimer) → distinct (map (λ (t : NamedTimer). t.name) ts) ≡ true → count (λ (t : NamedTimer). eqb n t.name) ts ≤ 1
one-named n [] h = omega arith
one-named n (t ∷ ts) h =
    by (eqb n t.name)
    (λ y.
    let e = eqb-true n t.name y in
    let a = none_named n ts (subst (λ k. all (λ m. not (eqb k m)) (map (λ (t : NamedTimer). t.name) ts) ≡ true) (sym e) (and_l _ _ h)) in
    rw y (omega arith))
    (λ f. let a = one-named n ts (and_r (all (λ m. not (eqb t.name m)) (map (λ (t : NamedTimer). t.name) ts)) _ h) in rw f (omega arith))

-- the timers that a trigger, and a list of them, listens to
fired-by : (x : Trigger) (ts : List NamedTimer) → distinct (map (λ (t : NamedTimer). t.name) ts) ≡ true → count (λ (t : NamedTimer). fires_on t.name x) ts ≤ cond (is_timer_trigger x) 1 0
fired-by (TimerFires n) ts h = one-named n ts h
fired-by (EveryMs ms) ts h = let a = count_none ts in omega arith
fired-by (AtTime hour m days) ts h = let a = count_none ts in omega arith
fired-by (AtSolar event offset) ts h = let a = count_none ts in omega arith
fired-by Other ts h = let a = count_none ts in omega arith

fired-by-all : (xs : List Trigger) (ts : List NamedTimer) → distinct (map (λ (t : NamedTimer). t.name) ts) ≡ true
    → count (λ (t : NamedTimer). any (fires_on t.name) xs) ts ≤ count is_timer_trigger xs
fired-by-all [] ts h = let a = count_none ts in omega arith
fired-by-all (x ∷ xs) ts h =
    let a = fired-by x ts h in
    let b = fired-by-all xs ts h in
    let c = count-or (λ (t : NamedTimer). fires_on t.name x) (λ (t : NamedTimer). any (fires_on t.name) xs) ts in
    omega arith

module _ (w : ℕ → ℕ) where
  pub timer-sum : (e : Env) (s : Rest) → TimersOk s.timers
      → sum_of w (timers_due e s).rules ≤ sum_of (λ i. min 16 (count is_timer_trigger (triggers_of e.set.image i)) * w i) (name_order e.set.image)
  unfolding timers_due due_timers rules_on_timer
  timer-sum e s h =
      let img = e.set.image in
      let due : NamedTimer → Bool = λ t. leb t.due e.world.now in
      let listens : NamedTimer → ℕ → Bool = λ t i. any (fires_on t.name) (triggers_of img i) in
      let f : NamedTimer → ℕ = λ t. sum_of w (keep (listens t) (name_order img)) in
      let a = sum-flatten w (λ (t : NamedTimer). keep (listens t) (name_order img)) (sort timer_before (keep due s.timers)) in
      let b = sum-sort f timer_before (keep due s.timers) in
      let c = sum-keep f due s.timers in
      let d = sum-swap listens w (name_order img) s.timers in
      let k = sum_mono (λ i. count (λ t. listens t i) s.timers * w i) (λ i. min 16 (count is_timer_trigger (triggers_of img i)) * w i) (name_order img)
      (everywhere _ (name_order img)
      (λ i.
      let p = fired-by-all (triggers_of img i) s.timers h.distinct in
      let q = count-length (λ t. listens t i) s.timers in
      let r = h.few in
      let z : count (λ t. listens t i) s.timers ≤ min 16 (count is_timer_trigger (triggers_of img i)) = omega arith in
      mul-le-mul_right (w i) z)) in
      omega arith

-- EVERY SLOTS ---------------------------------------------------------------------------------------------------------------------
module _ (g : ℕ → ℕ) where
  same_sum : (xs ys : List EverySlot) → same_slots xs ys ≡ true → sum_of (λ (x : EverySlot). g x.rule) xs ≡ sum_of (λ (x : EverySlot). g x.rule) ys
  same_sum [] [] h = refl
  same_sum [] (y ∷ ys) h = absurd (false≢true h)
  same_sum (x ∷ xs) [] h = absurd (false≢true h)
  same_sum (x ∷ xs) (y ∷ ys) h =
      let a = and_r (eqb x.rule y.rule) _ h in
      let b = and_r (eqb x.place y.place) _ a in
      ap₂ ◌+◌ (ap g (eqb-true _ _ (and_l _ _ h))) (same_sum xs ys (and_r (eqb x.period y.period) _ b))

  slots-sum : (old : List EverySlot) (now rule place : ℕ) (ts : List Trigger)
      → sum_of (λ (x : EverySlot). g x.rule) (slots_from old now rule place ts) ≡ count is_every_trigger ts * g rule
  unfolding slots_from
  slots-sum old now rule place [] = omega arith
  slots-sum old now rule place (TimerFires t ∷ ts) = let a = slots-sum old now rule (suc place) ts in omega arith
  slots-sum old now rule place (EveryMs ms ∷ ts) = let a = slots-sum old now rule (suc place) ts in omega arith
  slots-sum old now rule place (AtTime h m days ∷ ts) = let a = slots-sum old now rule (suc place) ts in omega arith
  slots-sum old now rule place (AtSolar event offset ∷ ts) = let a = slots-sum old now rule (suc place) ts in omega arith
  slots-sum old now rule place (Other ∷ ts) = let a = slots-sum old now rule (suc place) ts in omega arith

-- what the rule of a name weighs
abbrev weight_of : (ℕ → ℕ) → List ℕ → ℕ → ℕ
weight_of w img r = sum_of w (to_list (rule_named img r))

weight-named : (w : ℕ → ℕ) (img : List ℕ) (i : ℕ) → rule_named img (name_of img i) ≡ Some i → weight_of w img (name_of img i) ≡ w i
weight-named w img i h = rw h (omega arith)

module _ (w : ℕ → ℕ) where
  pub slot-sum : (e : Env) (s : Rest) → SlotsOk (rebuild_every e.set.image [] 0) s.every → Every (λ i. rule_named e.set.image (name_of e.set.image i) ≡ Some i) (name_order e.set.image)
      → sum_of w (every_due e s).rules ≤ sum_of (λ i. count is_every_trigger (triggers_of e.set.image i) * w i) (name_order e.set.image)
  unfolding every_due rebuild_every
  slot-sum e s h ours =
      let img = e.set.image in
      let due : EverySlot → Bool = λ x. leb x.due e.world.now in
      let f : EverySlot → ℕ = λ x. weight_of w img x.rule in
      let made : ℕ → List EverySlot = λ i. slots_from [] 0 (name_of img i) 0 (triggers_of img i) in
      let a = sum-flatten w (λ (x : EverySlot). to_list (rule_named img x.rule)) (keep due s.every) in
      let b = sum-keep f due s.every in
      let c = same_sum (weight_of w img) s.every (flatten (map made (name_order img))) h.same in
      let d = sum-flatten f made (name_order img) in
      let k = sum_same (λ i. sum_of f (made i)) (λ i. count is_every_trigger (triggers_of img i) * w i) (name_order img)
      (every-imply _ _ (name_order img)
      (λ i z. slots-sum (weight_of w img) [] 0 (name_of img i) 0 (triggers_of img i) ∙ ap (λ n. count is_every_trigger (triggers_of img i) * n) (weight-named w img i z)) ours) in
      omega arith
