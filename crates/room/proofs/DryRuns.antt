-- A dry run: an after's body goes behind all that is queued. So the steps of a rule's own list are taken, and of every after its body.
use mathlib.Core.Path.{◌≡◌, refl, ap, subst}
use Prim.Native.Nat.{ℕ, zero, suc, ◌+◌, ◌-◌, min, ◌≤◌}
use native.Mathlib.Omega.{arith}
use mathlib.Core.Bool.{Bool, true, false, false≢true}
use mathlib.Core.List.{List, [], ◌∷◌, ◌++◌}
use Rattle.std.specs.Prelude.{Option, None, Some}
use Rattle.std.proofs.lemmas.Option.{none-some, slice_get_within}
use lib.ListN.{length, get_or, drop, length-append}
use Rattle.std.specs.Prelude.{slice_get}
use Rattle.model.specs.Lists.{to_list}
use Rattle.model.specs.declared.Step.{Step}
use Rattle.model.specs.declared.Step.TheVariants.{Primitive, Wait, Branch, After, Fail}
use Rattle.model.specs.Steps.{jump_at}
use Rattle.model.specs.declared.Point.{Point}
use Rattle.model.specs.Steps.{FlatStep, steps_of, arrive, start}
use Rattle.model.specs.State.{Env, Rest}
use Rattle.model.specs.Flat.{body_in, list_in, step_at, every_copy}
use Rattle.model.specs.Eval.{condition_at}
use Rattle.model.specs.declared.Job.{Job}
use Rattle.model.specs.Exec.{body_start}
use Rattle.model.specs.Dry.{NextStep, found, next_step, dry_branch, dry_step, dry_turn, run_steps_dry}
use Rattle.ledger.proofs.ListLaws.{Every, every_append}
use Rattle.ledger.proofs.SumLaws.{sum_of, sum-append}
use Rattle.ledger.proofs.SetRules.{SetOk, list_of}
use Rattle.ledger.proofs.RunRules.{in_body}
use Rattle.room.proofs.Runs.{Onward, Ahead, arrive-ahead, further, effect-one}

-- WHAT IS LEFT FROM A PLACE ON ------------------------------------------------------------------------------------------------------
-- of a rule's own list with the bodies of its afters, or of one body
abbrev left_in : List FlatStep → ℕ → ℕ → ℕ
left_in xs zero p = every_copy (drop p xs)
left_in xs (suc q) p = length (body_in (slice_get xs q)) - p

copy-less : (xs : List FlatStep) (p : ℕ) → every_copy (drop (suc p) xs) ≤ every_copy (drop p xs)
copy-less [] zero = omega arith
copy-less [] (suc p) = omega arith
copy-less (x ∷ xs) zero = omega arith
copy-less (x ∷ xs) (suc p) = copy-less xs p

copy-fewer : (xs : List FlatStep) (p k : ℕ) → every_copy (drop (p + k) xs) ≤ every_copy (drop p xs)
copy-fewer xs p zero = let q : p + 0 ≡ p = omega arith in let a = ap (λ n. every_copy (drop n xs)) q in omega arith
copy-fewer xs p (suc k) =
    let q : p + suc k ≡ suc (p + k) = omega arith in
    let a = ap (λ n. every_copy (drop n xs)) q in
    let b = copy-less xs (p + k) in
    let c = copy-fewer xs p k in
    omega arith

-- further on there is less left
left_less : (xs : List FlatStep) (n p q : ℕ) → p ≤ q → left_in xs n q ≤ left_in xs n p
left_less xs zero p q h =
    let e : p + (q - p) ≡ q = omega arith in
    let a = ap (λ k. every_copy (drop k xs)) e in
    let b = copy-fewer xs p (q - p) in
    omega arith
left_less xs (suc n) p q h = omega arith

-- at a step of the own list: this step, its body, and what is behind it
copy_at : (xs : List FlatStep) (p : ℕ) (x : Step) → slice_get (steps_of xs) p ≡ Some x → every_copy (drop p xs) ≡ suc (length (body_in (slice_get xs p)) + every_copy (drop (suc p) xs))
copy_at [] p x e = absurd (none-some x e)
copy_at (y ∷ ys) zero x e = omega arith
copy_at (y ∷ ys) (suc p) x e = copy_at ys p x e

left_at : (xs : List FlatStep) (n p : ℕ) (x : Step) → slice_get (list_in xs n) p ≡ Some x → suc (left_in xs n (suc p)) ≤ left_in xs n p
unfolding list_in
left_at xs zero p x e = let a = copy_at xs p x e in omega arith
left_at xs (suc n) p x e = let lt = slice_get_within (body_in (slice_get xs n)) p x e in omega arith

module _ (e : Env) (ok : SetOk e.set) (j : Job) where
  abbrev steps : List FlatStep
  steps = get_or e.set.flat j.index []

  abbrev left : Point → ℕ
  left sp = left_in steps sp.list sp.place

  -- of a list, and of the bodies behind it
  abbrev ahead : Point → List Point → ℕ
  ahead sp qs = left sp + sum_of left qs

  abbrev Going : Point → List Point → Type 0
  Going sp qs = Onward sp.jump × Every (λ (q : Point). Onward q.jump) qs

  left-ahead : (p : ℕ) (sp to : Point) → Ahead sp.list p to → left to ≤ left_in steps sp.list p
  left-ahead p sp to h =
      let a = ap (λ n. left_in steps n to.place) h.list in
      let b = left_less steps sp.list p to.place h.place in
      omega arith

  -- THE NEXT STEP -------------------------------------------------------------------------------------------------------------------
  record Found (m : ℕ) (a : NextStep) : Type 0 where
    here : step_at e.set j.index a.point ≡ Some a.step
    going : Going a.point a.bodies
    less : ahead a.point a.bodies ≤ m

  found-less : (m : ℕ) (o : Option Step) (sp : Point) (qs : List Point) (more : Option NextStep) (a : NextStep) → step_at e.set j.index sp ≡ o → Going sp qs → ahead sp qs ≤ m
      → ((b : NextStep) → more ≡ Some b → Found m b) → found o sp qs more ≡ Some a → Found m a
  found-less m None sp qs more a z g le ih h = ih a h
  found-less m (Some x) sp qs more a z g le ih h =
      let p : record { step = x; point = sp; bodies = qs } ≡ a = cc in
      subst (Found m) p (record { here = z; going = g; less = le })

  next-less : (m : ℕ) (sp : Point) (qs : List Point) (a : NextStep) → Going sp qs → ahead sp qs ≤ m → next_step e j sp qs ≡ Some a → Found m a
  unfolding next_step
  next-less m sp [] a g le h = found-less m (step_at e.set j.index sp) sp [] None a refl g le (λ b z. absurd (none-some b z)) h
  next-less m sp (q ∷ qs) a g le h =
      found-less m (step_at e.set j.index sp) sp (q ∷ qs) (next_step e j q qs) a refl g le (λ b z. next-less m q qs b g.1 (omega arith) z) h

  -- ONE STEP ------------------------------------------------------------------------------------------------------------------------
  record Stepped (m : ℕ) (to : Point) (qs : List Point) : Type 0 where
    going : Going to qs
    less : suc (ahead to qs) ≤ m

  onto : (sp to : Point) (qs : List Point) (x : Step) → step_at e.set j.index sp ≡ Some x → Going sp qs → Ahead sp.list (suc sp.place) to → Stepped (ahead sp qs) to qs
  unfolding step_at
  onto sp to qs x here g h =
      let a = left_at steps sp.list sp.place x here in
      let b = left-ahead (suc sp.place) sp to h in
      record { going = (h.jump, g.1); less = omega arith }

  -- n steps further on
  onward : (sp : Point) (n : ℕ) → Onward sp.jump → Ahead sp.list (suc sp.place) (arrive sp.list (suc sp.place + n) sp.jump)
  onward sp n h = further _ _ _ _ (omega arith) (arrive-ahead sp.list (suc sp.place + n) sp.jump h)

  branch_less : (o : Option Bool) (c t f : ℕ) (sp : Point) (qs : List Point) (s : Rest) → step_at e.set j.index sp ≡ Some (Branch c t f) → Going sp qs
      → Stepped (ahead sp qs) (dry_branch o t f sp qs s).next (dry_branch o t f sp qs s).bodies
  unfolding dry_branch
  branch_less (Some true) c t f sp qs s here g =
      let p = suc sp.place in onto sp _ qs (Branch c t f) here g (arrive-ahead sp.list p (Some (jump_at (p + t) (p + t + f))) (omega arith))
  branch_less (Some false) c t f sp qs s here g = onto sp _ qs (Branch c t f) here g (onward sp t g.0)
  branch_less None c t f sp qs s here g = onto sp _ qs (Branch c t f) here g (onward sp (t + f) g.0)

  -- an after stands in the rule's own list
  own-list : (n : ℕ) (sp : Point) (ms : ℕ) → sp.list ≡ n → step_at e.set j.index sp ≡ Some (After ms) → n ≡ 0
  unfolding step_at
  own-list zero sp ms el here = refl
  own-list (suc n) sp ms el here =
      absurd (false≢true (in_body e.set ok j.index n sp.place (After ms) (subst (λ l. slice_get (list_of e.set j.index l) sp.place ≡ Some (After ms)) el here)))

  after_less : (ms : ℕ) (sp : Point) (qs : List Point) → step_at e.set j.index sp ≡ Some (After ms) → Going sp qs
      → Stepped (ahead sp qs) (arrive sp.list (suc sp.place + 0) sp.jump) (qs ++ (body_start sp ∷ []))
  unfolding step_at list_in
  after_less ms sp qs here g =
      let own : sp.list ≡ 0 = own-list sp.list sp ms refl (unfold step_at in here) in
      let h = onward sp 0 g.0 in
      let a = left-ahead (suc sp.place) sp _ h in
      let b = copy_at steps sp.place (After ms) (subst (λ l. slice_get (list_of e.set j.index l) sp.place ≡ Some (After ms)) own here) in
      let c = ap (λ n. left_in steps n sp.place) own in
      let d = ap (λ n. left_in steps n (suc sp.place)) own in
      let f = sum-append left qs (body_start sp ∷ []) in
      record { going = (h.jump, every_append (λ (q : Point). Onward q.jump) qs _ g.1 (tt, tt)); less = omega arith }

  step_less : (x : Step) (sp : Point) (qs : List Point) (s : Rest) → step_at e.set j.index sp ≡ Some x → Going sp qs
      → Stepped (ahead sp qs) (dry_step e j x sp qs s).next (dry_step e j x sp qs s).bodies
  unfolding dry_step
  step_less (Primitive i) sp qs s here g = onto sp _ qs (Primitive i) here g (onward sp 0 g.0)
  step_less (Wait ms) sp qs s here g = onto sp _ qs (Wait ms) here g (onward sp 0 g.0)
  step_less (After ms) sp qs s here g = after_less ms sp qs here g
  step_less (Branch c t f) sp qs s here g = branch_less (condition_at e s c) c t f sp qs s here g
  step_less Fail sp qs s here g = onto sp _ qs Fail here g (onward sp 0 g.0)

  -- A RUN ---------------------------------------------------------------------------------------------------------------------------
  turn-few : (b m : ℕ) (o : Option NextStep) (s : Rest) → ((a : NextStep) → o ≡ Some a → Found m a)
      → ((sp : Point) (qs : List Point) (s' : Rest) → Going sp qs → length (run_steps_dry b e j sp qs s').effects ≤ min b (ahead sp qs))
      → length (dry_turn e j o s (λ sp' qs' s'. run_steps_dry b e j sp' qs' s')).effects ≤ min (suc b) m
  unfolding dry_turn
  turn-few b m None s here ih = omega arith
  turn-few b m (Some a) s here ih =
      let f = here a refl in
      let d = dry_step e j a.step a.point a.bodies s in
      let st = step_less a.step a.point a.bodies s f.here f.going in
      let r = ih d.next d.bodies d.rest st.going in
      let g = effect-one d.effect in
      let c = length-append (to_list d.effect) (run_steps_dry b e j d.next d.bodies d.rest).effects in
      let l = st.less in
      let k = f.less in
      omega arith

  dry-few : (b : ℕ) (sp : Point) (qs : List Point) (s : Rest) → Going sp qs → length (run_steps_dry b e j sp qs s).effects ≤ min b (ahead sp qs)
  unfolding run_steps_dry
  dry-few zero sp qs s g = omega arith
  dry-few (suc b) sp qs s g =
      turn-few b (ahead sp qs) (next_step e j sp qs) s (λ a z. next-less (ahead sp qs) sp qs a g (omega arith) z) (λ sp' qs' s' k. dry-few b sp' qs' s' k)

  pub dry-within : (b : ℕ) (s : Rest) → length (run_steps_dry b e j start [] s).effects ≤ min b (every_copy (get_or e.set.flat j.index []))
  dry-within b s = let a = dry-few b start [] s (tt, tt) in omega arith
