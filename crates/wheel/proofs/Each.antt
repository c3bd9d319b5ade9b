-- Rules and continuations, one behind another. Assumes nothing.
use Prim.Native.Nat.{ℕ, suc, ◌+◌, ◌≤◌, ◌<◌}
use native.Mathlib.Numerals.{add-one}
use mathlib.Core.Path.{◌≡◌, refl, sym, ap, subst, ◌∙◌}
use mathlib.Core.Bool.{Bool, true, false, cond, not}
use mathlib.Core.List.{List, [], ◌∷◌, ◌++◌, map, append_assoc, append-nil}
use Rattle.std.specs.Prelude.{None, Some}
use lib.ListN.{length, drop, get_or, drop_of_length-le}
use lib.Seq.{drop-cons}
use borrow.Author.Tests.{not-true, not-false}
use Rattle.model.specs.Activate as model
use Rattle.model.specs.declared.Mode.TheVariants.{Auto}
use Rattle.model.specs.Activate.{Handled, no_outcome, and_then}
use Rattle.model.specs.Lists.{any, keep, flatten}
use Rattle.model.specs.State.{Env, Volatile, is_enabled}
use Rattle.model.specs.Rules.{triggers_of, rule_named}
use Rattle.model.specs.Wheel.{by_timer, by_every, fires_on, rules_on_timer, activate_if_enabled, activate_each, resume_all}
use Rattle.model.specs.declared.EverySlot.{EverySlot}
use Rattle.model.specs.declared.Pending.{Pending}
use Rattle.activate.specs.Carried.{Carried}
use Rattle.wheel.specs.Tick.{Fires, Ordered, on_timer, rules_of_slot}

-- ---- one behind another
then-assoc : (a : Handled) (k l : Volatile → Handled) → and_then (and_then a k) l ≡ and_then a (λ v. and_then (k v) l)
then-assoc a k l =
    let b = k a.vol in
    let c = l b.vol in
    let os : (a.outcomes ++ b.outcomes) ++ c.outcomes ≡ a.outcomes ++ (b.outcomes ++ c.outcomes) = append_assoc a.outcomes b.outcomes c.outcomes in
    let is : (a.trace ++ b.trace) ++ c.trace ≡ a.trace ++ (b.trace ++ c.trace) = append_assoc a.trace b.trace c.trace in
    λ i. record { vol = c.vol; outcomes = os i; trace = is i }

then-none : (a : Handled) → and_then a (λ v. no_outcome v) ≡ a
then-none a =
    let os : a.outcomes ++ [] ≡ a.outcomes = append-nil a.outcomes in
    let is : a.trace ++ [] ≡ a.trace = append-nil a.trace in
    λ i. record { vol = a.vol; outcomes = os i; trace = is i }

-- ---- a rule, where it is enabled
module _ (e : Env) (kind i : ℕ) (v : Volatile) {on : Bool} (is : on ≡ is_enabled v.rest i) where
  pub is-off : not on ≡ true → activate_if_enabled e kind i v ≡ no_outcome v
  unfolding activate_if_enabled
  is-off h = rw (← is, not-true on h)

  pub is-on : not on ≡ false → activate_if_enabled e kind i v ≡ model.activate e i kind Auto v
  unfolding activate_if_enabled
  is-on h = rw (← is, not-false on h)

module _ (e : Env) (kind : ℕ) where
  pub no-rule : (v : Volatile) → activate_each e kind [] v ≡ no_outcome v
  unfolding activate_each
  no-rule v = refl

  pub one-rule : (i : ℕ) (v : Volatile) → activate_each e kind (i ∷ []) v ≡ activate_if_enabled e kind i v
  unfolding activate_each
  one-rule i v = then-none (activate_if_enabled e kind i v)

  each_append : (xs ys : List ℕ) (v : Volatile) → activate_each e kind (xs ++ ys) v ≡ and_then (activate_each e kind xs v) (λ w. activate_each e kind ys w)
  unfolding activate_each
  each_append [] ys v = refl
  each_append (i ∷ xs) ys v =
      let a = activate_if_enabled e kind i v in
      ap (λ (y : Handled). record { vol = y.vol; outcomes = a.outcomes ++ y.outcomes; trace = a.trace ++ y.trace }) (each_append xs ys a.vol)
      ∙ sym (then-assoc a (λ w. activate_each e kind xs w) (λ w. activate_each e kind ys w))

  -- the rules of some items, from item j on
  module _ {A : Type 0} (f : A → List ℕ) (xs : List A) where
    unfoldable pub each_left : ℕ → Volatile → Handled
    each_left j v = activate_each e kind (flatten (map f (drop j xs))) v

    pub each-turns : (j : ℕ) (d : A) (v : Volatile) → j < length xs → each_left j v ≡ and_then (activate_each e kind (f (get_or xs j d)) v) (each_left (j + 1))
    unfolding each_left
    each-turns j d v h = rw (add-one, drop-cons xs j d h) (each_append (f (get_or xs j d)) (flatten (map f (drop (suc j) xs))) v)

    pub each-ends : (j : ℕ) (v : Volatile) → length xs ≤ j → each_left j v ≡ no_outcome v
    unfolding each_left activate_each
    each-ends j v h = rw (drop_of_length-le xs {i = j} h)

-- ---- continuations, from record j on
module _ (e : Env) (cs : List Pending) where
  unfoldable pub resume_left : ℕ → Volatile → Handled
  resume_left j v = resume_all e (drop j cs) v

  pub resume-turns : (j : ℕ) (d : Pending) (v : Volatile) → j < length cs → resume_left j v ≡ and_then (model.resume e (get_or cs j d) v) (resume_left (j + 1))
  unfolding resume_left resume_all
  resume-turns j d v h = rw (add-one, drop-cons cs j d h)

  pub resume-ends : (j : ℕ) (v : Volatile) → length cs ≤ j → resume_left j v ≡ no_outcome v
  unfolding resume_left resume_all
  resume-ends j v h = rw (drop_of_length-le cs {i = j} h)

-- ---- the rules that pass a test
keep-case : (b : Bool) (x : ℕ) (xs : List ℕ) → cond b (x ∷ xs) xs ≡ cond b (x ∷ []) [] ++ xs
keep-case true x xs = refl
keep-case false x xs = refl

pub keep-each : (p : ℕ → Bool) (xs : List ℕ) → keep p xs ≡ flatten (map (λ i. keep p (i ∷ [])) xs)
keep-each p [] = refl
keep-each p (x ∷ xs) = keep-case (p x) x (keep p xs) ∙ ap (λ (l : List ℕ). cond (p x) (x ∷ []) [] ++ l) (keep-each p xs)

-- ---- by a timer, and by a slot
module _ (e : Env) (img : List ℕ) (timer i : ℕ) (v : Volatile) {on : Bool} (is : on ≡ any (fires_on timer) (triggers_of img i)) where
  pub fires-off : not on ≡ true → activate_each e by_timer (keep (on_timer img timer) (i ∷ [])) v ≡ no_outcome v
  unfolding on_timer
  fires-off h = rw (← is, not-true on h) (no-rule e by_timer v)

  pub fires-on : not on ≡ false → activate_each e by_timer (keep (on_timer img timer) (i ∷ [])) v ≡ activate_if_enabled e by_timer i v
  unfolding on_timer
  fires-on h = rw (← is, not-false on h) (one-rule e by_timer i v)

pub timer-rules : (e : Env) (img order : List ℕ) (timer : ℕ) → Ordered img order → {n : ℕ} {x : Carried} {ow ew : List ℕ} {r : Carried} {ow' ew' : List ℕ}
    → Fires n (activate_each e by_timer (flatten (map (λ i. keep (on_timer img timer) (i ∷ [])) order))) x ow ew r ow' ew'
    → Fires n (activate_each e by_timer (rules_on_timer img timer)) x ow ew r ow' ew'
unfolding rules_on_timer on_timer
timer-rules e img order timer o {n} {x} {ow} {ew} {r} {ow'} {ew'} f =
    let p = λ (i : ℕ). any (fires_on timer) (triggers_of img i) in
    subst (λ (l : List ℕ). Fires n (activate_each e by_timer l) x ow ew r ow' ew') (sym (keep-each p order) ∙ ap (keep p) o) f

module _ (e : Env) (img : List ℕ) (x : EverySlot) where
  pub slot_of : (i : ℕ) (v : Volatile) → rule_named img x.rule ≡ Some i → activate_each e by_every (rules_of_slot img x) v ≡ activate_if_enabled e by_every i v
  slot_of i v h = rw h (one-rule e by_every i v)

  pub slot-none : (v : Volatile) → rule_named img x.rule ≡ None → activate_each e by_every (rules_of_slot img x) v ≡ no_outcome v
  slot-none v h = rw h (no-rule e by_every v)
