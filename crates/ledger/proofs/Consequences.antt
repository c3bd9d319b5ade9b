-- What follows from the claim alone, in plain numbers: effects with each outcome, reason 2, the waits of a flat list and of the bodies beside it,
-- and the steps of a list that nests nothing or only afters.
use mathlib.Core.Path.{◌≡◌, refl, sym, ◌∙◌, ap, ap₂, subst}
use mathlib.Core.Logic.{◌⊎◌, inl, inr}
use Prim.Native.Nat.{ℕ, suc, ◌+◌, ◌≤◌}
use native.Mathlib.Omega.{arith}
use mathlib.Core.Bool.{Bool, true, false, ◌&&◌, ◌||◌, false≢true}
use mathlib.Core.List.{List, [], ◌∷◌, ◌++◌, map, nil≢cons, cons≢nil, head-eq_of_cons-eq, tail-eq_of_cons-eq}
use Rattle.std.specs.Prelude.{Option, None, Some}
use Rattle.std.proofs.lemmas.Option.{none-some, same_Some}
use borrow.Author.Tests.{leb-true}
use lib.ListN.{length, length-append}
use Rattle.model.specs.Lists.{to_list, all}
use Rattle.model.specs.Image.{budget}
use Rattle.model.specs.declared.Point.{Point}
use Rattle.model.specs.declared.Step.{Step}
use Rattle.model.specs.declared.Step.TheVariants.{Primitive, Wait, Branch, After, Fail}
use Rattle.model.specs.declared.FlowAction.{FlowAction}
use Rattle.model.specs.declared.FlowAction.TheVariants.{Wait as WaitAction, After as AfterAction, Call, Repeat, Conditional, Plain}
use Rattle.model.specs.Outcome.{Outcome, Item, started, resumed, aborted, paid}
use Rattle.model.specs.Steps.{FlatStep, plain, steps_of}
use Rattle.model.specs.State.{RuleSet}
use Rattle.ledger.specs.Trace.{effects_in, RunOf, ended, exhausted, waits, continues, ActivationsOf, no_more, activation, unevaluable, TraceOf, activations, resumption}
use Rattle.ledger.specs.FlatForm.{flow_at, nested, Context, ListForm, at-end, action, cut_off, ActionForm, is_plain, is-wait, is-after, after-in-after, is_call, call-past-limit, call-unknown, is-repeat, repeat-refused, is-branch, branch-in-branch}
use Rattle.ledger.proofs.ListLaws.{and_l, and_r, and_from}
use Rattle.ledger.proofs.Reasons.{is_drop, drops_one, reason-two}

-- EFFECTS WITH EACH OUTCOME --------------------------------------------------------------------------------------------------------
-- the effects of the paid steps up to the next beginning; and of each beginning
abbrev pub own : List Item → ℕ
own [] = 0
own (started r ∷ ms) = 0
own (resumed c ∷ ms) = 0
own (aborted r ∷ ms) = 0
own (paid x s g ∷ ms) = length (to_list g) + own ms

abbrev pub counts : List Item → List ℕ
counts [] = []
counts (started r ∷ ms) = own ms ∷ counts ms
counts (resumed c ∷ ms) = own ms ∷ counts ms
counts (aborted r ∷ ms) = own ms ∷ counts ms
counts (paid x s g ∷ ms) = counts ms

run-own : {set : RuleSet} {i b reason : ℕ} {sp : Point} {ms : List Item} (rest : List Item) → RunOf set i b sp ms reason → own (ms ++ rest) ≡ length (effects_in ms) + own rest
run-own rest (ended h) = omega arith
run-own rest (exhausted h) = omega arith
run-own rest (waits h) = omega arith
run-own rest (continues {g = g} {ms = ms} q h r to w) = let i = run-own rest w in let l = length-append (to_list g) (effects_in ms) in omega arith

run-counts : {set : RuleSet} {i b reason : ℕ} {sp : Point} {ms : List Item} (rest : List Item) → RunOf set i b sp ms reason → counts (ms ++ rest) ≡ counts rest
run-counts rest (ended h) = refl
run-counts rest (exhausted h) = refl
run-counts rest (waits h) = refl
run-counts rest (continues q h r to w) = run-counts rest w

own-none : {set : RuleSet} {ms : List Item} {os : List Outcome} → ActivationsOf set ms os → own ms ≡ 0
own-none no_more = refl
own-none (activation w p) = refl
own-none (unevaluable i p) = refl

own-none-first : {set : RuleSet} {ms : List Item} {os : List Outcome} → TraceOf set ms os → own ms ≡ 0
own-none-first (activations p) = own-none p
own-none-first (resumption w p) = refl

abbrev pub effect_count : Outcome → ℕ
effect_count o = length o.effects

activations-count : {set : RuleSet} {ms : List Item} {os : List Outcome} → ActivationsOf set ms os → map effect_count os ≡ counts ms
activations-count no_more = refl
activations-count (activation {ms = ms} {rest = rest} w p) =
    let o = run-own rest w in
    let z = own-none p in
    let e : length (effects_in ms) ≡ own (ms ++ rest) = omega arith in
    ap₂ ◌∷◌ e (activations-count p ∙ sym (run-counts rest w))
activations-count (unevaluable i p) = ap₂ ◌∷◌ (sym (own-none p)) (activations-count p)

pub trace-count : {set : RuleSet} {ms : List Item} {os : List Outcome} → TraceOf set ms os → map effect_count os ≡ counts ms
trace-count (activations p) = activations-count p
trace-count (resumption {ms = ms} {rest = rest} w p) =
    let o = run-own rest w in
    let z = own-none-first p in
    let e : length (effects_in ms) ≡ own (ms ++ rest) = omega arith in
    ap₂ ◌∷◌ e (trace-count p ∙ sym (run-counts rest w))

-- REASON 2 OF A WET RUN'S OUTCOME ----------------------------------------------------------------------------------------------------
abbrev pub first_reason_in : List Outcome → ℕ
first_reason_in [] = 0
first_reason_in (o ∷ os) = o.reason

drops-front : (ms rest : List Item) → drops_one ms ≡ true → drops_one (ms ++ rest) ≡ true
drops-front [] rest h = absurd (false≢true h)
drops-front (started r ∷ ms) rest h = drops-front ms rest h
drops-front (resumed r ∷ ms) rest h = drops-front ms rest h
drops-front (aborted r ∷ ms) rest h = drops-front ms rest h
drops-front (paid x s g ∷ ms) rest h = go (is_drop s) (drops_one ms) (drops_one (ms ++ rest)) h (drops-front ms rest)
  where
    go : (a b c : Bool) → a || b ≡ true → (b ≡ true → c ≡ true) → a || c ≡ true
    go true b c h k = refl
    go false b c h k = k h

pub run-reason : {set : RuleSet} {ms : List Item} {os : List Outcome} → ActivationsOf set ms os → first_reason_in os ≡ 2 → (drops_one ms ≡ true) ⊎ (budget set.image ≤ length ms)
run-reason no_more e = absurd (omega arith)
run-reason {set} (activation {ms = ms} {rest = rest} w p) e = go (reason-two w e)
  where
    go : (drops_one ms ≡ true) ⊎ (length ms ≡ budget set.image) → (drops_one (ms ++ rest) ≡ true) ⊎ (budget set.image ≤ suc (length (ms ++ rest)))
    go (inl h) = inl (drops-front ms rest h)
    go (inr n) = inr (let l = length-append ms rest in omega arith)
run-reason (unevaluable i p) e = absurd (omega arith)

-- THE WAITS OF A FLAT LIST -----------------------------------------------------------------------------------------------------------
abbrev pub wait_step : Step → ℕ
wait_step (Primitive i) = 0
wait_step (Wait ms) = 1
wait_step (Branch c t n) = 0
wait_step (After ms) = 0
wait_step Fail = 1

-- waits, and Fails that may stand for them
abbrev pub wait_steps : List Step → ℕ
wait_steps [] = 0
wait_steps (x ∷ xs) = wait_step x + wait_steps xs

abbrev pub wait_action : FlowAction → ℕ
wait_action (WaitAction ms) = 1
wait_action (AfterAction ms f k) = 0
wait_action (Call b) = 0
wait_action (Repeat t f k) = 0
wait_action (Conditional q yf yk ef ek) = 0
wait_action Plain = 0

waits-append : (xs ys : List FlatStep) → wait_steps (steps_of (xs ++ ys)) ≡ wait_steps (steps_of xs) + wait_steps (steps_of ys)
waits-append [] ys = omega arith
waits-append (x ∷ xs) ys = let i = waits-append xs ys in omega arith

action-waits : {img : List ℕ} {p : Context} {n i : ℕ} {xs : List FlatStep} → ActionForm img p n i xs → wait_action (flow_at img i) ≤ wait_steps (steps_of xs)
action-waits (is_plain e) = let z = ap wait_action e in omega arith
action-waits (is-wait e) = let z = ap wait_action e in omega arith
action-waits (is-after e q h) = let z = ap wait_action e in omega arith
action-waits (after-in-after e q) = let z = ap wait_action e in omega arith
action-waits (is_call e d q h) = let z = ap wait_action e in omega arith
action-waits (call-past-limit e d) = let z = ap wait_action e in omega arith
action-waits (call-unknown e d q) = let z = ap wait_action e in omega arith
action-waits (is-repeat e q h c) = let z = ap wait_action e in omega arith
action-waits (repeat-refused e q) = let z = ap wait_action e in omega arith
action-waits (is-branch e q h g) = let z = ap wait_action e in omega arith
action-waits (branch-in-branch e q) = let z = ap wait_action e in omega arith

abbrev pub wait_actions : List ℕ → List ℕ → ℕ
wait_actions img [] = 0
wait_actions img (i ∷ is) = wait_action (flow_at img i) + wait_actions img is

abbrev pub no_fail : List Step → Bool
no_fail [] = true
no_fail (Primitive i ∷ xs) = no_fail xs
no_fail (Wait ms ∷ xs) = no_fail xs
no_fail (Branch c t n ∷ xs) = no_fail xs
no_fail (After ms ∷ xs) = no_fail xs
no_fail (Fail ∷ xs) = false

no-fail-behind : (x : Step) (xs : List Step) → no_fail (x ∷ xs) ≡ true → no_fail xs ≡ true
no-fail-behind (Primitive i) xs h = h
no-fail-behind (Wait ms) xs h = h
no-fail-behind (Branch c t n) xs h = h
no-fail-behind (After ms) xs h = h
no-fail-behind Fail xs h = absurd (false≢true h)

no-fail-back : (xs ys : List FlatStep) → no_fail (steps_of (xs ++ ys)) ≡ true → no_fail (steps_of ys) ≡ true
no-fail-back [] ys h = h
no-fail-back (x ∷ xs) ys h = no-fail-back xs ys (no-fail-behind x.step (steps_of (xs ++ ys)) h)

-- where nothing failed, every wait of the list is a wait of its flat form
pub list-waits : {img is : List ℕ} {p : Context} {n : ℕ} {xs : List FlatStep} → ListForm img p n is xs → no_fail (steps_of xs) ≡ true → wait_actions img is ≤ wait_steps (steps_of xs)
list-waits at-end h = omega arith
list-waits (action {xs = xs} {ys = ys} u a q) h =
    let w = action-waits a in
    let b = list-waits q (no-fail-back xs ys h) in
    let e = waits-append xs ys in
    omega arith
list-waits (cut_off u) h = absurd (false≢true h)

-- THE WAITS OF AN AFTER'S BODY ---------------------------------------------------------------------------------------------------------
abbrev pub no_fails : List FlatStep → Bool
no_fails [] = true
no_fails (x ∷ xs) = no_fail (x.step ∷ x.body) && no_fails xs

-- in the bodies beside the steps of a list
abbrev pub body_waits : List FlatStep → ℕ
body_waits [] = 0
body_waits (x ∷ xs) = wait_steps x.body + body_waits xs

-- in the lists that the afters of a list hold
abbrev pub nested_wait : List ℕ → ℕ → FlowAction → ℕ
nested_wait img i (WaitAction ms) = 0
nested_wait img i (AfterAction ms f k) = wait_actions img (nested img i f k)
nested_wait img i (Call b) = 0
nested_wait img i (Repeat t f k) = 0
nested_wait img i (Conditional q yf yk ef ek) = 0
nested_wait img i Plain = 0

abbrev pub nested_waits : List ℕ → List ℕ → ℕ
nested_waits img [] = 0
nested_waits img (i ∷ is) = nested_wait img i (flow_at img i) + nested_waits img is

pub steps-plain : (xs : List Step) → steps_of (map plain xs) ≡ xs
steps-plain [] = refl
steps-plain (x ∷ xs) = ap (λ ys. x ∷ ys) (steps-plain xs)

body-waits-append : (xs ys : List FlatStep) → body_waits (xs ++ ys) ≡ body_waits xs + body_waits ys
body-waits-append [] ys = omega arith
body-waits-append (x ∷ xs) ys = let i = body-waits-append xs ys in omega arith

no-fails-append : (xs ys : List FlatStep) → no_fails (xs ++ ys) ≡ true → (no_fails xs ≡ true) × (no_fails ys ≡ true)
no-fails-append [] ys h = (refl, h)
no-fails-append (x ∷ xs) ys h =
    let i = no-fails-append xs ys (and_r (no_fail (x.step ∷ x.body)) _ h) in (and_from (no_fail (x.step ∷ x.body)) _ (and_l _ _ h) i.0, i.1)

action-body-waits : {img : List ℕ} {p : Context} {n i : ℕ} {xs : List FlatStep} → ActionForm img p n i xs → no_fails xs ≡ true → nested_wait img i (flow_at img i) ≤ body_waits xs
action-body-waits {img} {i = i} (is_plain e) h = let z = ap (nested_wait img i) e in omega arith
action-body-waits {img} {i = i} (is-wait e) h = let z = ap (nested_wait img i) e in omega arith
action-body-waits {img} {i = i} (is-after {xs = xs} e q g) h =
    let z = ap (nested_wait img i) e in
    let s = steps-plain xs in
    let b = list-waits g (subst (λ ys. no_fail ys ≡ true) (sym s) (and_l (no_fail xs) true h)) in
    let w = ap wait_steps s in
    omega arith
action-body-waits (after-in-after e q) h = absurd (false≢true h)
action-body-waits {img} {i = i} (is_call e d q g) h = let z = ap (nested_wait img i) e in omega arith
action-body-waits (call-past-limit e d) h = absurd (false≢true h)
action-body-waits (call-unknown e d q) h = absurd (false≢true h)
action-body-waits {img} {i = i} (is-repeat e q g c) h = let z = ap (nested_wait img i) e in omega arith
action-body-waits (repeat-refused e q) h = absurd (false≢true h)
action-body-waits {img} {i = i} (is-branch e q g f) h = let z = ap (nested_wait img i) e in omega arith
action-body-waits (branch-in-branch e q) h = absurd (false≢true h)

-- where nothing failed, every wait of an after's list is a wait of its body
pub list-body-waits : {img is : List ℕ} {p : Context} {n : ℕ} {xs : List FlatStep} → ListForm img p n is xs → no_fails xs ≡ true → nested_waits img is ≤ body_waits xs
list-body-waits at-end h = omega arith
list-body-waits (action {xs = xs} {ys = ys} u a q) h =
    let n = no-fails-append xs ys h in
    let w = action-body-waits a n.0 in
    let b = list-body-waits q n.1 in
    let e = body-waits-append xs ys in
    omega arith
list-body-waits (cut_off u) h = absurd (false≢true h)

-- LISTS OF PLAIN ACTIONS AND WAITS ALONE ---------------------------------------------------------------------------------------------
-- the step that is the action of record i, if it nests nothing
abbrev pub own_step : ℕ → FlowAction → Option Step
own_step i Plain = Some (Primitive i)
own_step i (WaitAction ms) = Some (Wait ms)
own_step i (AfterAction ms f k) = None
own_step i (Call b) = None
own_step i (Repeat t f k) = None
own_step i (Conditional q yf yk ef ek) = None

none-and-some : {A : Type 0} {B : Type 0} {x : A} {o : Option A} → o ≡ None → o ≡ Some x → B
none-and-some {x = x} u v = absurd (none-some x (sym u ∙ v))

own-action : {img : List ℕ} {p : Context} {n i : ℕ} {s : Step} {xs : List FlatStep} → ActionForm img p n i xs → own_step i (flow_at img i) ≡ Some s → xs ≡ plain s ∷ []
own-action {i = i} {s = s} (is_plain e) o = ap (λ x. plain x ∷ []) (same_Some _ s (sym (ap (own_step i) e) ∙ o))
own-action {i = i} {s = s} (is-wait e) o = ap (λ x. plain x ∷ []) (same_Some _ s (sym (ap (own_step i) e) ∙ o))
own-action {i = i} (is-after e q h) o = none-and-some (ap (own_step i) e) o
own-action {i = i} (after-in-after e q) o = none-and-some (ap (own_step i) e) o
own-action {i = i} (is_call e d q h) o = none-and-some (ap (own_step i) e) o
own-action {i = i} (call-past-limit e d) o = none-and-some (ap (own_step i) e) o
own-action {i = i} (call-unknown e d q) o = none-and-some (ap (own_step i) e) o
own-action {i = i} (is-repeat e q h c) o = none-and-some (ap (own_step i) e) o
own-action {i = i} (repeat-refused e q) o = none-and-some (ap (own_step i) e) o
own-action {i = i} (is-branch e q h g) o = none-and-some (ap (own_step i) e) o
own-action {i = i} (branch-in-branch e q) o = none-and-some (ap (own_step i) e) o

-- of such a list that fits behind the steps before it the steps are its own, in order: no cut, no Fail
pub own-steps : {img is : List ℕ} {p : Context} {n : ℕ} {xs : List FlatStep} → ListForm img p n is xs → (ss : List Step)
    → map (λ i. own_step i (flow_at img i)) is ≡ map Some ss → n + length is ≤ 256 → xs ≡ map plain ss
own-steps at-end [] e h = refl
own-steps at-end (s ∷ ss) e h = absurd (nil≢cons e)
own-steps (action u a q) [] e h = absurd (cons≢nil e)
own-steps (action {xs = xs} {ys = ys} u a q) (s ∷ ss) e h =
    let o = own-action a (head-eq_of_cons-eq e) in
    let c = ap length o in
    ap₂ (λ (x y : List FlatStep). x ++ y) o (own-steps q ss (tail-eq_of_cons-eq e) (omega arith))
own-steps (cut_off {n = n} u) ss e h = let t = leb-true 256 n u in absurd (omega arith)

-- LISTS OF PLAIN ACTIONS, WAITS AND AFTERS ---------------------------------------------------------------------------------------------
-- an action that is one step of the list around it
abbrev pub is_one_step : FlowAction → Bool
is_one_step Plain = true
is_one_step (WaitAction ms) = true
is_one_step (AfterAction ms f k) = true
is_one_step (Call b) = false
is_one_step (Repeat t f k) = false
is_one_step (Conditional q yf yk ef ek) = false

one-step : {img : List ℕ} {p : Context} {n i : ℕ} {xs : List FlatStep} → ActionForm img p n i xs → is_one_step (flow_at img i) ≡ true → length xs ≡ 1
one-step (is_plain e) o = refl
one-step (is-wait e) o = refl
one-step (is-after e q h) o = refl
one-step (after-in-after e q) o = refl
one-step (is_call e d q h) o = absurd (false≢true (sym (ap is_one_step e) ∙ o))
one-step (call-past-limit e d) o = refl
one-step (call-unknown e d q) o = refl
one-step (is-repeat e q h c) o = absurd (false≢true (sym (ap is_one_step e) ∙ o))
one-step (repeat-refused e q) o = refl
one-step (is-branch e q h g) o = absurd (false≢true (sym (ap is_one_step e) ∙ o))
one-step (branch-in-branch e q) o = refl

-- such a list that fits behind the steps before it has as many steps as actions: the bodies of its afters are no steps of it
pub one-step-each : {img is : List ℕ} {p : Context} {n : ℕ} {xs : List FlatStep} → ListForm img p n is xs → all (λ i. is_one_step (flow_at img i)) is ≡ true
    → n + length is ≤ 256 → length xs ≡ length is
one-step-each at-end o h = refl
one-step-each {img} (action {i = i} {xs = xs} {ys = ys} u a q) o h =
    let c = one-step a (and_l _ _ o) in
    let r = one-step-each q (and_r (is_one_step (flow_at img i)) _ o) (omega arith) in
    let l = length-append xs ys in
    omega arith
one-step-each (cut_off {n = n} u) o h = let t = leb-true 256 n u in absurd (omega arith)
