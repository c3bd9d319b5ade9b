-- What reason 2 means, by the claim alone: a wait or an after of the run was dropped, or all of its budget was paid.
use mathlib.Core.Path.{◌≡◌, refl, sym, ◌∙◌, ap}
use mathlib.Core.Logic.{◌⊎◌, inl, inr}
use Prim.Native.Nat.{ℕ, suc}
use native.Mathlib.Omega.{arith}
use mathlib.Core.Bool.{Bool, true, false, ◌||◌}
use mathlib.Core.List.{List, [], ◌∷◌}
use Rattle.std.specs.Prelude.{Option}
use lib.Dec.{eqb}
use lib.ListN.{length}
use Rattle.std.proofs.lemmas.Bool.{or_right}
use Rattle.model.specs.declared.Point.{Point}
use Rattle.model.specs.declared.Step.{Step}
use Rattle.model.specs.declared.Effect.{Effect}
use Rattle.model.specs.declared.Step.TheVariants.{Primitive, Wait, Branch, After, Fail}
use Rattle.model.specs.Outcome.{Report, plain, disables, defers, Item, started, resumed, aborted, paid}
use Rattle.model.specs.State.{RuleSet}
use Rattle.model.specs.Exec.{first_reason}
use Rattle.ledger.proofs.ListLaws.{by}
use Rattle.ledger.specs.Trace.{MayFail, reason_if, Reports, RunOf, ended, exhausted, waits, continues}

-- this item is a wait or an after that is dropped
abbrev pub is_drop : Report → Bool
is_drop plain = false
is_drop (disables q) = false
is_drop (defers d ms sp) = d

abbrev pub drops_one : List Item → Bool
drops_one [] = false
drops_one (started r ∷ ms) = drops_one ms
drops_one (resumed c ∷ ms) = drops_one ms
drops_one (aborted r ∷ ms) = drops_one ms
drops_one (paid x s g ∷ ms) = is_drop s || drops_one ms

-- a step that notes reason 2 is a drop
may_fail : {A : Type 0} (q : ℕ) → MayFail q → q ≡ 2 → A
may_fail q (inl z) e = absurd (omega arith)
may_fail q (inr z) e = absurd (omega arith)

of-drop : (d : Bool) → reason_if d ≡ 2 → d ≡ true
of-drop true e = refl
of-drop false e = absurd (omega arith)

step-drops : (set : RuleSet) (x : Step) (sp : Point) (s : Report) (g : Option Effect) (q : ℕ) → Reports set x sp s g q → q ≡ 2 → is_drop s ≡ true
step-drops set (Primitive i) sp s g q h e = may_fail q h.1 e
step-drops set (Wait ms) sp s g q h e = absurd h
step-drops set (After ms) sp s g q h e = ap is_drop h.1 ∙ of-drop h.0 (sym h.3 ∙ e)
step-drops set (Branch c t n) sp s g q h e = may_fail q h.2 e
step-drops set Fail sp s g q h e = absurd (let z = h.2 in omega arith)

first-is : (q r : ℕ) → first_reason q r ≡ 2 → (q ≡ 2) ⊎ (r ≡ 2)
first-is q r e = by (eqb q 0) (λ t. inr (rw t at e)) (λ f. inl (rw f at e))

pub reason-two : {set : RuleSet} {i b reason : ℕ} {sp : Point} {ms : List Item} → RunOf set i b sp ms reason → reason ≡ 2 → (drops_one ms ≡ true) ⊎ (length ms ≡ b)
reason-two (ended h) e = absurd (omega arith)
reason-two (exhausted h) e = inr refl
reason-two (waits {d = d} h) e = inl (rw (of-drop d e))
reason-two {set = set} (continues {b = b} {r = r} {sp = sp} {x = x} {s = s} {g = g} {ms = ms} q here h to w) e = pick (first-is q r e) (λ t. reason-two w t)
  where
    more : (drops_one ms ≡ true) ⊎ (length ms ≡ b) → (is_drop s || drops_one ms ≡ true) ⊎ (suc (length ms) ≡ suc b)
    more (inl t) = inl (or_right (is_drop s) (drops_one ms) t)
    more (inr n) = inr (ap suc n)

    pick : (q ≡ 2) ⊎ (r ≡ 2) → (r ≡ 2 → (drops_one ms ≡ true) ⊎ (length ms ≡ b)) → (is_drop s || drops_one ms ≡ true) ⊎ (suc (length ms) ≡ suc b)
    pick (inl t) ih = inl (rw (step-drops set x sp s g q h t))
    pick (inr t) ih = more (ih t)
