-- What each kind of step is, by what the code finds. At variables, so that the definitions open here and nowhere else.
-- Assumes nothing.
use Prim.Native.Nat.{ℕ, ◌+◌}
use mathlib.Core.Path.{◌≡◌, refl, subst, ◌∙◌}
use mathlib.Core.List.{List}
use Rattle.std.specs.Prelude.{Option, None, Some}
use Rattle.model.specs.Actions as actions
use Rattle.model.specs.declared.Job.{Job}
use Rattle.model.specs.Eval.{condition_at}
use Rattle.model.specs.Exec as model
use Rattle.model.specs.Exec.{after_prim, run_branch, exec, schedule, advance, enter_then, body_start}
use Rattle.model.specs.State.{Env}
use Rattle.model.specs.declared.Point.{Point}
use Rattle.model.specs.declared.Step.TheVariants.{Primitive, Branch, Fail}
use Rattle.state.specs.Meaning.{Means, meaning, base}
use Rattle.exec.specs.Results.{Does}
use Rattle.exec.specs.Paid.{Steps}
use Rattle.exec.specs.Done.{ActionDone, StepDone, counted, effect_of, reason_of}

pub steps-as : {v : List ℕ} {r : StepDone} {a b : model.StepResult} → Steps v r a → a ≡ b → Steps v r b
steps-as {v} {r} d e = subst (λ (x : model.StepResult). Steps v r x) e d

-- what an action did
pub after-does :
    (v w : List ℕ) (a : ActionDone) (x : actions.PrimResult) (to : Point) → Means w (base a.vol) (counted a.answer (meaning a.vol)) → Does v a x
    → Steps v (record { vol = w; effect = effect_of a.answer; reason = reason_of a.answer; next = Some to }) (after_prim x.disables x to (meaning v))
unfolding after_prim
after-does v w a x to m d = go x.disables refl
  where
    go : (o : Option ℕ) → x.disables ≡ o → Steps v (record { vol = w; effect = effect_of a.answer; reason = reason_of a.answer; next = Some to }) (after_prim o x to (meaning v))
    go None e = record { state = record { says = m.says ∙ rw e at d.state; based = m.based ∙ d.based }; effect = d.effect; reason = d.reason; next = refl }
    go (Some q) e = record { state = record { says = m.says ∙ rw e at d.state; based = m.based ∙ d.based }; effect = d.effect; reason = d.reason; next = refl }

module _ (e : Env) (j : Job) (b : ℕ) (sp to : Point) (v : List ℕ) where
  pub primitive-is : (i : ℕ) → to ≡ advance sp 0 → (let a = actions.prim_at e j (meaning v).rest i in after_prim a.disables a to (meaning v)) ≡ exec e j b sp (Primitive i) (meaning v)
  unfolding exec
  primitive-is i t = rw t

  pub fail-is : to ≡ advance sp 0 → (let a = actions.fails (meaning v).rest in after_prim a.disables a to (meaning v)) ≡ exec e j b sp Fail (meaning v)
  unfolding exec actions.fails
  fail-is t = rw t

  module _ (c t n : ℕ) where
    pub neither-is : None ≡ condition_at e (meaning v).rest c → to ≡ advance sp (t + n) → (let a = actions.fails (meaning v).rest in after_prim a.disables a to (meaning v)) ≡ exec e j b sp (Branch c t n) (meaning v)
    unfolding exec run_branch actions.fails
    neither-is h p = rw (← h, p)
