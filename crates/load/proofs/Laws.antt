-- What the answers of the checks of an image say together.
use mathlib.Core.Path.{◌≡◌, refl, sym, ◌∙◌}
use mathlib.Core.Bool.{Bool, true, false, not, cond}
use Rattle.std.specs.Prelude.{Ok, Err}
use mathlib.Core.List.{List}
use Prim.Native.Nat.{ℕ}
use native.Mathlib.Omega.{arith}
use Rattle.model.specs.Field.{unless}
use Rattle.model.specs.Image.{image_sized, limits_fit, places_fit, tables_pass, names_differ, few_enough}
use Rattle.model.specs.Flat.{Flattened, flatten_rules, too_many_steps}
use Rattle.model.specs.declared.Refusal.{Refusal}
use Rattle.model.specs.declared.Refusal.TheVariants.{FlatSteps}
use Rattle.model.specs.Load.{tables_refusal, image_refusal_with, image_refusal}
use Rattle.model.proofs.Bools.{not-refused}
use Rattle.flat.specs.Load.{Checked, loaded}

-- 10 to 15 passed give what flattening asks
pub checked : (img : List ℕ) → tables_refusal img 0 ≡ 0 → Checked img
unfolding tables_refusal
checked img e =
    let (a, r) = not-refused (image_sized img) 9 _ e in
    let (b, s) = not-refused (limits_fit img) 10 _ r in
    let (c, t) = not-refused (places_fit img) 11 _ s in
    let (_, u) = not-refused (tables_pass img false) 12 _ t in
    let (d, _) = not-refused (tables_pass img true) 13 _ u in
    record { sized = a; limited = b; placed = c; linked = d }

-- SIX CHECKS -----------------------------------------------------------------------------------------------------------------------
-- what stands behind the six is the answer exactly where they answer 0
abbrev six : Bool → Bool → Bool → Bool → Bool → Bool → ℕ → ℕ
six a b c d e f rest = unless a 10 (unless b 11 (unless c 12 (unless d 13 (unless e 14 (unless f 15 rest)))))

six-passed : (a b c d e f : Bool) (rest : ℕ) → six a b c d e f 0 ≡ 0 → six a b c d e f rest ≡ rest
six-passed true true true true true true rest e = refl
six-passed true true true true true false rest e = absurd (omega arith)
six-passed true true true true false f rest e = absurd (omega arith)
six-passed true true true false e f rest h = absurd (omega arith)
six-passed true true false d e f rest h = absurd (omega arith)
six-passed true false c d e f rest h = absurd (omega arith)
six-passed false b c d e f rest h = absurd (omega arith)

six-failed : (a b c d e f : Bool) (rest n : ℕ) → n ≡ six a b c d e f 0 → (n ≡ 0 → ⊥) → n ≡ six a b c d e f rest
six-failed true true true true true true rest n e h = absurd (h e)
six-failed true true true true true false rest n e h = e
six-failed true true true true false f rest n e h = e
six-failed true true true false e' f rest n e h = e
six-failed true true false d e' f rest n e h = e
six-failed true false c d e' f rest n e h = e
six-failed false b c d e' f rest n e h = e

pub tables-refuse : (img : List ℕ) (n : ℕ) → n ≡ tables_refusal img 0 → (n ≡ 0 → ⊥) → n ≡ image_refusal img
unfolding tables_refusal image_refusal_with image_refusal
tables-refuse img n e h =
    six-failed (image_sized img) (limits_fit img) (places_fit img) (tables_pass img false) (tables_pass img true) (names_differ img) _ n e h

pub tables-pass : (img : List ℕ) (r : ℕ) → tables_refusal img 0 ≡ 0 → r ≡ unless (not (too_many_steps (flatten_rules img))) 16 (unless (few_enough img) 17 0) → r ≡ image_refusal img
unfolding tables_refusal image_refusal_with image_refusal
tables-pass img r e h =
    h ∙ sym (six-passed (image_sized img) (limits_fit img) (places_fit img) (tables_pass img false) (tables_pass img true) (names_differ img) _ e)

-- 16 --------------------------------------------------------------------------------------------------------------------------------
over-case : (b : Bool) (n rest : ℕ) (refusal : Refusal) → Err refusal ≡ cond b (Err FlatSteps) (Ok n) → (refusal ≡ FlatSteps) × (16 ≡ unless (not b) 16 rest)
over-case true n rest refusal e = (cc, refl)
over-case false n rest refusal e = cc

steps-case : (b : Bool) (n rest k : ℕ) → Ok k ≡ cond b (Err FlatSteps) (Ok n) → rest ≡ unless (not b) 16 rest
steps-case true n rest k e = cc
steps-case false n rest k e = refl

pub over : (fs : List Flattened) (rest : ℕ) (refusal : Refusal) → Err refusal ≡ loaded fs → (refusal ≡ FlatSteps) × (16 ≡ unless (not (too_many_steps fs)) 16 rest)
unfolding loaded
over fs rest refusal e = over-case (too_many_steps fs) _ rest refusal e

pub steps : (fs : List Flattened) (rest k : ℕ) → Ok k ≡ loaded fs → rest ≡ unless (not (too_many_steps fs)) 16 rest
unfolding loaded
steps fs rest k e = steps-case (too_many_steps fs) _ rest k e

-- 17 --------------------------------------------------------------------------------------------------------------------------------
pub few : (b few : Bool) → b ≡ few → b ≡ true → 0 ≡ unless few 17 0
few b f e t = rw (← e, t) refl

pub many : (b few : Bool) → b ≡ few → b ≡ false → 17 ≡ unless few 17 0
many b f e t = rw (← e, t) refl
