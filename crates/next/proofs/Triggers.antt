-- How many minutes on a trigger is, and a rule by its triggers. Assumes nothing.
use mathlib.Core.Path.{◌≡◌, refl, sym, ap, ◌∙◌}
use mathlib.Core.Bool.{Bool, false, ◌&&◌}
use mathlib.Core.List.{List, [], ◌∷◌, map}
use Rattle.std.specs.Prelude.{Option, None, Some}
use Rattle.std.specs.List.{fold}
use Prim.Native.Nat.{ℕ, zero, suc, ◌+◌, ◌*◌, ◌%◌}
use lib.Dec.{eqb}
use native.Mathlib.Omega.{arith}
use lib.ListN.{get_or}
use borrow.Author.Tests.{eq-eqb, ne_eqb}
use Rattle.model.specs.Eval.{solar_of}
use Rattle.model.specs.Lists.{any}
use Rattle.model.specs.Rules.{triggers_of}
use Rattle.model.specs.World.{is_one}
use Rattle.model.specs.declared.SunTimes.{SunTimes}
use Rattle.model.specs.declared.SolarEvent.{SolarEvent}
use Rattle.model.specs.declared.Trigger.{Trigger}
use Rattle.model.specs.declared.Trigger.TheVariants.{TimerFires, Every, AtTime, AtSolar, Other}
use Rattle.next.specs.NextStart.{first_from, on_days, stands_at, due_in, starts_in}
use Rattle.next.specs.Distance.{within}
use Rattle.next.proofs.First.{never, same_first}
use Rattle.next.proofs.Least.{within-none, sooner, least-running}

bit_at : (bits : List ℕ) (i : ℕ) → get_or (map is_one bits) i false ≡ eqb (get_or bits i 0) 1
bit_at [] i = refl
bit_at (b ∷ bits) zero = refl
bit_at (b ∷ bits) (suc i) = bit_at bits i

module _ (sun : Option SunTimes) (t : ℕ) where
  -- the minutes to a trigger
  abbrev pub minutes_to : Trigger → Option ℕ
  minutes_to x = within (first_from (λ m. due_in sun t x m) 1 10080)

  at-no-time : (x : Trigger) → ((m : ℕ) → due_in sun t x m ≡ false) → None ≡ minutes_to x
  at-no-time x h =
      let e : 10081 ≡ first_from (λ m. due_in sun t x m) 1 10080 = never (λ m. due_in sun t x m) 1 10080 h in
      sym (within-none 10081 (omega arith)) ∙ ap within e

  pub timer : (x : ℕ) → None ≡ minutes_to (TimerFires x)
  unfolding due_in stands_at
  timer x = at-no-time (TimerFires x) (λ k. refl)

  pub slot : (ms : ℕ) → None ≡ minutes_to (Every ms)
  unfolding due_in stands_at
  slot ms = at-no-time (Every ms) (λ k. refl)

  pub other : None ≡ minutes_to Other
  unfolding due_in stands_at
  other = at-no-time Other (λ k. refl)

  pub at-time : (h minute days : ℕ) {r : Option ℕ} → r ≡ within (first_from (λ m. on_days ((t + m) % 10080) days (h * 60 + minute)) 1 10080) → r ≡ minutes_to (AtTime h minute days)
  unfolding due_in stands_at
  at-time h minute days e = e

  pub at-sun : (event : SolarEvent) (offset : ℕ) {s : SunTimes} {r : Option ℕ} → sun ≡ Some s → r ≡ within (first_from (λ m. on_days ((t + m) % 10080) 127 (solar_of s event offset)) 1 10080) → r ≡ minutes_to (AtSolar event offset)
  unfolding due_in stands_at
  at-sun event offset h e = rw h e

  pub no-sun : (event : SolarEvent) (offset : ℕ) → sun ≡ None → None ≡ minutes_to (AtSolar event offset)
  unfolding due_in stands_at
  no-sun event offset h = at-no-time (AtSolar event offset) (λ k. rw h)

  -- a rule whose word is not 1, and one whose word is
  module _ (img bits : List ℕ) (i : ℕ) where
    abbrev pub minutes_of : Option ℕ
    minutes_of = within (first_from (starts_in img (map is_one bits) sun t i) 1 10080)

    pub off : (get_or bits i 0 ≡ 1 → ⊥) → None ≡ minutes_of
    unfolding starts_in
    off h =
        let bit = bit_at bits i ∙ ne_eqb (get_or bits i 0) 1 h in
        let e : 10081 ≡ first_from (starts_in img (map is_one bits) sun t i) 1 10080 = never (starts_in img (map is_one bits) sun t i) 1 10080 (λ k. ap (λ (b : Bool). b && any (λ x. due_in sun t x k) (triggers_of img i)) bit) in
        sym (within-none 10081 (omega arith)) ∙ ap within e

    pub on : get_or bits i 0 ≡ 1 → within (fold (sooner (due_in sun t)) 10081 (triggers_of img i)) ≡ minutes_of
    unfolding starts_in
    on h =
        least-running (due_in sun t) (triggers_of img i)
        ∙ ap within
        (same_first (λ m. any (λ x. due_in sun t x m) (triggers_of img i)) (starts_in img (map is_one bits) sun t i) 1 10080
        (λ k. ap (λ (b : Bool). b && any (λ x. due_in sun t x k) (triggers_of img i)) (sym (bit_at bits i ∙ eq-eqb (get_or bits i 0) 1 h))))
