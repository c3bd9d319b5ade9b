-- What the next start is: of any image, bits, sun and minute, and of any store and world. Assumes nothing.
use mathlib.Core.Path.{◌≡◌, refl, sym, ap, subst, ◌∙◌}
use mathlib.Core.Bool.{Bool, true, false, false≢true}
use mathlib.Core.List.{List}
use Rattle.std.specs.Prelude.{Option, None, Some}
use Prim.Native.Nat.{ℕ, ◌≤◌, ◌<◌}
use native.Mathlib.Omega.{arith}
use lib.Dec.{leb}
use borrow.Author.Tests.{leb-true, leb-false}
use Rattle.model.specs.Image.{size_of}
use Rattle.model.specs.Lists.{any}
use Rattle.model.specs.Rows.{rules}
use Rattle.model.specs.Rules.{name_of, rule_indices}
use Rattle.model.specs.State.{RuleSet, Store}
use Rattle.model.specs.Wheel.{week_minute}
use Rattle.model.specs.World.{World}
use Rattle.model.specs.declared.WallTime.{WallTime}
use Rattle.model.specs.declared.SunTimes.{SunTimes}
use Rattle.next.proofs.BestStart.{made, made_same}
use Rattle.next.specs.NextStart.{FirstStart, NextStart, NoStart, ClockUnknown, Start, clock_known, first_from, starts_in, minutes_ahead, name_ahead, start_or_none, next_from, next_of_set, next_start}
use Rattle.next.proofs.First.{at_least, before, passes}
use Rattle.next.proofs.Lowest.{Named, none_passes, all-fail, lowest-least, lowest-named}

-- THE PARTS OF AN ANSWER ----------------------------------------------------------------------------------------------------------

minutes_of : NextStart → ℕ
minutes_of NoStart = 0
minutes_of ClockUnknown = 0
minutes_of (Start x) = x.minutes

rule_of : NextStart → ℕ
rule_of NoStart = 0
rule_of ClockUnknown = 0
rule_of (Start x) = x.name

is_start : NextStart → Bool
is_start NoStart = false
is_start ClockUnknown = false
is_start (Start x) = true

is_unknown : NextStart → Bool
is_unknown NoStart = false
is_unknown ClockUnknown = true
is_unknown (Start x) = false

took : (b : Bool) (m r m' r' : ℕ) → start_or_none b m r ≡ Some (made m' r') → (b ≡ true) × (m ≡ m') × (r ≡ r')
unfolding minutes_of rule_of is_start
took true m r m' r' e = (refl, ap (λ (o : Option FirstStart). minutes_of (clock_known o)) e, ap (λ (o : Option FirstStart). rule_of (clock_known o)) e)
took false m r m' r' e = absurd (false≢true (ap (λ (o : Option FirstStart). is_start (clock_known o)) e))

left : (b : Bool) (m r : ℕ) → start_or_none b m r ≡ None → b ≡ false
unfolding is_start
left true m r e = absurd (false≢true (sym (ap (λ (o : Option FirstStart). is_start (clock_known o)) e)))
left false m r e = refl

known-start : (o : Option FirstStart) (m r : ℕ) → clock_known o ≡ Start (made m r) → o ≡ Some (made m r)
unfolding minutes_of rule_of is_start
known-start None m r e = absurd (false≢true (ap is_start e))
known-start (Some x) m r e = ap (λ (y : FirstStart). Some y) (made_same x.minutes m x.name r (ap minutes_of e) (ap rule_of e))

known-none : (o : Option FirstStart) → clock_known o ≡ NoStart → o ≡ None
unfolding is_start
known-none None e = refl
known-none (Some x) e = absurd (false≢true (sym (ap is_start e)))

not-unknown : (o : Option FirstStart) → clock_known o ≡ ClockUnknown → ⊥
unfolding is_unknown
not-unknown None e = false≢true (ap is_unknown e)
not-unknown (Some x) e = false≢true (ap is_unknown e)

-- FROM A MINUTE OF THE WEEK ---------------------------------------------------------------------------------------------------------
module _ (img : List ℕ) (enabled : List Bool) (sun : Option SunTimes) (t : ℕ) where
  abbrev starts_at : ℕ → ℕ → Bool
  starts_at m i = starts_in img enabled sun t i m

  abbrev any_at : ℕ → Bool
  any_at m = any (starts_at m) (rule_indices img)

  -- 1: a rule of this name is enabled and due in m minutes, none in fewer, and none of a lower name in as many
  pub record IsNext (m r : ℕ) : Type 0 where
    pub first : 1 ≤ m
    pub last : m ≤ 10080
    pub starter : Named (starts_at m) (name_of img) 0 (size_of img rules) r
    pub none-sooner : (i k : ℕ) → i < size_of img rules → 1 ≤ k → k < m → starts_in img enabled sun t i k ≡ false
    pub none-lower : (i : ℕ) → i < size_of img rules → starts_in img enabled sun t i m ≡ true → r ≤ name_of img i

  is-next : minutes_ahead img enabled sun t ≤ 10080 → IsNext (minutes_ahead img enabled sun t) (name_ahead img enabled sun t (minutes_ahead img enabled sun t))
  unfolding minutes_ahead name_ahead
  is-next h =
      let m = first_from any_at 1 10080 in
      record {
        first = at_least any_at 1 10080;
        last = h;
        starter = lowest-named (starts_at m) (name_of img) 0 (size_of img rules) (passes any_at 1 10080 (omega arith));
        none-sooner = λ i k l a b. none_passes (starts_at k) 0 (size_of img rules) i (before any_at 1 10080 k a b) (omega arith) (omega arith);
        none-lower = λ i l e. lowest-least (starts_at m) (name_of img) 0 (size_of img rules) i (omega arith) (omega arith) e;
      }

  pub start-is-next : (m r : ℕ) → next_from img enabled sun t ≡ Some (made m r) → IsNext m r
  unfolding next_from
  start-is-next m r e =
      let a = minutes_ahead img enabled sun t in
      let x = took (leb a 10080) a (name_ahead img enabled sun t a) m r e in
      subst (λ (k : ℕ). IsNext k r) x.1 (subst (λ (k : ℕ). IsNext a k) x.2 (is-next (leb-true a 10080 x.0)))

  -- 2: none exactly where no enabled rule is due in any number of minutes up to a week
  abbrev pub NoneDue : Type 0
  NoneDue = (i m : ℕ) → i < size_of img rules → 1 ≤ m → m ≤ 10080 → starts_in img enabled sun t i m ≡ false

  pub none-is-due : next_from img enabled sun t ≡ None → NoneDue
  unfolding next_from minutes_ahead
  none-is-due e i m l a b =
      let first = first_from any_at 1 10080 in
      let far = leb-false first 10080 (left (leb first 10080) first (name_ahead img enabled sun t first) e) in
      none_passes (starts_at m) 0 (size_of img rules) i (before any_at 1 10080 m a (omega arith)) (omega arith) (omega arith)

  none_left : (b : Bool) (m r : ℕ) → leb m 10080 ≡ b → (m ≤ 10080 → ⊥) → start_or_none b m r ≡ None
  none_left true m r e h = absurd (h (leb-true m 10080 e))
  none_left false m r e h = refl

  pub none-due-none : NoneDue → next_from img enabled sun t ≡ None
  unfolding next_from minutes_ahead
  none-due-none h =
      let first = first_from any_at 1 10080 in
      none_left (leb first 10080) first (name_ahead img enabled sun t first) refl
      (λ l. false≢true (sym (all-fail (starts_at first) 0 (size_of img rules) (λ i _ u. h i first (omega arith) (at_least any_at 1 10080) l)) ∙ passes any_at 1 10080 (omega arith)))

-- OF A STORE ----------------------------------------------------------------------------------------------------------------------------
module _ (s : Store) (w : World) where
  -- without a clock it is unknown, whatever the set
  pub without-clock : w.wall ≡ None → next_start s w ≡ ClockUnknown
  unfolding next_start
  without-clock e = rw e

  -- with one it is what stands ahead of its minute
  module _ {clock : WallTime} (e : w.wall ≡ Some clock) where
    at-clock : next_start s w ≡ clock_known (next_of_set s.loaded s.vol.rest.enabled w.sun (week_minute clock))
    unfolding next_start
    at-clock = rw e

    -- without a set there is none
    pub without-set : s.loaded ≡ None → next_start s w ≡ NoStart
    unfolding next_of_set
    without-set l = at-clock ∙ ap (λ (o : Option RuleSet). clock_known (next_of_set o s.vol.rest.enabled w.sun (week_minute clock))) l

    module _ {set : RuleSet} (l : s.loaded ≡ Some set) where
      with-set : next_start s w ≡ clock_known (next_from set.image s.vol.rest.enabled w.sun (week_minute clock))
      unfolding next_of_set
      with-set = at-clock ∙ ap (λ (o : Option RuleSet). clock_known (next_of_set o s.vol.rest.enabled w.sun (week_minute clock))) l

      pub next-of-start : (m r : ℕ) → next_start s w ≡ Start (made m r) → IsNext set.image s.vol.rest.enabled w.sun (week_minute clock) m r
      next-of-start m r q = start-is-next set.image s.vol.rest.enabled w.sun (week_minute clock) m r (known-start (next_from set.image s.vol.rest.enabled w.sun (week_minute clock)) m r (sym with-set ∙ q))

      pub none-due-of-none : next_start s w ≡ NoStart → NoneDue set.image s.vol.rest.enabled w.sun (week_minute clock)
      none-due-of-none q = none-is-due set.image s.vol.rest.enabled w.sun (week_minute clock) (known-none (next_from set.image s.vol.rest.enabled w.sun (week_minute clock)) (sym with-set ∙ q))

      pub none-of-none-due : NoneDue set.image s.vol.rest.enabled w.sun (week_minute clock) → next_start s w ≡ NoStart
      none-of-none-due h = with-set ∙ ap clock_known (none-due-none set.image s.vol.rest.enabled w.sun (week_minute clock) h)

    -- and never unknown
    pub known-clock : next_start s w ≡ ClockUnknown → ⊥
    known-clock q = not-unknown (next_of_set s.loaded s.vol.rest.enabled w.sun (week_minute clock)) (sym at-clock ∙ q)
