-- From the earliest start to the answer. Assumes nothing.
use mathlib.Core.Path.{◌≡◌, refl, ap, ◌∙◌}
use mathlib.Core.Bool.{Bool}
use mathlib.Core.List.{List}
use Rattle.std.specs.Prelude.{Option, None, Some}
use Prim.Native.Nat.{ℕ, ◌≤◌, ◌<◌}
use lib.Dec.{leb}
use borrow.Author.Tests.{le-leb, lt-leb}
use Rattle.model.specs.Rules.{name_of, rule_indices}
use Rattle.model.specs.declared.SunTimes.{SunTimes}
use Rattle.next.specs.NextStart.{starts_in, minutes_ahead, name_ahead, start_or_none, next_from}
use Rattle.next.specs.Distance.{best_of}
use Rattle.next.specs.declared.FirstStart.{FirstStart}
use Rattle.next.proofs.BestStart.{Says, best-says}

a-start : (m m' r r' : ℕ) → m ≡ m' → r ≡ r' → m ≤ 10080 → Some (record { minutes = m; name = r }) ≡ start_or_none (leb m' 10080) m' r'
a-start m m' r r' e f h = rw (← e, ← f, le-leb m 10080 h)

none-at : (m m' r : ℕ) → m ≡ m' → 10080 < m → None ≡ start_or_none (leb m' 10080) m' r
none-at m m' r e h = rw (← e, lt-leb m 10080 h)

module _ (img : List ℕ) (enabled : List Bool) (sun : Option SunTimes) (t : ℕ) where
  says : Says (starts_in img enabled sun t) (name_of img) (rule_indices img) (best_of img enabled sun t)
  unfolding best_of
  says = best-says (starts_in img enabled sun t) (name_of img) (rule_indices img)

  -- the earliest start is the definition's
  pub best-next : best_of img enabled sun t ≡ next_from img enabled sun t
  unfolding next_from minutes_ahead name_ahead Says
  best-next = go (best_of img enabled sun t) says
    where
      go : (o : Option FirstStart) → Says (starts_in img enabled sun t) (name_of img) (rule_indices img) o → o ≡ next_from img enabled sun t
      go (Some b) s = a-start b.minutes (minutes_ahead img enabled sun t) b.name (name_ahead img enabled sun t (minutes_ahead img enabled sun t)) s.0 (s.2 ∙ ap (name_ahead img enabled sun t) s.0) s.1
      go None s = none-at (minutes_ahead img enabled sun t) (minutes_ahead img enabled sun t) (name_ahead img enabled sun t (minutes_ahead img enabled sun t)) refl s
