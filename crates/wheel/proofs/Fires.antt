-- Parts of a tick, one behind another, and what comes of one activation or resumption. Assumes nothing.
use Prim.Native.Nat.{ℕ, ◌+◌, ◌≤◌}
use native.Mathlib.Omega.{arith}
use mathlib.Core.Path.{◌≡◌, refl, sym, ap, subst, ◌∙◌}
use mathlib.Core.List.{List, []}
use lib.ListN.{length, get_or}
use Rattle.model.specs.Activate as model
use Rattle.model.specs.Activate.{no_outcome, and_then}
use Rattle.model.specs.Flat.{flatten_rules, set_of}
use Rattle.model.specs.State as model-state
use Rattle.model.specs.declared.Pending.{Pending}
use Rattle.flat.specs.Words.{Says}
use Rattle.state.specs.Meaning.{Means, meaning, base, accepted}
use Rattle.state.proofs.Follows.{next-is, accepted-by-next}
use Rattle.lent_words.proofs.Written as lent_written
use Rattle.activate.specs.Handled.{Continues, Room, Activates, Resumes, all_effects}
use Rattle.activate.specs.Carried.{Carried}
use Rattle.model.specs.declared.Mode.TheVariants.{Auto}
use Rattle.activate.proofs.Continues.{with_vol, then-continues, no-outcome, nothing-done, within_none, within-then, within_more}
use Rattle.activate.proofs.Written.{puts-length}
use Rattle.eval.specs.Answers.{env_in}
use Rattle.wheel.specs.Tick.{Fires}

-- the words keep their number
module _ {x : Carried} {ow ew : List ℕ} {h : model.Handled} {r : Carried} {ow' ew' : List ℕ} (c : Continues x ow ew h r ow' ew') where
  pub same-outcomes : length ow' ≡ length ow
  same-outcomes = ap length c.outcome_words ∙ puts-length ow x.outcomes x.effects h.outcomes

  pub same-effects : length ew' ≡ length ew
  same-effects = ap length c.effect_words ∙ lent_written.puts-length ew x.effects (all_effects h.outcomes)

-- ONE RULE ----------------------------------------------------------------------------------------------------------------------------------
module _ (snapshot image part : List ℕ) (own i : ℕ) (x : Carried) (ow ew : List ℕ) (r : Carried) (ow' ew' : List ℕ) (s : Says part own (get_or (set_of image (flatten_rules image)).flat i [])) where
  pub activated : (kind : ℕ) → Activates snapshot image part own i kind Auto x ow ew r ow' ew' → Fires 1 (model.activate (env_in snapshot image) i kind Auto) x ow ew r ow' ew'
  unfolding env_in set_of
  activated kind a = record { says = a.says (set_of image (flatten_rules image)).flat s; within = a.within }

  pub resumed : (c : Pending) → Resumes snapshot image part own i c x ow ew r ow' ew' → Fires 1 (model.resume (env_in snapshot image) c) x ow ew r ow' ew'
  unfolding env_in set_of
  resumed c a = record { says = a.says (set_of image (flatten_rules image)).flat s; within = a.within }

-- PARTS -------------------------------------------------------------------------------------------------------------------------------------
-- the same, by what the definition gives at this state
pub same-part : (n : ℕ) (h k : model-state.Volatile → model.Handled) {x : Carried} {ow ew : List ℕ} {r : Carried} {ow' ew' : List ℕ} → k (meaning x.vol) ≡ h (meaning x.vol) → Fires n h x ow ew r ow' ew' → Fires n k x ow ew r ow' ew'
same-part n h k {x} {ow} {ew} {r} {ow'} {ew'} e f = record { says = subst (λ (g : model.Handled). Continues x ow ew g r ow' ew') (sym e) f.says; within = f.within }

pub more-part : (n m : ℕ) {h : model-state.Volatile → model.Handled} {x : Carried} {ow ew : List ℕ} {r : Carried} {ow' ew' : List ℕ} → n ≤ m → Fires n h x ow ew r ow' ew' → Fires m h x ow ew r ow' ew'
more-part n m {x = x} {r = r} b f = record { says = f.says; within = within_more n m x r b f.within }

-- nothing is done
pub skips : (n : ℕ) (h : model-state.Volatile → model.Handled) (x : Carried) (ow ew : List ℕ) → h (meaning x.vol) ≡ no_outcome (meaning x.vol) → Fires n h x ow ew x ow ew
skips n h x ow ew e = record {
  says = subst (λ (g : model.Handled). Continues x ow ew g x ow ew) (sym e) (nothing-done x ow ew);
  within = within_more 0 n x x (omega arith) (within_none x x refl refl refl refl);
}

-- one behind another
pub then-fires :
    (n m : ℕ) (h k : model-state.Volatile → model.Handled) {x : Carried} {ow ew : List ℕ} {y : Carried} {ow' ew' : List ℕ} {r : Carried} {ow'' ew'' : List ℕ}
    → Fires n h x ow ew y ow' ew' → Fires m k y ow' ew' r ow'' ew'' → Fires (n + m) (λ v. and_then (h v) k) x ow ew r ow'' ew''
then-fires n m h k {x} {ow} {ew} {y} {ow'} {ew'} {r} {ow''} {ew''} f g = record {
  says = then-continues x ow ew (h (meaning x.vol)) y ow' ew' k r ow'' ew'' f.says (subst (λ (v : model-state.Volatile). Continues y ow' ew' (k v) r ow'' ew'') f.says.state.says g.says);
  within = within-then n m x y r f.within g.within;
}

-- the state changes, and keeps its numbers
module _ (f : model-state.Volatile → model-state.Volatile) (x : Carried) {w : List ℕ} (m : Means w (base x.vol) (f (meaning x.vol))) (next : (f (meaning x.vol)).next ≡ (meaning x.vol).next)
    (last : (f (meaning x.vol)).last_number ≡ (meaning x.vol).last_number) where
  same-accepted : accepted w ≡ accepted x.vol
  same-accepted = omega (arith, accepted-by-next w (base x.vol) (f (meaning x.vol)) m, next-is x.vol, next)

  same-last : (meaning w).last_number ≡ (meaning x.vol).last_number
  same-last = ap (λ (v : model-state.Volatile). v.last_number) m.says ∙ last

  pub changed : (ow ew : List ℕ) → Fires 0 (λ v. no_outcome (f v)) x ow ew (with_vol w x) ow ew
  changed ow ew = record {
    says = no-outcome x ow ew (f (meaning x.vol)) (with_vol w x) m refl refl;
    within = within_none x (with_vol w x) same-accepted same-last refl refl;
  }

  -- and something is done behind it
  pub after-change :
      (n : ℕ) (k : model-state.Volatile → model.Handled) {ow ew : List ℕ} {r : Carried} {ow' ew' : List ℕ} → Fires n k (with_vol w x) ow ew r ow' ew'
      → Fires n (λ v. k (f v)) x ow ew r ow' ew'
  after-change n k {ow} {ew} {r} {ow'} {ew'} g =
      let t = then-fires 0 n (λ v. no_outcome (f v)) k (changed ow ew) g in
      record { says = t.says; within = within_more (0 + n) n x r (omega arith) t.within }

  pub room_after : (n : ℕ) → Room n x → Room n (with_vol w x)
  room_after n a = record { accepted = omega (arith, same-accepted, a.accepted); outcomes = a.outcomes; effects = a.effects; numbers = omega (arith, same-last, a.numbers) }
