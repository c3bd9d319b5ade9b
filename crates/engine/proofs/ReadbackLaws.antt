-- The readback of solar starts of a store that reads. Assumes nothing.
use mathlib.Core.Path.{◌≡◌, refl, sym, ap, ◌∙◌}
use mathlib.Core.List.{List, [], ◌∷◌}
use Rattle.std.specs.Prelude.{Option, None, Some, Ok, Err, option_map}
use Prim.Native.Nat.{ℕ, ◌-◌, ◌/◌, ◌≤◌}
use native.Mathlib.Omega.{arith}
use lib.ListN.{length, replicate}
use borrow.Author.Tests.{le-leb}
use Rattle.std.proofs.lemmas.Option.{none-some, same_Some}
use Rattle.model.specs.Asked.{Asked, shown_result}
use Rattle.model.specs.Refusals.{refusal_code}
use Rattle.model.specs.declared.Refusal.{Refusal}
use Rattle.model.specs.Rules.{triggers_of, rule_named}
use Rattle.model.specs.Snapshot.{snapshot_refusal}
use Rattle.model.specs.State.{RuleSet, Store}
use Rattle.model.specs.Store.{read}
use Rattle.model.specs.World.{world_of}
use Rattle.model.specs.declared.SunTimes.{SunTimes}
use Rattle.model.specs.declared.Trigger.{Trigger}
use Rattle.model.specs.Readback.{solar_starts, triggers_at, triggers_named, count_values, shown_starts, readback, readback_on}
use Rattle.engine.specs.Asked.{lowest_of}
use Rattle.engine.proofs.AskedLaws.{asked-answered, asked-refused}
use Rattle.engine.proofs.HandlingLaws.{zeros-long}
use Rattle.engine.proofs.LoadedLaws.{none-given}

-- ON A STORE -----------------------------------------------------------------------------------------------------------------------------
module _ (s : Store) (rule : ℕ) (snap : List ℕ) where
  by-triggers : (ts : List Trigger) (room : ℕ) → triggers_named s.loaded rule ≡ ts → readback rule snap room s ≡ shown_starts room (solar_starts (world_of snap).sun ts)
  unfolding readback
  by-triggers ts room e = ap (λ (x : List Trigger). shown_starts room (solar_starts (world_of snap).sun x)) e

  -- no trigger: words that are 0 stay so
  no-start : (v : List ℕ) → v ≡ replicate (length v) 0 → triggers_named s.loaded rule ≡ [] → shown_result count_values (Ok 0) v ≡ readback rule snap (length v) s
  unfolding shown_result shown_starts solar_starts
  no-start v z e =
      let more : length v ≡ length v - 0 = omega arith in
      let low : 0 ≤ length v / 3 = omega arith in
      ap (λ (l : List ℕ). record { number = 0; values = count_values 0; lent = l }) (z ∙ ap (λ (k : ℕ). replicate k 0) more)
      ∙ sym (by-triggers [] (length v) e ∙ rw (le-leb 0 (length v / 3) low) refl)

  module _ (v : List ℕ) (z : v ≡ replicate (length v) 0) where
    pub no-set : None ≡ option_map (λ (set : RuleSet). set.image) s.loaded → shown_result count_values (Ok 0) v ≡ readback rule snap (length v) s
    unfolding triggers_named
    no-set p = no-start v z (ap (λ (o : Option RuleSet). triggers_named o rule) (none-given s.loaded p))

  module _ (img : List ℕ) (h : Some img ≡ option_map (λ (set : RuleSet). set.image) s.loaded) where
    named : triggers_named s.loaded rule ≡ triggers_at img (rule_named img rule)
    unfolding triggers_named
    named = go s.loaded h
      where
        go : (o : Option RuleSet) → Some img ≡ option_map (λ (set : RuleSet). set.image) o → triggers_named o rule ≡ triggers_at img (rule_named img rule)
        go None e = absurd (none-some img (sym e))
        go (Some set) e = ap (λ (x : List ℕ). triggers_at x (rule_named x rule)) (sym (same_Some img set.image e))

    pub unknown-rule : (v : List ℕ) → v ≡ replicate (length v) 0 → None ≡ rule_named img rule → shown_result count_values (Ok 0) v ≡ readback rule snap (length v) s
    unknown-rule v z q = no-start v z (named ∙ ap (triggers_at img) (sym q))

    pub known-rule : (i room : ℕ) (sun : Option SunTimes) {a : Asked} → Some i ≡ rule_named img rule → sun ≡ (world_of snap).sun
        → a ≡ shown_starts room (solar_starts sun (triggers_of img i)) → a ≡ readback rule snap room s
    known-rule i room sun q e w =
        w ∙ ap (λ (o : Option SunTimes). shown_starts room (solar_starts o (triggers_of img i))) e
        ∙ sym (by-triggers (triggers_of img i) room (named ∙ ap (triggers_at img) (sym q)))

-- ON WORDS -------------------------------------------------------------------------------------------------------------------------------
-- in lent words v that were cleared
module _ (rule : ℕ) (snap w v : List ℕ) (k : ℕ) (z : v ≡ replicate k 0) where
  pub readback-shown : (s : Store) {a : Asked} → read w ≡ Some s → snapshot_refusal snap ≡ 0 → a ≡ readback rule snap (length v) s → a ≡ readback_on rule snap k w
  unfolding readback_on
  readback-shown s e n h =
      h ∙ ap (λ (room : ℕ). readback rule snap room s) (zeros-long v k z) ∙ sym (asked-answered w s k (snapshot_refusal snap) (readback rule snap k) e n)

  pub readback-refused : (r : Refusal) → refusal_code r ≡ lowest_of (read w) w (snapshot_refusal snap) → shown_result count_values (Err r) v ≡ readback_on rule snap k w
  unfolding readback_on
  readback-refused r q = asked-refused count_values w r (snapshot_refusal snap) k (readback rule snap k) v z q
