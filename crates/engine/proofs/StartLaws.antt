-- The next start of a store that reads. Assumes nothing.
use mathlib.Core.Path.{◌≡◌, refl, sym, ap, ◌∙◌}
use mathlib.Core.Bool.{Bool}
use mathlib.Core.List.{List, [], ◌∷◌, map}
use Rattle.std.specs.Prelude.{Option, None, Some, Ok, Err, option_map}
use Prim.Native.Nat.{ℕ, zero, suc, ◌+◌, ◌-◌, ◌≤◌}
use native.Mathlib.Nat.{le_of_suc-le-suc, not-suc-le-zero}
use native.Mathlib.Omega.{arith}
use lib.ListN.{length, take, drop, length-drop}
use Rattle.model.specs.Asked.{shown_result}
use Rattle.model.specs.Refusals.{refusal_code}
use Rattle.model.specs.declared.Refusal.{Refusal}
use Rattle.model.specs.Codec.{rows_at}
use Rattle.model.specs.Parts.{bit}
use Rattle.model.specs.Snapshot.{snapshot_refusal}
use Rattle.model.specs.State.{RuleSet, Volatile, Store}
use Rattle.model.specs.Store.{rule_count, read}
use Rattle.model.specs.Wheel.{week_minute}
use Rattle.model.specs.World.{World, is_one, world_of}
use Rattle.model.specs.declared.SunTimes.{SunTimes}
use Rattle.rows.specs.Places.{table_at}
use Rattle.store.specs.Places.{state_place}
use Rattle.store.specs.Volatile.{changing_in}
use Rattle.store.proofs.Parts.{bits_at}
use Rattle.store.proofs.Stored.{from-read, volatile-read}
use Rattle.model.specs.declared.WallTime.{WallTime}
use Rattle.next.specs.NextStart.{clock_known, next_from, next_of_set, next_start, start_values}
use Rattle.next.specs.declared.FirstStart.{FirstStart}
use Rattle.next.specs.declared.NextStart.{NextStart}
use Rattle.next.specs.declared.NextStart.TheVariants.{ClockUnknown}
use Rattle.engine.specs.Asked.{start_asked, lowest_of, next_start_on}
use Rattle.std.proofs.lemmas.Option.{none-some, same_Some}
use Rattle.engine.proofs.LoadedLaws.{none-given}
use Rattle.engine.proofs.AskedLaws.{asked-answered, asked-refused}

-- THE BITS --------------------------------------------------------------------------------------------------------------------------------
-- rows of one word are the words
first-bits : (m n : ℕ) (v : List ℕ) → n ≤ m → n ≤ length v → take n (rows_at bit m v) ≡ take n v
unfolding rows_at
first-bits m zero v h l = refl
first-bits zero (suc n) v h l = absurd (not-suc-le-zero h)
first-bits (suc m) (suc n) [] h l = absurd (not-suc-le-zero l)
first-bits (suc m) (suc n) (x ∷ v) h l = ap (λ (t : List ℕ). x ∷ t) (first-bits m n v (le_of_suc-le-suc h) (le_of_suc-le-suc l))

bits-words : (w : List ℕ) (n : ℕ) → length w ≡ 16384 → n ≤ 64 → take n (drop state_place w) ≡ take n (changing_in w).bits
unfolding table_at
bits-words w n l h =
    sym (first-bits 64 n (drop state_place w) h (omega (arith, length-drop state_place w))) ∙ sym (ap (take n) (bits_at w))

module _ (w : List ℕ) (s : Store) (e : read w ≡ Some s) where
  -- the first words of the part, as many as there are rules
  pub enabled-words : (n to : ℕ) → n ≤ 64 → n ≡ rule_count s.loaded → to ≡ state_place + n → map is_one (take (to - state_place) (drop state_place w)) ≡ s.vol.rest.enabled
  enabled-words n to h q z =
      let r = from-read w s e in
      let m : to - state_place ≡ n = omega arith in
      ap (λ (k : ℕ). map is_one (take k (drop state_place w))) m
      ∙ ap (map is_one) (bits-words w n r.readable.long h)
      ∙ ap (λ (k : ℕ). map is_one (take k (changing_in w).bits)) q
      ∙ ap (λ (v : Volatile). v.rest.enabled) (volatile-read w s r)

-- THE SET ---------------------------------------------------------------------------------------------------------------------------------
module _ (s : Store) (sun : Option SunTimes) (t : ℕ) where
  pub nothing-starts : None ≡ option_map (λ (set : RuleSet). set.image) s.loaded → None ≡ next_of_set s.loaded s.vol.rest.enabled sun t
  unfolding next_of_set
  nothing-starts p = sym (ap (λ (o : Option RuleSet). next_of_set o s.vol.rest.enabled sun t) (none-given s.loaded p))

  pub starts_from : (img : List ℕ) (enabled : List Bool) (r : Option FirstStart) → Some img ≡ option_map (λ (set : RuleSet). set.image) s.loaded → enabled ≡ s.vol.rest.enabled
      → r ≡ next_from img enabled sun t → r ≡ next_of_set s.loaded s.vol.rest.enabled sun t
  unfolding next_of_set
  starts_from img enabled r h b q = q ∙ ap (λ (x : List Bool). next_from img x sun t) b ∙ go s.loaded h
    where
      go : (o : Option RuleSet) → Some img ≡ option_map (λ (set : RuleSet). set.image) o → next_from img s.vol.rest.enabled sun t ≡ next_of_set o s.vol.rest.enabled sun t
      go None e = absurd (none-some img (sym e))
      go (Some set) e = ap (λ (x : List ℕ). next_from x s.vol.rest.enabled sun t) (same_Some img set.image e)

-- THE CLOCK -------------------------------------------------------------------------------------------------------------------------------
module _ (s : Store) (w : World) (clock : Option WallTime) (is : clock ≡ w.wall) where
  pub unknown-clock : clock ≡ None → ClockUnknown ≡ next_start s w
  unfolding next_start
  unknown-clock e = rw (← is, e)

  pub known-clock : (time : WallTime) (sun : Option SunTimes) (t : ℕ) {o r : Option FirstStart} → clock ≡ Some time → sun ≡ w.sun → t ≡ week_minute time
      → o ≡ next_of_set s.loaded s.vol.rest.enabled sun t → o ≡ r → clock_known r ≡ next_start s w
  unfolding next_start
  known-clock time sun t e q f says r = rw (← is, e, ← q, ← f, ← r, says)

-- THE ANSWER ------------------------------------------------------------------------------------------------------------------------------
pub start-shown : (snap w : List ℕ) (s : Store) (r : NextStart) → read w ≡ Some s → snapshot_refusal snap ≡ 0 → r ≡ next_start s (world_of snap)
    → shown_result start_values (Ok r) [] ≡ next_start_on snap w
unfolding shown_result next_start_on
start-shown snap w s r i z e =
    ap start_asked e ∙ sym (asked-answered w s 0 (snapshot_refusal snap) (λ s. start_asked (next_start s (world_of snap))) i z)

pub start-refused : (snap w : List ℕ) (r : Refusal) → refusal_code r ≡ lowest_of (read w) w (snapshot_refusal snap) → shown_result start_values (Err r) [] ≡ next_start_on snap w
unfolding next_start_on
start-refused snap w r q = asked-refused start_values w r (snapshot_refusal snap) 0 _ [] refl q
