-- Continuations of the set, and those of them that are due. Assumes nothing.
use Prim.Native.Nat.{ℕ, zero, suc, ◌≤◌, ◌<◌}
use native.Mathlib.Nat.{le_of_suc-le-suc, not-suc-le-zero}
use native.Mathlib.Omega.{arith}
use mathlib.Core.Path.{◌≡◌, sym, ap, subst, ◌∙◌}
use mathlib.Core.Bool.{Bool, true, false≢true}
use mathlib.Core.List.{List, [], ◌∷◌}
use Rattle.std.specs.Prelude.{None}
use lib.Dec.{ltb, leb}
use lib.ListN.{length, get_or, get_or-map}
use borrow.Author.Tests.{ltb-true}
use Rattle.std.proofs.lemmas.Bool.{and_parts}
use Rattle.model.specs.Flat.{flatten_rules, set_of}
use Rattle.model.specs.Image.{budget}
use Rattle.model.specs.Lists.{all, keep}
use Rattle.model.specs.Load.{image_refusal}
use Rattle.model.specs.Rules.{rule_named}
use Rattle.model.specs.Store.{in_rule, pending_fits}
use Rattle.model.specs.Wheel.{due_before, due_now, due_indices}
use Rattle.model.specs.declared.Pending.{Pending}
use Rattle.model.proofs.SortLaws.{all_keep, all-sort, all_map}
use Rattle.model.proofs.DueIndices.{due_below, records-due}
use Rattle.state.specs.Meaning.{meaning}
use Rattle.store.specs.Volatile.{record_in}
use Rattle.store.proofs.KeptRows.{record-kept}
use Rattle.image.proofs.Accepted.{budget-fits}
use Rattle.store.proofs.SetRules.{image-accepted}
use Rattle.wheel.specs.Tick.{HasRecords, fits_set, are_indices, records_in}

-- ---- one of the set
module _ (img : List ℕ) (c : Pending) (fits : fits_set img c ≡ true) where
  parts : (in_rule (set_of img (flatten_rules img)) c (rule_named img c.rule) ≡ true) × (ltb c.budget (budget img) ≡ true)
  unfolding pending_fits set_of
  parts = and_parts (in_rule (set_of img (flatten_rules img)) c (rule_named img c.rule)) (ltb c.budget (budget img)) fits

  pub small-budget : image_refusal img ≡ 0 → c.budget ≤ 256
  small-budget ok = let b = budget-fits img (image-accepted img ok).passes in omega (arith, b.1, ltb-true c.budget (budget img) parts.1)

  pub has-rule : rule_named img c.rule ≡ None → ⊥
  has-rule e = false≢true (rw e at parts.0)

-- ---- all of some records
module _ {A : Type 0} (p : A → Bool) where
  pub all-at : (l : List A) (k : ℕ) (d : A) → all p l ≡ true → k < length l → p (get_or l k d) ≡ true
  all-at [] k d a h = absurd (not-suc-le-zero h)
  all-at (x ∷ l) zero d a h = (and_parts (p x) (all p l) a).0
  all-at (x ∷ l) (suc k) d a h = all-at l k d (and_parts (p x) (all p l) a).1 (le_of_suc-le-suc h)

pub all-due : (p : Pending → Bool) (now : ℕ) (ps : List Pending) → all p ps ≡ true → all p (due_now now ps) ≡ true
unfolding due_now
all-due p now ps a = all-sort p due_before (keep (λ (c : Pending). leb c.due now) ps) (all_keep p (λ (c : Pending). leb c.due now) ps a)

-- ---- the records at indices, as the store has them
module _ (w due : List ℕ) (j : ℕ) (inside : j < length due) where
  pub record-fits : (p : Pending → Bool) {c : Pending} → all p (records_in w due) ≡ true → c ≡ record_in w (get_or due j 0) → p c ≡ true
  record-fits p a e = ap p e ∙ all-at (λ i. p (record_in w i)) due j 0 (sym (all_map (record_in w) p due) ∙ a) inside

pub record-next : (w due : List ℕ) (j : ℕ) {c : Pending} → c ≡ record_in w (get_or due j 0) → c ≡ get_or (records_in w due) j (record_in w 0)
record-next w due j e = e ∙ sym (get_or-map (record_in w) due j 0)

-- at the indices of what is due
module _ (store v : List ℕ) (now : ℕ) (is : List ℕ) (e : is ≡ due_indices now (meaning v).pending) where
  pub due-indices : length (meaning v).pending ≤ 32 → are_indices is ≡ true
  due-indices s = ap are_indices e ∙ due_below now (meaning v).pending 32 s

  pub due-records : HasRecords store v → records_in store is ≡ due_now now (meaning v).pending
  due-records held =
      ap (records_in store) e
      ∙ records-due now (meaning v).pending (record_in store) (record_in store 0)
      (λ i h. record-kept store i (record_in store 0) (subst (λ (l : List Pending). i < length l) (sym held) h) ∙ ap (λ (l : List Pending). get_or l i (record_in store 0)) held)
