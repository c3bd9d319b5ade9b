-- The part that a store keeps for a rule of its set: it says the rule's lists. Assumes nothing.
use Prim.Native.Nat.{ℕ, ◌<◌}
use native.Mathlib.Omega.{arith}
use mathlib.Core.Path.{◌≡◌}
use mathlib.Core.List.{List, []}
use lib.ListN.{length, get_or}
use Rattle.model.specs.Flat.{Flattened, no_steps, part_of, flatten_rules}
use Rattle.model.specs.Image.{size_of}
use Rattle.model.specs.Load.{image_refusal}
use Rattle.model.specs.Rows.{rules}
use Rattle.model.specs.State.{RuleSet}
use Rattle.flat.specs.Words.{layout, Says}
use Rattle.store.specs.FlatPart.{FlatPart, Kept, KeepsRule}
use Rattle.store.proofs.LoadedSet.{kept_rule, said-by}
use Rattle.store.proofs.FlatRules.{keeps-rule}

-- `is` is what `rule_flat` ensures
module _ (store image : List ℕ) (set : RuleSet) (kept : Kept store image set) (i : ℕ) (inside : i < size_of image rules) (part : List ℕ) (own : ℕ)
    (is : (fs : List Flattened) → FlatPart store fs → i < length fs → (part ≡ layout (part_of (get_or fs i no_steps))) × (own ≡ length (get_or fs i no_steps).bodies)) where
  pub part_says : Says part own (get_or set.flat i [])
  part_says =
      let below : i < length set.flat = omega (arith, inside, kept.rules) in
      let e = is (flatten_rules image) kept.flat (kept_rule store image set kept i below) in
      said-by store image set kept i below part own e.0 e.1

-- the rule of a set that the store keeps
pub keeps : (store image : List ℕ) (set : RuleSet) → Kept store image set → image_refusal image ≡ 0 → (i : ℕ) → i < size_of image rules → KeepsRule store i
keeps store image set k ok i h = keeps-rule store image ok k.flat i h
